-- Weights that keep apart: lists that grow, weights in order, and what the lists of all that is spelled say.
pub mod GrowthLemmas
pub mod ApartOrderLemmas
pub mod BeginningLemmas
pub mod LevelLemmas
pub mod GatheringLemmas
pub mod ApartSpellingLemmas
pub mod DecisionLemmas
