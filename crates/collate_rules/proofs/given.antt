-- What lines give of weights and counts.
pub mod GivenCountLemmas
pub mod GivesLemmas
pub mod GrammarLemmas
pub mod GivenListLemmas
pub mod GivenIndexLemmas
pub mod GivenSoundLemmas
