-- what composes
pub mod CompositionLemmas
pub mod PairLemmas
pub mod SteadyLemmas
pub mod ReadingLemmas
pub mod SyllableLemmas
