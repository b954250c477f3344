pub mod BackwardLemmas
pub mod BoundLemmas
pub mod CompareLemmas
pub mod CountedLemmas
pub mod ListGivenLemmas
pub mod CollatorListLemmas
pub mod ListSpelledLemmas
