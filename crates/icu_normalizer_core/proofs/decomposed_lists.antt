-- decomposed lists and their marks
pub mod DecomposedLemmas
pub mod FormingLemmas
pub mod MarkLemmas
pub mod SortLemmas
pub mod RunLemmas
pub mod CanonicalStepLemmas
pub mod IterLemmas
pub mod ScalarLemmas
