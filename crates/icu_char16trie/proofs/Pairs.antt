-- Keys with their values.
pub mod SortedPairLemmas
pub mod SameListLemmas
pub mod GroupLemmas
