pub mod MappedRangeLemmas
pub mod SharedBlockLemmas
pub mod MaximalRangeLemmas
pub mod CellRunLemmas
