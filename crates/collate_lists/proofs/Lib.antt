pub mod NameChangeLemmas
pub mod NamesLemmas
pub mod NameRankLemmas
pub mod NameSearchLemmas
pub mod Renumbering
pub mod Rows
pub mod PartIndices
pub mod SlotFrontLemmas
pub mod Ranks
mod ChainLemmas
