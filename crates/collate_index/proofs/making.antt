-- making a collator of records
pub mod LentLemmas
pub mod IndexMadeLemmas
