-- The check of tables: contexts, lists and tests one after another.
pub mod ContextLemmas
pub mod KeyLemmas
pub mod FlagLemmas
pub mod CheckedFoldLemmas
pub mod CheckedListLemmas
pub mod LookupLemmas
pub mod RecordLemmas
pub mod CheckedTestLemmas
pub mod UnrecordedLemmas
pub mod CheckedValueLemmas
pub mod WalkLemmas
