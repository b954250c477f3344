-- The characters that tables make unsafe.
pub mod KeyUnitLemmas
pub mod EntryLemmas
pub mod MetLemmas
pub mod UnsafeTextLemmas
pub mod UnsafeWordLemmas
pub mod UnsafeTableLemmas
pub mod RisingLemmas
pub mod UnsafeLemmas
