-- Words with what stands beside a character, and contexts.
pub mod WrittenKeyLemmas
pub mod TrieKeyLemmas
pub mod SortedKeyLemmas
pub mod WrittenContextLemmas
pub mod WordFormLemmas
pub mod SayingLemmas
pub mod SameContextLemmas
pub mod SayingGrowthLemmas
pub mod WritingLemmas
