-- The reader of unit tries.
pub mod OutcomeLemmas
pub mod SoundReadsLemmas
pub mod CompleteReadsLemmas
pub mod PartStepLemmas
pub mod ProgressLemmas
pub mod QueueLemmas
pub mod ErrorLemmas
pub mod TestLemmas
pub mod FoldLemmas
pub mod FoldedKeyLemmas
