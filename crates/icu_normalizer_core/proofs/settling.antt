-- mapping steps until no more can be taken
pub mod EndingLemmas
pub mod SettledLemmas
pub mod SettlingLemmas
pub mod DepthLemmas
pub mod LeftLemmas
pub mod MappingDepthLemmas
pub mod TripleLemmas
