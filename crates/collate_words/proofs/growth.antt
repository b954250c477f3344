pub mod FrontLemmas
pub mod OwnGrowthLemmas
