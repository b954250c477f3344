-- what a check finds at fault
pub mod FaultLemmas
pub mod OffenderLemmas
pub mod PairTestLemmas
pub mod BuiltInTestLemmas
pub mod ToldLemmas
