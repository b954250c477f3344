-- The writer of unit tries.
pub mod NumberFormLemmas
pub mod NodeMeaningLemmas
pub mod BranchMeaningLemmas
pub mod LayoutLemmas
pub mod TaskLemmas
pub mod KeyFaultLemmas
pub mod RoundTripLemmas
