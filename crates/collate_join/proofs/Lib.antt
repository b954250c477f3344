pub mod FaultLemmas
pub mod JoinLemmas
pub mod PartLemmas
