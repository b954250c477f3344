pub mod SetEditLemmas
pub mod OperationLemmas
pub mod ToggleLemmas
