pub mod Fronts
pub mod AheadLists
