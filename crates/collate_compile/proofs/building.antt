-- how layers are built
pub mod BuildingGrowthLemmas
pub mod LayerLemmas
pub mod LineLemmas
pub mod MapLemmas
pub mod SourceLemmas
pub mod WrittenBlockLemmas
pub mod BuiltRoomLemmas
