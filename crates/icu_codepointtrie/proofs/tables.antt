pub mod FastSlotLemmas
pub mod TomlTableLemmas
