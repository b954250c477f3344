pub mod mappings
pub mod lists
