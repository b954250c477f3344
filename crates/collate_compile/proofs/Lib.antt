pub mod building
pub mod gathering
pub mod setting
