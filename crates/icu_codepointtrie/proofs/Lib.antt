pub mod walks
pub mod tables
pub mod built
