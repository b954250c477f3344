pub mod bytes
pub mod commands
pub mod lines
pub mod moved
