pub mod making
pub mod order
pub mod reloading
pub mod search
