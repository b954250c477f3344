pub mod sets
pub mod edits
pub mod texts
