pub mod Grammar
pub mod Keys
pub mod Limits
pub mod Lines
pub mod Record
pub mod Repeats
pub mod Rule
pub mod Seen
