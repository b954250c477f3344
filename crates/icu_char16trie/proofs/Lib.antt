pub mod Cursors
mod Grammar
pub mod Reading
mod Pairs
pub mod Writing
