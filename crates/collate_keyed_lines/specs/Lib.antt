pub mod KeyedLines
pub mod Slots
