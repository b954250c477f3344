pub mod ElementBits
pub mod ElementWords
pub mod NotedOptions
pub mod Options
pub mod TrieValues
