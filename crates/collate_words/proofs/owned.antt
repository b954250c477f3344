pub mod ElementLemmas
pub mod OwnWordLemmas
pub mod TagLemmas
