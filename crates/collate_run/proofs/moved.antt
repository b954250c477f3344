-- runs over a file whose lines stand in another order
pub mod ReplyLemmas
pub mod RunLawMovedLemmas
pub mod TouchedLemmas
