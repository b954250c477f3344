-- notes of characters, and their own and mapped lists
pub mod FormNoteLemmas
pub mod OwnLemmas
pub mod MappedLemmas
