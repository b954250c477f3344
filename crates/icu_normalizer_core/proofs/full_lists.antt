-- full lists
pub mod FullListLemmas
pub mod FullStartLemmas
pub mod JoinedStartLemmas
pub mod WordListLemmas
