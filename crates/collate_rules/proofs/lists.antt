-- full lists
pub mod BadListLemmas
pub mod RuleFullListLemmas
pub mod LowLemmas
