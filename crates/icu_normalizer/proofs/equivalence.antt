pub mod ComposedLemmas
pub mod EquivalenceLemmas
pub mod NormalFormLemmas
pub mod TextFormLemmas
