pub mod IdenticalLemmas
pub mod NormalisingLemmas
