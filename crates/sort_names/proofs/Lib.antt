pub mod OperandLemmas
pub mod TextLemmas
pub mod WrittenLemmas
