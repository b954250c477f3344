pub mod Operands
pub mod Texts
