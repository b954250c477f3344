pub mod DigitLemmas
pub mod DigitPairLemmas
pub mod NumberBytesLemmas
pub mod NumberOrderLemmas
pub mod NumberPartLemmas
pub mod PairIndexLemmas
