pub mod AfterNumberLemmas
pub mod BeforeDigitLemmas
pub mod SplitAtDigitLemmas
