pub mod DecomposedDigitsLemmas
pub mod NumberKeyLemmas
pub mod NumberLevelLemmas
pub mod NumbersInTextsLemmas
