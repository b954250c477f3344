-- mapping steps of lines that keep the rules: where they end, and what composes
pub mod ComposedPairLemmas
pub mod MappingDecomposingLemmas
pub mod MappingStepLemmas
