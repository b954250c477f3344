pub mod MergedOptionLemmas
mod OptionsExamples
