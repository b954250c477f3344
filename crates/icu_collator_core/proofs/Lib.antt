pub mod numbers
pub mod readings
pub mod weights
pub mod checks
pub mod meaning
pub mod lookups
pub mod apart
pub mod unsafety
mod TableExamples
mod TableFaultExamples
mod ContextExamples
mod WeightFaultExamples
mod PrefixFaultExamples
