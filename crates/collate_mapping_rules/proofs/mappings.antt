-- what mapping steps leave as more parts say them, their loops, marks put in order, and pairs that compose
pub mod BeginningLemmas
pub mod ComposedPairLemmas
pub mod GrowingStepLemmas
pub mod LowChainLemmas
pub mod MappingOrderLemmas
pub mod NamedLoopLemmas
pub mod WaitingLemmas
