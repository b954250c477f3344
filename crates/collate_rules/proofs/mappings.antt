-- mapping steps: what is built in, what lines say, and where steps end
pub mod BuiltInFallLemmas
pub mod CanonicalPartLemmas
pub mod MappingEndingLemmas
pub mod LoopLemmas
pub mod LoopPartLemmas
pub mod PartMapLemmas
pub mod PartsOfLinesLemmas
pub mod SoonEndedLemmas
