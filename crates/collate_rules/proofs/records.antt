-- what lines note of characters and record of texts
pub mod BreakLemmas
pub mod MappedLemmas
pub mod RecordNotedLemmas
pub mod RecordedLemmas
pub mod RecordedTextLemmas
