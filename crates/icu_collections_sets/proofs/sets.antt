pub mod InversionListLemmas
pub mod UniqueListLemmas
pub mod GapLemmas
pub mod SpanLemmas
pub mod CharacterLemmas
