-- which line offends first against a rule
pub mod BreachLemmas
pub mod LimitLemmas
pub mod LineRuleLemmas
pub mod MappedMarkLemmas
pub mod NamedCharacterLemmas
pub mod OffenderPairLemmas
pub mod PartRuleLemmas
pub mod RoomLemmas
pub mod ShortLineLemmas
