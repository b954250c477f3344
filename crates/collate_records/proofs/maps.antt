-- what lines say, as maps of canonical data and of compatibility data
pub mod AcceptedAllMapsLemmas
pub mod AllMapLemmas
pub mod AnyStepLemmas
pub mod BuildErrorLemmas
pub mod CompatibilityLineLemmas
pub mod MapLineLemmas
pub mod MapMeaningLemmas
pub mod MapNameLemmas
pub mod MapPairLemmas
pub mod MapRuleLemmas
pub mod RoomMapLemmas
