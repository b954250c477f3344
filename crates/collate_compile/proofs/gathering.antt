-- What is gathered of lines: entries, and the characters that begin records.
pub mod GatherLemmas
pub mod BesideLemmas
pub mod AcceptedLineLemmas
pub mod GatheringFlagLemmas
pub mod GatheringEntryLemmas
pub mod GatheringBeginningLemmas
pub mod NameLemmas
pub mod JamoLineLemmas
pub mod OwnLineLemmas
pub mod TextLemmas
