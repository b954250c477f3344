pub mod ChoiceGivenLemmas
pub mod ChoiceNameLemmas
pub mod ChoiceWordLemmas
