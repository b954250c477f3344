-- records and settings, and the rules V7 to V13, V15 and `set` on them
pub mod DecomposedTextLemmas
pub mod DropLemmas
pub mod ExchangeLemmas
pub mod RecordGrowthLemmas
pub mod OrderedLemmas
mod RecordRuleExamples
pub mod RecordSettingLemmas
pub mod ShorterLemmas
pub mod SoundSettingLemmas
pub mod UnlikeDecomposedLemmas
pub mod LineTestLemmas
pub mod DigitLemmas
