-- from the bytes of a file to its first fault: lines, the phases
pub mod ReadingAcceptedLemmas
pub mod ReadingFaultLemmas
pub mod NumberedLemmas
pub mod RankLemmas
pub mod ReadLineLemmas
pub mod ReadingScalarLemmas
pub mod ReadingSoundSettingLemmas
pub mod ReadingSoundWeightLemmas
pub mod StandardLimitLemmas
