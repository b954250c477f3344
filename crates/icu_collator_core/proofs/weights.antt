pub mod RangePrimaryLemmas
pub mod ReorderingLemmas
pub mod NotedLemmas
pub mod ReorderedHalfLemmas
pub mod SpelledLemmas
pub mod PrimaryRestLemmas
pub mod SettingLemmas
pub mod LeadLemmas
