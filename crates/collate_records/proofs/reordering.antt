-- files whose lines stand in another order
pub mod AcceptedMovedLemmas
pub mod CanonicalMovedLemmas
pub mod FewerLineLemmas
pub mod LimitMovedLemmas
pub mod ReorderedRuleLemmas
pub mod LowMovedLemmas
pub mod LowRuleLemmas
pub mod MovedListLemmas
pub mod SameSayingLemmas
pub mod SettingMovedLemmas
pub mod TogetherRuleLemmas
