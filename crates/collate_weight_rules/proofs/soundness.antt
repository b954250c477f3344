-- what lines give of weights, and the rules V1 to V6 on them
pub mod WeightRuleApartLemmas
pub mod WeightRuleLeadLemmas
pub mod WeightRuleRangeLemmas
pub mod WeightRuleSaidLemmas
pub mod PlacedLemmas
pub mod StayLemmas
mod WeightExamples
pub mod RangeLeadLemmas
pub mod RangeOrderLemmas
