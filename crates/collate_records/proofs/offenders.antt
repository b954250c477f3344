-- what lines give that keep the rules
pub mod ClassLemmas
