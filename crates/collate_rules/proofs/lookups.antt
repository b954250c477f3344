-- what is found in lines
pub mod FoundLemmas
pub mod RuleLookupLemmas
