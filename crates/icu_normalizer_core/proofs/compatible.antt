-- compatibility data
pub mod CompatibilityWalkLemmas
pub mod CompatibleLemmas
pub mod FixedListLemmas
pub mod SteadyCompatibilityLemmas
pub mod HarmlessLemmas
