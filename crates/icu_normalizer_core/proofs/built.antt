-- what is built in
pub mod BuiltInFacts
pub mod GapFacts
