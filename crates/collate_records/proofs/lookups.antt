-- what is found in lines and in tables of characters
pub mod LookedUpKeyLemmas
