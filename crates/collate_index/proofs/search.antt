-- the places of names in an index
pub mod IndexLemmas
pub mod SearchListingLemmas
