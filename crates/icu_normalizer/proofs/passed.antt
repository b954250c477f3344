-- fronts that stay as they stand
pub mod PassedLemmas
pub mod SkipLemmas
pub mod TextWalkLemmas
pub mod FormTextLemmas
