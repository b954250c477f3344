pub mod composed
pub mod cuts
pub mod equivalence
pub mod forms
pub mod noted
pub mod passed
pub mod writing
