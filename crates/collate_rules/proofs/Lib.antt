pub mod lists
pub mod lookups
pub mod mappings
pub mod offenders
pub mod given
pub mod records
