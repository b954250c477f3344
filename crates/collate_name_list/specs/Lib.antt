pub mod AddErrors
pub mod Room
pub mod Slots
pub mod StoredNames
pub mod Keys
