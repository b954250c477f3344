pub mod Alike
pub mod Files
pub mod Forms
pub mod Loads
pub mod NumbersApart
pub mod OverRecords
pub mod Unchanged
