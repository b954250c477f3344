pub mod Files
pub mod Asked
pub mod Letters
pub mod Keys
