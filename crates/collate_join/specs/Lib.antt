pub mod Join
pub mod Keys
pub mod Kept
