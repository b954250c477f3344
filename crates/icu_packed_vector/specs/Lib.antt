pub mod Bytes
pub mod ByteLaws
pub mod Items
pub mod Stored
