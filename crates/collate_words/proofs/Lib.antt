pub mod growth
pub mod owned
pub mod written
