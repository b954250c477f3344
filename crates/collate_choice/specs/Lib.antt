pub mod Choices
pub mod GivenOptions
pub mod OptionWords
