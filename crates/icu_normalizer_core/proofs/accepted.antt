-- what accepted tables keep
pub mod AcceptedForms
pub mod AcceptedPairs
pub mod AcceptedTables
pub mod AcceptedWords
pub mod TableMeanings
pub mod TableComputing
mod TableRows
