pub mod Tables
pub mod LetterTables
pub mod Letters
pub mod LetterLevels
pub mod SameTables
