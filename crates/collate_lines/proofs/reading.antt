-- the grammar of lines, field by field
pub mod FormLemmas
pub mod GrammarExamples
pub mod KeyLemmas
pub mod NumberLemmas
pub mod SeenLemmas
pub mod WordLemmas
pub mod ReadingSplitLemmas
