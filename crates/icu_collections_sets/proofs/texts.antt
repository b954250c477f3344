pub mod StringListLemmas
pub mod SpellingLemmas
pub mod JsonLemmas
pub mod JsonStringListLemmas
pub mod TextLemmas
