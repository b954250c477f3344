-- Units that keep the grammar.
pub mod ExampleLemmas
pub mod SoundLemmas
pub mod LongerStepLemmas
pub mod LongerGrammarLemmas
pub mod ListingLemmas
pub mod CompleteListingLemmas
