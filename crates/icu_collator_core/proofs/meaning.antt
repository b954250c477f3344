-- What accepted tables mean.
pub mod KeyValueLemmas
pub mod ContextTextLemmas
pub mod WordTagLemmas
pub mod WordElementLemmas
pub mod GoodWordLemmas
pub mod StatedWordLemmas
pub mod CountingWordLemmas
pub mod AcceptedWeightLemmas
pub mod AcceptedPrefixLemmas
pub mod AcceptedMarkLemmas
