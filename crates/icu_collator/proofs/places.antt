pub mod CountedPlaceLemmas
pub mod NumberPlaceLemmas
pub mod PrimaryPlaceLemmas
pub mod SequencePlaceLemmas
pub mod SoundLevelLemmas
pub mod SoundWeightLemmas
