pub mod PlacedWeights
