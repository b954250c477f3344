-- composed lists and clusters
pub mod ClusterFormLemmas
pub mod ClusterLemmas
pub mod ComposedWalkLemmas
pub mod ComposerLemmas
pub mod ComposingLemmas
pub mod FormCompositionLemmas
pub mod LoneMarkLemmas
