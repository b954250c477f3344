-- where a text may be cut
pub mod ComposedCutLemmas
pub mod CutLemmas
pub mod FormCutLemmas
pub mod TextCutLemmas
pub mod SplitLemmas
pub mod WeightLemmas
