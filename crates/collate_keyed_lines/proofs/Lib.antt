pub mod OrderedLemmas
pub mod FirstLemmas
pub mod MappedLemmas
pub mod SlotLemmas
pub mod AddedLemmas
pub mod KeptLemmas
