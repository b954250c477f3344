-- normal forms
pub mod FormLawLemmas
pub mod SameFormLemmas
