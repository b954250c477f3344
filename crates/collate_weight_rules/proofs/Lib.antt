pub mod soundness
