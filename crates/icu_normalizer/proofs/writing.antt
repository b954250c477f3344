-- writers and sinks
pub mod InsertLemmas
pub mod ListLemmas
pub mod OrderLemmas
pub mod WriterLemmas
pub mod SinkLemmas
