-- tables that are compiled of lines
pub mod CompiledOfLemmas
