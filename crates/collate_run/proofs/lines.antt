-- the lines of a run
pub mod CommandLineExampleLemmas
pub mod CommandLineLemmas
pub mod CommandLineReadLemmas
pub mod CommandLineReadyLemmas
pub mod RequestLemmas
pub mod CommandLineRunLemmas
pub mod CommandLineWholeLemmas
