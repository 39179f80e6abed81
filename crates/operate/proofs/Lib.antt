pub mod LiveLemmas
mod LiveFaults
pub mod LiveReads
