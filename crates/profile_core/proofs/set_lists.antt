pub mod ListLemmas
pub mod Writing
