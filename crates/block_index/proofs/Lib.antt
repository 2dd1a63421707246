pub mod ListLemmas
pub mod ChangeLemmas
pub mod ChainLemmas
pub mod PathLemmas
pub mod LinkLemmas
pub mod IndexLemmas
