pub mod SlotLemmas
pub mod ChainLemmas
pub mod LiveItemLemmas
pub mod DeepLemmas
