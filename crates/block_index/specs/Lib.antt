pub mod SlotLists
pub mod Chains
pub mod BlockIndex
