pub mod SlotLemmas
pub mod Marks
