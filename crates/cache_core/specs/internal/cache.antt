pub mod Order
pub mod Slab
pub mod Lookups
pub mod SlotOrder
pub mod Indexed
pub mod ChosenCaches
pub mod Held
