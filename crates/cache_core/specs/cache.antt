pub mod Outcomes
pub mod Machine
pub mod Order
pub mod Slab
pub mod Stands
