pub mod Adding
pub mod Order
