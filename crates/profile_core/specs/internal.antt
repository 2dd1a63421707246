pub mod profile
pub mod set_lists
pub mod rests
pub mod rows
