pub mod RandomNumbers
pub mod Rules
pub mod AnyPolicy
pub mod Chosen
