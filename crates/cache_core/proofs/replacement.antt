pub mod Lawful
pub mod RandomNumberLemmas
pub mod Addresses
