pub mod internal
pub mod LookBack
pub mod State
pub mod Batches
pub mod Reports
pub mod Sums
