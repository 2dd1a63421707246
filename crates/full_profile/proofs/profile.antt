pub mod Fit
pub mod Steps
pub mod Sounds
pub mod Fronts
pub mod Batches
pub mod Counts
