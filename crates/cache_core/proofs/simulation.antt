pub mod LruSet
pub mod LruRun
pub mod Simulating
