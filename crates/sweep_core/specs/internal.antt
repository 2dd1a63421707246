pub mod Walk
pub mod Runs
pub mod Pass
pub mod Feeding
pub mod Waiting
pub mod FullRuns
pub mod Full
