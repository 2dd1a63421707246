pub mod Counted
pub mod CacheSteps
pub mod SystemSteps
pub mod SystemFields
pub mod HeldFirst
