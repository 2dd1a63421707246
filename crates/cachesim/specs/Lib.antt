pub mod Names
pub mod Status
