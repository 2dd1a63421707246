pub mod Plans
pub mod CacheStats
pub mod Systems
pub mod Arrivals
pub mod SystemSteps
pub mod SystemStands
pub mod ArrivalStats
pub mod LogLaws
