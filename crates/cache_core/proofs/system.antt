pub mod Counters
pub mod SystemPushes
pub mod FirstLevelLaw
pub mod LowerLaw
pub mod SystemLaw
pub mod Observed
mod SystemRows
mod ArrivalRows
mod FollowRows
