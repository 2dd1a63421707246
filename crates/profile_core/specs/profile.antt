pub mod Fronts
pub mod LacksFronts
pub mod ProfileStandsFor
pub mod RecencyList
pub mod State
