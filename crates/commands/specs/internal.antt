pub mod CsimPass
pub mod DinPass
