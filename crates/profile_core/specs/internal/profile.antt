pub mod CountedFronts
pub mod KeptProfile
pub mod StackProfile
