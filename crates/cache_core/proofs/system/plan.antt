pub mod Exponents
pub mod GeometryLaw
mod PlanRows
