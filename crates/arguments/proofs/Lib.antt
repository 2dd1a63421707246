pub mod AppFacts
pub mod HelpLemmas
pub mod NumberLemmas
pub mod Parsing
mod Rows
pub mod SetsLaw
