pub mod CsimLemmas
pub mod DinLemmas
pub mod LogLemmas
pub mod DataSteps
mod TextRows
