pub mod OptionLemmas
mod Rows
