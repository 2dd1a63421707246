pub mod Bringing
pub mod PlainRowLemmas
pub mod SplitRowLemmas
