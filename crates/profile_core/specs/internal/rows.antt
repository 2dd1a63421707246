pub mod PlainRows
pub mod Rows
pub mod SplitRows
