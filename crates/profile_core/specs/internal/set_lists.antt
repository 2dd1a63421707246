pub mod Lists
pub mod LongLists
pub mod Moves
