-- What the proofs on caches cite. What serves the functions of one folder stands in it.
pub mod Bounds
pub mod PowersOfTwo
pub mod Lists
pub mod Distances
pub mod Occurrences
pub mod Pushes
pub mod WindowRows
pub mod TouchedSets
