pub mod Places
pub mod SlottedRests
pub mod SparseRests
