pub mod SearchLaw
pub mod SlabFlush
pub mod SlabHit
