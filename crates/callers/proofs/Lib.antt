mod Lasts
pub mod Blocks
pub mod Choosing
pub mod Moving
pub mod Touching
pub mod Fed
