pub mod Options
pub mod Respell
pub mod internal
