pub mod FastLine
pub mod Devices
pub mod Scan
pub mod Buffer
pub mod HexadecimalDigits
