pub mod Lines
pub mod Carved
