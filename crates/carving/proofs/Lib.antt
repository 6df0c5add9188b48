pub mod Closings
pub mod Clears
pub mod Pushes
