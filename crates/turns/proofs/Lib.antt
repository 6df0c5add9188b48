pub mod Corners
pub mod Moves
