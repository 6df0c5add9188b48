pub mod To
pub mod Corners
pub mod From
pub mod Suspects
