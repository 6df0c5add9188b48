mod Shifts
pub mod Edges
