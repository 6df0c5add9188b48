pub mod Marking
pub mod Stages
