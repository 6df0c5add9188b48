pub mod Marking
pub mod Areas
pub mod Stages
pub mod Agree
