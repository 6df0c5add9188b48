pub mod Looks
pub mod Turns
