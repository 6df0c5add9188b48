pub mod Elsewhere
pub mod Live
