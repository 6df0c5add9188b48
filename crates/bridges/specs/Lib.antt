pub mod Images
pub mod Bridges
