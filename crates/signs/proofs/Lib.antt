pub mod Signed
pub mod SignLaws
pub mod Bounds
