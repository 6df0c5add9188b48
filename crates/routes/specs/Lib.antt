pub mod Needles
pub mod Scans
pub mod Gates
pub mod Routes
pub mod Walks
