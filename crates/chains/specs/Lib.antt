pub mod Areas
pub mod Scans
pub mod Fillings
pub mod Walks
pub mod Recoveries
pub mod Sticking
