pub mod Puts
pub mod Memory
pub mod Filling
pub mod Sides
pub mod Closing
pub mod Recovered
