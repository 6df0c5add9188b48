pub mod Models
pub mod Recovered
