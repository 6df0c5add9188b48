pub mod Last
mod Index
pub mod Search
