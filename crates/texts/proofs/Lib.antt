pub mod Words
pub mod Numbers
pub mod Entries
pub mod Figures
mod Examples
