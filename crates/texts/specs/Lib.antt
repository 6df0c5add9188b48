pub mod Words
pub mod Figures
