pub mod Table
pub mod Rules
pub mod Meaning
pub mod Ranks
pub mod Figures
