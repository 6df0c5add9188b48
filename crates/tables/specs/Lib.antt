pub mod Answers
pub mod Data
pub mod Refusals
pub mod Figures
pub mod Rules
pub mod Verdicts
pub mod Meaning
pub mod Cases
