pub mod Intake
pub mod Parts
pub mod Filter
