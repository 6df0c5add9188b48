pub mod Ranges
pub mod Apart
pub mod Order
mod Inside
mod Ends
mod Passed
