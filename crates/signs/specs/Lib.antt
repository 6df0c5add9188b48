pub mod Signs
pub mod Points
pub mod Answers
pub mod Laws
