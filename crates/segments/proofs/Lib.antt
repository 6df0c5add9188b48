pub mod Points
pub mod SignTests
pub mod Compare
