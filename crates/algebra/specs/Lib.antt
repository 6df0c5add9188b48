pub mod Order
pub mod Size
pub mod Sum
pub mod Tests
