pub mod Laws
pub mod Ring
pub mod Order
pub mod Size
pub mod Machine
pub mod Sum
pub mod Tests
