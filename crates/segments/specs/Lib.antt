pub mod Near
pub mod Tests
