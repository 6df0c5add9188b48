pub mod Laws
pub mod Rooms
pub mod Entering
