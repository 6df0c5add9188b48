pub mod Rooms
pub mod Cleared
