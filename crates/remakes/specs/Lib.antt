pub mod Remakes
