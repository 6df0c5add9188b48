pub mod Closing
pub mod Clearing
pub mod Suspecting
