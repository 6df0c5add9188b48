pub mod Rule7
mod Rule3
