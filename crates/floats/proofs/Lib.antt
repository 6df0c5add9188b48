pub mod Zero
pub mod Exact
pub mod Bounded
pub mod Half
