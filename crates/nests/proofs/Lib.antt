pub mod Raising
pub mod Sizes
pub mod Rows
pub mod Laws
