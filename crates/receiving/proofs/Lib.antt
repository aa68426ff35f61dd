pub mod Laws
pub mod Stated
