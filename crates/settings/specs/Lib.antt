pub mod Format
pub mod Lent
pub mod Stated
