pub mod Record
pub mod Stated
