pub mod Named
pub mod Turns
pub mod Place
pub mod Stable
pub mod Keeps
pub mod Steps
pub mod Whole
