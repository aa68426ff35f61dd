pub mod Fragments
pub mod Stated
