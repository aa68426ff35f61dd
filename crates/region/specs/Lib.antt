pub mod Layout
pub mod Region
