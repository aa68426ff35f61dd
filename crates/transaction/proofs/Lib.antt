pub mod Laws
pub mod Fields
pub mod Same
pub mod Derived
