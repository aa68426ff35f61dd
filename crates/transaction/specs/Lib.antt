pub mod Fields
pub mod Change
pub mod Same
