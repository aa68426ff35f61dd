pub mod Target
pub mod Fields
pub mod Found
