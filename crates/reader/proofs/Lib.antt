pub mod Entries
pub mod Committers
pub mod Whole
pub mod Told
pub mod Places
pub mod Found
