pub mod Worked
pub mod Splits
pub mod Entries
pub mod Committers
pub mod Whole
pub mod Stated
