pub mod Values
pub mod Row
