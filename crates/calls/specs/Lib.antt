pub mod Call
pub mod Exports
pub mod Demand3
