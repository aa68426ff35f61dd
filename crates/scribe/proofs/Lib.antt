pub mod Tests
pub mod Given
pub mod Written
pub mod Committers
pub mod Record
pub mod Outcomes
