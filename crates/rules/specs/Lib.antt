pub mod Tests
pub mod Marks
