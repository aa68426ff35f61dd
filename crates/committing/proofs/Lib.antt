pub mod Packing
pub mod Making
pub mod Judge
pub mod May
pub mod Turned
pub mod Loop
pub mod Ended
