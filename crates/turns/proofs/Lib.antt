pub mod Judges
pub mod Climb
pub mod Turned
pub mod Same
pub mod Turns
pub mod Upward
