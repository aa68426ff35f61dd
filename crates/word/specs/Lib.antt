pub mod Be
pub mod Tests
pub mod Cut
pub mod Table
pub mod Fields
pub mod Codec
pub mod Text
pub mod Flags
