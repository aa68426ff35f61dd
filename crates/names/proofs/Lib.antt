pub mod Bytes
pub mod Classes
pub mod Order
pub mod Pieces
pub mod Words
pub mod Beneath
