pub mod Laws
pub mod Twice
pub mod Fits
pub mod Table
pub mod Model
pub mod Edits
pub mod Rounds
pub mod Splits
