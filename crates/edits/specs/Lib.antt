pub mod Read
pub mod Edits
