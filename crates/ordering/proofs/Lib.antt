pub mod Lists
pub mod Places
pub mod Opens
pub mod Sorts
pub mod Lines
