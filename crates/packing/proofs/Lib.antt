pub mod Room
pub mod Loading
pub mod Read
pub mod Write
