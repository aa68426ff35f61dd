pub mod Laws
pub mod Says
pub mod Gather
pub mod Named
