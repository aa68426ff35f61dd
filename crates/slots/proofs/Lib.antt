pub mod Laws
pub mod Forms
pub mod Codecs
