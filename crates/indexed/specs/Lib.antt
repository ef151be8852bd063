pub mod Indexed
pub mod Stored
pub mod Laws
