pub mod Laws
pub mod Storing
