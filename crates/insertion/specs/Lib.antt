pub mod Insertion
pub mod Laws
