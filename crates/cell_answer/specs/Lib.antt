pub mod Solids
pub mod Laws
