pub mod Carvings
pub mod Rests
pub mod Laws
