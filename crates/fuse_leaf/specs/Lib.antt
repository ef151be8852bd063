pub mod Fusing
pub mod Laws
