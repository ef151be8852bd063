pub mod Mesh
pub mod Laws
pub mod Theorems
