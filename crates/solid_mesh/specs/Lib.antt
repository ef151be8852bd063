pub mod Mesh
pub mod Laws
