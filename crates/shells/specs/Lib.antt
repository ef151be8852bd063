pub mod Faces
pub mod Named
