pub mod Edges
pub mod Slices
pub mod Laws
