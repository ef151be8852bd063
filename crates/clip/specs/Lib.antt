pub mod Cuts
pub mod Theorem
pub mod Clips
pub mod Laws
pub mod Bounds
