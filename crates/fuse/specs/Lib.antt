pub mod Fusing
pub mod Theorem
