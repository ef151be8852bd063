pub mod Cells
pub mod Rests
pub mod Laws
pub mod Theorem
