pub mod Cleared
pub mod Laws
pub mod Theorem
