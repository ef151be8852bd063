pub mod Hollows
pub mod Stored
pub mod Laws
pub mod Theorem
