pub mod Offsets
pub mod Stored
pub mod Laws
pub mod Indexes
pub mod Whole
pub mod Theorem
