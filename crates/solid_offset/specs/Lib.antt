pub mod Entries
pub mod Laws
pub mod Short
pub mod Whole
