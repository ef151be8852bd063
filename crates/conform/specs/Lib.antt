pub mod Conform
pub mod Cycles
pub mod Laws
