pub mod Polygons
pub mod Memory
pub mod Unique
pub mod Laws
pub mod MemoryLaws
pub mod Members
