pub mod Rings
pub mod Laws
