pub mod Splitting
pub mod Laws
