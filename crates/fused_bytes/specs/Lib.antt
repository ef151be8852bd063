pub mod Bytes
pub mod Size
pub mod Steps
pub mod Laws
