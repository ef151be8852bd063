pub mod Calls
pub mod Laws
pub mod Stages
pub mod Theorem
