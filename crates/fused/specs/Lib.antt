pub mod Bodies
pub mod Laws
pub mod Theorem
