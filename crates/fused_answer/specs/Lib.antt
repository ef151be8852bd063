pub mod Fused
pub mod Growing
pub mod Laws
pub mod Bodies
pub mod Lies
pub mod Spots
