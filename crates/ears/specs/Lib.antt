pub mod Places
pub mod Ears
pub mod Laws
