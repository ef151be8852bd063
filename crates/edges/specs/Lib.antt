pub mod Laid
pub mod Rims
pub mod Pairing
pub mod Whole
