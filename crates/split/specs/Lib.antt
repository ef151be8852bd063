pub mod Splits
pub mod Laws
