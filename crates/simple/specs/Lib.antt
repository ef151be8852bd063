pub mod Simple
pub mod Laws
