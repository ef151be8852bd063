pub mod Shifts
pub mod Laws
