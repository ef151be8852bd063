pub mod Project
pub mod Laws
