pub mod Built
pub mod Laws
