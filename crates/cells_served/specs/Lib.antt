pub mod Call
pub mod Entry
pub mod Laws
