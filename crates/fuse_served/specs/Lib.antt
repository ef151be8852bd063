pub mod Call
pub mod Entry
pub mod Wide
pub mod Short
pub mod Laws
