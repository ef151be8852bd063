pub mod Points
pub mod Stacks
pub mod Climbs
pub mod Rings
pub mod Laws
pub mod Members
