pub mod Stacks
pub mod Laws
pub mod Steps
