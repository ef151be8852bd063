pub mod Groups
pub mod Bodied
pub mod Body
pub mod Bench
pub mod Whole
