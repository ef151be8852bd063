pub mod Values
pub mod Worked
