pub mod Near
pub mod Tube
pub mod Worked
