pub mod Shapes
pub mod Open
pub mod Worked
