pub mod Cells
pub mod Unpacked
