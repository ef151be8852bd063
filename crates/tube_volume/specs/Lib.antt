pub mod Sixfold
pub mod Volume
pub mod Bodies
pub mod Worked
