pub mod Calls
pub mod Only
