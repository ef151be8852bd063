pub mod Volume
pub mod Shell
