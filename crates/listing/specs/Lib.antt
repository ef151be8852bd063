pub mod Appended
pub mod Listed
