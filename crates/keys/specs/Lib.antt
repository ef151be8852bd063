pub mod Rows
pub mod Lex
pub mod Put
pub mod Sort
pub mod Each
pub mod Sized
