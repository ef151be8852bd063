pub mod Arrangements
pub mod Conforming
pub mod Laws
pub mod Facts
