pub mod Finish
pub mod Lists
pub mod Laws
