pub mod Rooms
pub mod Laws
pub mod Steps
pub mod Numbered
pub mod Stores
