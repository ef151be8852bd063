pub mod Chain
pub mod Stack
pub mod Walk
pub mod Groups
pub mod Fill
pub mod Ends
