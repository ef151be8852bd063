pub mod Facets
pub mod Runs
pub mod Meeting
pub mod Steps
