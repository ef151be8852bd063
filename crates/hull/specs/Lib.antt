pub mod Hull
pub mod Layout
