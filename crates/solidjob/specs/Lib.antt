pub mod Bodies
pub mod Short
pub mod Report
