pub mod Bodies
pub mod Volume
