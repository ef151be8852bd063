pub mod ListLaws
pub mod EdgeLaws
pub mod BodyLaws
pub mod ShellLaws
pub mod Full
pub mod Demand
