pub mod Topology
pub mod Corners
pub mod Laws
pub mod Sound
pub mod Chains
pub mod Paired
