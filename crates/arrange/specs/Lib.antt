pub mod Arrange
pub mod Facets
pub mod Laws
pub mod Merged
