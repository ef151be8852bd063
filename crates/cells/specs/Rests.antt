-- The remainder in a room of its own, and the cells of a difference beside it: carving's definitions, for callers.
pub use Rattle.carving.specs.Rests.{Sits, Kept, Left, Place, Keeps, Ready, Carves}
unfoldable pub use Rattle.carving.specs.Rests.{part_at, rest_at, kept_rest, kept_floats, kept_counts, Inside, carving_at, ended}
