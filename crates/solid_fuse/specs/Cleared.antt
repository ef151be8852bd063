-- The work slices after the call. Definitions only.
use Rattle.std.specs.Prelude.{◌≡◌, List, ℕ, Float}
use Rattle.clear.specs.Clear.{zeros, zero_floats}

-- the first half of them is zero
pub record Half (rest rest' spare spare' dst dst' : List Float) (held held' slots slots' counts counts' sizes sizes' seats seats' lengths lengths' owners owners' cells cells' : List ℕ) : Type 0 where
  pub z_rest : rest' ≡ zero_floats rest
  pub z_spare : spare' ≡ zero_floats spare
  pub z_dst : dst' ≡ zero_floats dst
  pub z_held : held' ≡ zeros held
  pub z_slots : slots' ≡ zeros slots
  pub z_counts : counts' ≡ zeros counts
  pub z_sizes : sizes' ≡ zeros sizes
  pub z_seats : seats' ≡ zeros seats
  pub z_lengths : lengths' ≡ zeros lengths
  pub z_owners : owners' ≡ zeros owners
  pub z_cells : cells' ≡ zeros cells

-- all of them are
pub record Cleared (rest rest' spare spare' dst dst' : List Float) (held held' slots slots' counts counts' sizes sizes' seats seats' lengths lengths' owners owners' cells cells' cuts cuts' runs runs' keys keys' begins begins' ord ord' ends ends' marks marks' out out' many many' shells shells' : List ℕ) : Type 0 where
  pub z_rest : rest' ≡ zero_floats rest
  pub z_spare : spare' ≡ zero_floats spare
  pub z_dst : dst' ≡ zero_floats dst
  pub z_held : held' ≡ zeros held
  pub z_slots : slots' ≡ zeros slots
  pub z_counts : counts' ≡ zeros counts
  pub z_sizes : sizes' ≡ zeros sizes
  pub z_seats : seats' ≡ zeros seats
  pub z_lengths : lengths' ≡ zeros lengths
  pub z_owners : owners' ≡ zeros owners
  pub z_cells : cells' ≡ zeros cells
  pub z_cuts : cuts' ≡ zeros cuts
  pub z_runs : runs' ≡ zeros runs
  pub z_keys : keys' ≡ zeros keys
  pub z_begins : begins' ≡ zeros begins
  pub z_ord : ord' ≡ zeros ord
  pub z_ends : ends' ≡ zeros ends
  pub z_marks : marks' ≡ zeros marks
  pub z_out : out' ≡ zeros out
  pub z_many : many' ≡ zeros many
  pub z_shells : shells' ≡ zeros shells
