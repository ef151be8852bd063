-- The work slices of the cell Boolean after a call. Definitions only.
use Rattle.std.specs.Prelude.{◌≡◌, List, ℕ, Float}
use Rattle.clear.specs.Clear.{zeros, zero_floats}

-- all work slices are zero
pub record Cleared (rest rest' spare spare' dst dst' : List Float) (held held' slots slots' counts counts' sizes sizes' order order' chain chain' head head' seen seen' work work' nodes nodes' cuts cuts' : List ℕ) : Type 0 where
  pub z_rest : rest' ≡ zero_floats rest
  pub z_spare : spare' ≡ zero_floats spare
  pub z_dst : dst' ≡ zero_floats dst
  pub z_held : held' ≡ zeros held
  pub z_slots : slots' ≡ zeros slots
  pub z_counts : counts' ≡ zeros counts
  pub z_sizes : sizes' ≡ zeros sizes
  pub z_order : order' ≡ zeros order
  pub z_chain : chain' ≡ zeros chain
  pub z_head : head' ≡ zeros head
  pub z_seen : seen' ≡ zeros seen
  pub z_work : work' ≡ zeros work
  pub z_nodes : nodes' ≡ zeros nodes
  pub z_cuts : cuts' ≡ zeros cuts
