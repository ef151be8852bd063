-- The bodies of a list of cells, and the slices that they are found in. Definitions only.
use Rattle.std.specs.Prelude.{◌≡◌, List, ℕ, ◌+◌, ◌*◌, ◌≤◌, ◌<◌, length, take, Float, Ok}
use Rattle.refusal.specs.Outcome.{Outcome, then}
use Rattle.space.specs.declared.Precision.{Precision}
use Rattle.space.specs.Shapes.{Cell}
use Rattle.bodies.specs.Fusing.{Bodies, fuse}
use Rattle.interfaces.specs.Facets.{facets_of}
use Rattle.cavities.specs.Steps.{volume_of}
use Rattle.assembly.specs.declared.Fused.{Fused}
use Rattle.assembly.specs.Answer as A
use Rattle.fuse.specs.Fusing.{Facetted}
use Rattle.arrangement.specs.declared.Layout.{Layout}
use Rattle.arrangement.specs.Arrangements as R
use Rattle.arrangement.specs.Arrangements.{arrange_cells}
use Rattle.fused.specs.Bodies.{fuse_in}
use Rattle.fuse_list.specs.declared.Listing.{Listing}

-- 000, `fuse_cells`: the cells are arranged, then fused; bodies by the places of their facets
unfoldable pub bodies_of : Precision → ℕ → List Cell → Outcome Bodies
bodies_of t room cs = then (arrange_cells t room cs) (λ a. fuse_in a (length cs))

-- the bodies of n cells, from the front of slices that a layout tells of
unfoldable pub fuse_at : Layout → ℕ → List Float → List ℕ → List ℕ → List ℕ → Outcome Bodies
fuse_at y n p c s w = fuse (volume_of (take (3 * y.points) p) (take y.vertices c) (take (y.facets + 1) s)) (facets_of (take y.vertices c) (take (y.facets + 1) s) (take y.facets w) y.facets) n

-- the front of the slices is what fusing takes, and fits the room
pub record Ready (room : ℕ) (y : Layout) (n : ℕ) (p : List Float) (c s w : List ℕ) : Type 0 where
  pub few : y.points ≤ 4096
  pub points : 3 * y.points ≤ length p
  pub cycles : y.vertices ≤ length c
  pub starts : y.facets < length s
  pub owners : y.facets ≤ length w
  pub vertices : y.vertices ≤ room
  pub facets : y.facets ≤ room
  pub cells : n ≤ room
  pub facetted : Facetted (take (3 * y.points) p) (take y.vertices c) (take (y.facets + 1) s) (take y.facets w) y.facets n

-- fusing's work memory and its three slices of the answer, long enough for every arrangement that fits the room
pub record Tools (room : ℕ) (e c u f d k s o l q m x z b : List ℕ) : Type 0 where
  pub low : room ≤ 4611686018427387904
  pub ext : room ≤ length e
  pub cells : room ≤ length c
  pub cuts : room < length u
  pub faces : room ≤ length f
  pub runs : 3 * room ≤ length d
  pub keys : 2 * room ≤ length k
  pub begins : room < length s
  pub order : room ≤ length o
  pub ends : room ≤ length l
  pub links : length l ≤ length k
  pub nodes : room ≤ length q
  pub marks : room < length m
  pub out : room ≤ length x
  pub sizes : room ≤ length z
  pub shells : room ≤ length b

-- the arrangement of a list, and its bodies, as they lie in slices, whose first refusal is the answer; after a refusal the slices are free
pub record Told (t : Precision) (room : ℕ) (o : Outcome (List Cell)) (p₀ : List Float) (c₀ s₀ w₀ x₀ z₀ b₀ : List ℕ) (p : List Float) (c s w x z b : List ℕ) (r : Outcome Listing) : Type 0 where
  pub layout : Outcome Layout
  pub bodies : Outcome Fused
  pub arranged : R.Laid (then o (arrange_cells t room)) p₀ c₀ s₀ w₀ p c s w layout
  pub fused : A.Laid (then o (bodies_of t room)) x₀ z₀ b₀ x z b bodies
  pub is : r ≡ then layout (λ y. then bodies (λ g. Ok (record { layout = y; fused = g })))
