-- DEMAND 3, clause by clause, in one record about an answer of fusing.
use Rattle.std.specs.Prelude.{◌≡◌, ◌⊎◌, ◌≢◌, ◌↔◌, List, [], ◌∷◌, ℕ, ◌+◌, ◌*◌, ◌≤◌, ◌<◌, length, Ok}
use Rattle.std.proofs.Math.Bool.{true}
use mathlib.Mathlib.Logic.Relation.{ReflTransGenᴰ}
use Rattle.refusal.specs.Outcome.{Outcome}
use Rattle.sums.specs.Sum.{sum, occ, ◌∈◌, Each}
use Rattle.sums.specs.Keys.{users}
use Rattle.sums.specs.ComponentLaws.{Components}
use Rattle.sums.specs.OrderLaws.{Sorted}
use Rattle.bodies.specs.Fusing.{Facet, cell_of, vertices_of, same_cycle, keys, interfaces, adjacency, faces_of, Sense, outward, inward, shells_of, body_of, materials, Bodies}
use Rattle.bodies.specs.Passed.{Pairwise, Made}
use Rattle.bodies.specs.ListLaws.{out_of, in_of, key_of, listed}
use Rattle.bodies.specs.EdgeLaws.{runs_edge, ran}
use Rattle.bodies.specs.BodyLaws.{OneBody}
use Rattle.bodies.specs.Full.{Full}

-- Two facets of a body have an edge in common.
pub record Beside (fs : List Facet) (b : List (List ℕ)) (i j : ℕ) : Type 0 where
  pub a : ℕ
  pub d : ℕ
  pub i_in : 1 ≤ sum (occ i) b
  pub j_in : 1 ≤ sum (occ j) b
  pub i_runs : 1 ≤ runs_edge fs i a d + runs_edge fs i d a
  pub j_runs : 1 ≤ runs_edge fs j a d + runs_edge fs j d a

-- A shell has with a facet exactly what that facet connects with through edges inside the body.
abbrev pub Shelled : List Facet → List (List ℕ) → List ℕ → Type 0
Shelled fs b g = (i j : ℕ) → i ∈ g → 1 ≤ sum (occ j) b → (j ∈ g) ↔ ReflTransGenᴰ (Beside fs b) i j

-- What the body of some cells is.
pub record IsBody (volume : List ℕ → Outcome Sense) (fs : List Facet) (material : List ℕ) (b : List (List ℕ)) : Type 0 where
  -- two facets of a body are in one shell exactly when they connect through edges inside that body
  pub shell : Each (Shelled fs b) b
  -- each edge of a body is run once each way
  pub edge : (a d : ℕ) → (sum (ran fs a d) b ≤ 1) × (sum (ran fs a d) b ≡ sum (ran fs d a) b) × (sum (ran fs a a) b ≡ 0)
  -- exactly one shell has a certified outward volume, and it comes first; all others are certified inward
  pub outer : List ℕ
  pub inner : List (List ℕ)
  pub parts : b ≡ outer ∷ inner
  pub out : volume outer ≡ Ok outward
  pub inn : Each (λ g. volume g ≡ Ok inward) inner
  -- its facets are those of its cells that no other facet meets
  pub facets : (f : ℕ → ℕ) → sum (sum f) b ≡ sum f (faces_of fs material)
  -- the order inside a body: its facets by their keys, its inward shells as `components` finds them
  pub sorted : Sorted (keys fs) (faces_of fs material)
  pub found : (outer ∷ [] ≡ out_of volume (shells_of fs material)) × (inner ≡ in_of volume (shells_of fs material))

-- Two facets that meet: of two cells, one the other back to front, and no third meets them.
pub record Interface (fs : List Facet) (i j : ℕ) : Type 0 where
  pub cells : cell_of fs i ≢ cell_of fs j
  pub turned : (same_cycle (vertices_of fs i) (vertices_of fs j) ≡ true) ⊎ (same_cycle (vertices_of fs j) (vertices_of fs i) ≡ true)
  pub alone : length (users (keys fs) i) ≡ 2

pub record Demand (volume : List ℕ → Outcome Sense) (fs : List Facet) (n : ℕ) (bs : Bodies) : Type 0 where
  -- each facet owned by one cell is listed exactly once
  pub owned : (i : ℕ) → i < length fs → ((j : ℕ) → j < length fs → key_of fs i ≡ key_of fs j → j ≡ i) → listed i bs ≡ 1
  -- and none shared by two is
  pub shared : (i j : ℕ) → i < length fs → j < length fs → key_of fs i ≡ key_of fs j → j ≢ i → listed i bs ≡ 0
  pub interface : (i j : ℕ) → i < length fs → j < length fs → key_of fs i ≡ key_of fs j → j ≢ i → Interface fs i j
  -- two listed facets are in one body exactly when their cells connect through shared facets
  pub body : Each (OneBody fs bs) bs
  -- each cell stands in exactly one group, a group is what its cells reach through interfaces, and the groups ascend by their lowest cell
  pub cells : Components n (adjacency fs) (materials fs n)
  -- the bodies are made of the groups, in their order
  pub made : Made (body_of volume fs) (materials fs n) bs
  -- facets, shells, edges, outward and inward, of each body and its group
  pub each : Pairwise (IsBody volume fs) (materials fs n) bs
  -- each body has a shell, and each shell a facet
  pub full : Each Full bs
  -- only facets are listed
  pub inside : Each (Each (Each (λ i. i < length fs))) bs
  -- all facets of all cells = listed facets + twice the interfaces
  pub count : length fs ≡ sum (sum length) bs + 2 * length (interfaces fs)
