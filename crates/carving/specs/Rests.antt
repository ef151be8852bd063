-- The remainder in a room of its own, and the cells of a difference beside it. Definitions only.
use Rattle.std.specs.Prelude.{◌≡◌, Bool, true, false, List, ℕ, ◌+◌, ◌*◌, ◌≤◌, length, take, Float, Ok, Err, Some, None}
use Rattle.std.proofs.lemmas.List.Edits.{sets}
use Rattle.refusal.specs.Outcome.{Outcome, then, heard}
use Rattle.space.specs.Shapes.{Part, nothing, part}
use Rattle.room.specs.Rooms.{cell_at, counts_at}
use Rattle.clip.specs.Clips.{Clipped, Given, Wide}
use Rattle.stack.specs.declared.Stack.{Stack}
use Rattle.stack.specs.Stacks.{stack_of, list_at, Holds}
use Rattle.carving.specs.declared.Rest.{Rest}
use Rattle.carving.specs.declared.Carved.{Carved}
use Rattle.carving.specs.Carvings.{Carving, carving}

-- the part that a room holds
unfoldable pub part_at : Bool → ℕ → List Float → List ℕ → Part
part_at true faces d n = part (cell_at d 0 (counts_at n 0 faces))
part_at false faces d n = nothing

unfoldable pub rest_at : Rest → List Float → List ℕ → Outcome Part
rest_at s d n = heard s.verdict (part_at s.some s.faces d n)

-- a cell stands at the front of the room: 1 to 128 faces, each with 3 corners or more
pub record Sits (faces : ℕ) (d : List Float) (n : List ℕ) : Type 0 where
  pub given : Given d 0 n 0 faces
  pub wide : Wide (cell_at d 0 (counts_at n 0 faces))
  pub some : 1 ≤ faces
  pub few : faces ≤ 128

-- where there is a remainder, it sits in its room, and nothing was refused
pub record Kept (s : Rest) (d : List Float) (n : List ℕ) : Type 0 where
  pub sits : s.some ≡ true → Sits s.faces d n
  pub fine : s.some ≡ true → s.verdict ≡ Ok tt

-- one cut of the remainder
pub record Left (g : Part → Outcome Part) (s r : Rest) (d : List Float) (n : List ℕ) (d' : List Float) (n' : List ℕ) : Type 0 where
  pub kept : Kept r d' n'
  pub is : rest_at r d' n' ≡ then (rest_at s d n) g

-- a room has a place for every part that fits
pub record Place (room : ℕ) (d : List Float) (n : List ℕ) : Type 0 where
  pub place : 3 * room + 1664 ≤ length d
  pub slots : 128 ≤ length n

-- ---- what a cut answers is copied back into the remainder's room

unfoldable pub kept_rest : Outcome Clipped → Rest
kept_rest (Ok None) = record { verdict = Ok tt; some = false; faces = 0 }
kept_rest (Ok (Some x)) = record { verdict = Ok tt; some = true; faces = x.faces }
kept_rest (Err r) = record { verdict = Err r; some = false; faces = 0 }

unfoldable pub kept_floats : Outcome Clipped → List Float → List Float → List Float
kept_floats (Ok None) d s = d
kept_floats (Ok (Some x)) d s = sets d 0 (take (13 * x.faces + 3 * x.corners) s)
kept_floats (Err r) d s = d

unfoldable pub kept_counts : Outcome Clipped → List ℕ → List ℕ → List ℕ
kept_counts (Ok None) d s = d
kept_counts (Ok (Some x)) d s = sets d 0 (take x.faces s)
kept_counts (Err r) d s = d

pub record Keeps (p : Outcome Clipped) (r : Rest) (d : List Float) (n : List ℕ) (s : List Float) (k : List ℕ) (d' : List Float) (n' : List ℕ) : Type 0 where
  pub rest : r ≡ kept_rest p
  pub floats : d' ≡ kept_floats p d s
  pub counts : n' ≡ kept_counts p n k

-- it lies within m floats and k counts
unfoldable pub Inside : ℕ → ℕ → Outcome Clipped → Type 0
Inside m k (Ok None) = Unit {0}
Inside m k (Ok (Some x)) = (13 * x.faces + 3 * x.corners ≤ m) × (x.faces ≤ k)
Inside m k (Err r) = Unit {0}

-- ---- the remainder and the pieces

unfoldable pub carving_at : Carved → List Float → List ℕ → List Float → List ℕ → List ℕ → Outcome Carving
carving_at s d n f m z = then (list_at s.list f m z) (λ cs. then (rest_at s.rest d n) (λ p. carving p cs))

pub record Ready (room : ℕ) (s : Carved) (d : List Float) (n : List ℕ) (f : List Float) (m z : List ℕ) : Type 0 where
  pub kept : Kept s.rest d n
  pub holds : Holds room s.list f m z
  pub fine : s.rest.some ≡ true → s.list.verdict ≡ Ok tt

-- the list at the end; a refusal of either decides
unfoldable pub ended : Outcome Unit → Outcome Unit → Stack → Stack
ended (Ok t) (Ok u) l = l
ended (Ok t) (Err e) l = stack_of (Err e)
ended (Err r) w l = l

-- one step: what stands in the slices after it is the step's outcome of what stood there before
pub record Carves (room : ℕ) (g : Carving → Outcome Carving) (s r : Carved) (d : List Float) (n : List ℕ) (f : List Float) (m z : List ℕ) (d' : List Float) (n' : List ℕ) (f' : List Float) (m' z' : List ℕ) : Type 0 where
  pub ready : Ready room r d' n' f' m' z'
  pub is : carving_at r d' n' f' m' z' ≡ then (carving_at s d n f m z) g
