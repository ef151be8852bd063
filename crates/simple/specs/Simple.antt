-- An outline none of whose edges cross or touch: 33, 30. Definitions only.
use Rattle.std.specs.Prelude.{ℕ, zero, suc, ◌+◌, ◌-◌, ◌%◌, Bool, true, false, ◌&&◌, ◌||◌, List, length, get_or, eqb, Ok, Err}
use Rattle.refusal.specs.Outcome.{Outcome, refusal_of}
use Rattle.space.specs.declared.Precision.{Precision}
use Rattle.turns.specs.declared.Projected.{Projected}
use Rattle.turns.specs.declared.Turn.{Turn}
use Rattle.turns.specs.Turns.{is_positive, is_negative, is_zero, orientation_of, in_range}
use Rattle.outline.specs.Project.{astray}

-- ---- verdicts in order

-- the first refusal of two
unfoldable pub first_of : Outcome Unit → Outcome Unit → Outcome Unit
first_of (Ok tt) w = w
first_of (Err r) w = Err r

-- the first refusal of f i, f (i + 1), … , k of them
unfoldable pub each_of : (ℕ → Outcome Unit) → ℕ → ℕ → Outcome Unit
each_of f i zero = Ok tt
each_of f i (suc k) = first_of (f i) (each_of f (suc i) k)

-- 33: an orientation that is unresolved
unfoldable pub settled : Outcome Turn → Outcome Unit
settled (Ok t) = Ok tt
settled (Err r) = Err r

-- ---- two edges

abbrev pub opposite_of : Outcome Turn → Outcome Turn → Bool
opposite_of a b = (is_positive a && is_negative b) || (is_negative a && is_positive b)

-- z lies on the line from x to y, between the two
unfoldable pub touches : Outcome Turn → Precision → Projected → Projected → Projected → Bool
touches s p x y z = is_zero s && (in_range p x.x y.x z.x && in_range p x.y y.y z.y)

-- 30: "crossing or overlap"
unfoldable pub apart : Bool → Outcome Unit
apart true = Err (refusal_of 30)
apart false = Ok tt

-- two edges of the four turns cross, or an end of one lies on the other
unfoldable pub met_by : Precision → Projected → Projected → Projected → Projected → Outcome Turn → Outcome Turn → Outcome Turn → Outcome Turn → Bool
met_by p a b c d s₀ s₁ s₂ s₃ =
    (opposite_of s₀ s₁ && opposite_of s₂ s₃)
    || ((touches s₀ p a b c || touches s₁ p a b d) || (touches s₂ p c d a || touches s₃ p c d b))

-- the first turn that is unresolved decides, then whether the edges meet
unfoldable pub edges_by : Outcome Turn → Outcome Turn → Outcome Turn → Outcome Turn → Bool → Outcome Unit
edges_by s₀ s₁ s₂ s₃ met = first_of (settled s₀) (first_of (settled s₁) (first_of (settled s₂) (first_of (settled s₃) (apart met))))

unfoldable pub edges_with : Precision → Projected → Projected → Projected → Projected → Outcome Turn → Outcome Turn → Outcome Turn → Outcome Turn → Outcome Unit
edges_with p a b c d s₀ s₁ s₂ s₃ = edges_by s₀ s₁ s₂ s₃ (met_by p a b c d s₀ s₁ s₂ s₃)

-- the edges from a to b and from c to d
unfoldable pub edges_of : Precision → Projected → Projected → Projected → Projected → Outcome Unit
edges_of p a b c d = edges_with p a b c d (orientation_of p a b c) (orientation_of p a b d) (orientation_of p c d a) (orientation_of p c d b)

-- ---- all pairs of edges that are no neighbours

-- j follows i, or i is the first of n edges and j the last
abbrev pub next_of : ℕ → ℕ → ℕ → Bool
next_of n i j = eqb j (i + 1) || (eqb i 0 && eqb j (n - 1))

unfoldable pub pair_of : Bool → Precision → Projected → Projected → Projected → Projected → Outcome Unit
pair_of true p a b c d = Ok tt
pair_of false p a b c d = edges_of p a b c d

abbrev pub at : List Projected → ℕ → Projected
at ps i = get_or ps i astray

-- the edges at places i and j of n
unfoldable pub pair_at : Precision → List Projected → ℕ → ℕ → ℕ → Outcome Unit
pair_at p ps n i j = pair_of (next_of n i j) p (at ps i) (at ps ((i + 1) % n)) (at ps j) (at ps ((j + 1) % n))

-- the edge at place i against each later one
unfoldable pub simple_from : Precision → List Projected → ℕ → ℕ → Outcome Unit
simple_from p ps n i = each_of (pair_at p ps n i) (i + 1) (n - (i + 1))

unfoldable pub simple_of : Precision → List Projected → Outcome Unit
simple_of p ps = each_of (simple_from p ps (length ps)) 0 (length ps)
