-- The scan for an ear among the corners that are left: 33. Definitions only.
use Rattle.refusal.specs.Outcome.{Outcome}
use Rattle.std.specs.Prelude.{ℕ, zero, suc, ◌<◌, ◌≤◌, Bool, true, false, ◌&&◌, ◌||◌, List, [], ◌∷◌, length, get_or, eqb, Ok, Err}
use Rattle.space.specs.declared.Precision.{Precision}
use Rattle.turns.specs.declared.Projected.{Projected}
use Rattle.turns.specs.declared.Turn.{Turn}
use Rattle.turns.specs.declared.Turn.TheVariants as T
use Rattle.turns.specs.Turns.{orientation_of, is_positive, is_zero}
use Rattle.outline.specs.declared.Outline.{Outline}
use Rattle.simple.specs.Simple.{at}
use Rattle.ears.specs.declared.Active.{Active}
use Rattle.ears.specs.declared.Triangle.{Triangle}
use Rattle.ears.specs.declared.Block.{Block}
use Rattle.ears.specs.declared.Block.TheVariants as B
use Rattle.ears.specs.declared.Found.{Found}
use Rattle.ears.specs.declared.Found.TheVariants as F
use Rattle.ears.specs.Places.{places_of, window_at}

-- the turn at three places
unfoldable pub turn_at : Precision → List Projected → Triangle → Outcome Turn
turn_at p ps w = orientation_of p (at ps w.a) (at ps w.b) (at ps w.c)

-- ---- a corner in the way of an ear

-- Positive, as 01 always expects, or Zero
abbrev pub allows : Outcome Turn → Bool
allows s = is_positive s || is_zero s

unfoldable pub blocked_where : Bool → Outcome Block
blocked_where true = Ok B.Blocked
blocked_where false = Ok B.Clear

-- 33 where the turn is unresolved, else b
unfoldable pub resolved : Outcome Turn → Outcome Block → Outcome Block
resolved (Ok t) b = b
resolved (Err r) b = Err r

-- the first turn that is unresolved decides, then whether all three allow it
unfoldable pub inside_by : Outcome Turn → Outcome Turn → Outcome Turn → Outcome Block
inside_by s₀ s₁ s₂ = resolved s₀ (resolved s₁ (resolved s₂ (blocked_where (allows s₀ && (allows s₁ && allows s₂)))))

-- q against the triangle of a, b and c
unfoldable pub inside_of : Precision → Projected → Projected → Projected → Projected → Outcome Block
inside_of p a b c q = inside_by (orientation_of p a b q) (orientation_of p b c q) (orientation_of p c a q)

abbrev pub corner_of : Triangle → ℕ → Bool
corner_of w q = eqb q w.a || (eqb q w.b || eqb q w.c)

-- a corner of the triangle itself blocks nothing
unfoldable pub block_in : Bool → Precision → Projected → Projected → Projected → Projected → Outcome Block
block_in true p a b c q = Ok B.Clear
block_in false p a b c q = inside_of p a b c q

-- the corner at place q against the triangle w
unfoldable pub block_at : Precision → List Projected → Triangle → ℕ → Outcome Block
block_at p ps w q = block_in (corner_of w q) p (at ps w.a) (at ps w.b) (at ps w.c) (at ps q)

-- the first of two that is not Clear
unfoldable pub or_else : Outcome Block → Outcome Block → Outcome Block
or_else (Ok B.Clear) rest = rest
or_else (Ok B.Blocked) rest = Ok B.Blocked
or_else (Err r) rest = Err r

-- each corner of a list in turn
unfoldable pub blocked_by : Precision → List Projected → Triangle → List ℕ → Outcome Block
blocked_by p ps w [] = Ok B.Clear
blocked_by p ps w (q ∷ l) = or_else (block_at p ps w q) (blocked_by p ps w l)

-- ---- the scan

-- a corner that turns as expected is an ear unless it is blocked
unfoldable pub ear_by : Outcome Block → ℕ → Triangle → Outcome Found → Outcome Found
ear_by (Ok B.Clear) i w rest = Ok (F.Ear i w)
ear_by (Ok B.Blocked) i w rest = rest
ear_by (Err r) i w rest = Err r

-- a straight corner is found as it is met, and one that turns the other way is passed
unfoldable pub found_by : Outcome Turn → Outcome Block → ℕ → Triangle → Outcome Found → Outcome Found
found_by (Ok T.Positive) b i w rest = ear_by b i w rest
found_by (Ok T.Negative) b i w rest = rest
found_by (Ok T.Zero) b i w rest = Ok (F.Straight i)
found_by (Err r) b i w rest = Err r

-- the corner i of the corners l, between its neighbours w
unfoldable pub found_at : Precision → List Projected → List ℕ → ℕ → Triangle → Outcome Found → Outcome Found
found_at p ps l i w rest = found_by (turn_at p ps w) (blocked_by p ps w l) i w rest

-- k corners of l from i on
unfoldable pub scan_from : Precision → List Projected → List ℕ → ℕ → ℕ → Outcome Found
scan_from p ps l i zero = Ok F.Nothing
scan_from p ps l i (suc k) = found_at p ps l i (window_at l i) (scan_from p ps l (suc i) k)

unfoldable pub scan_of : Precision → List Projected → List ℕ → Outcome Found
scan_of p ps l = scan_from p ps l 0 (length l)

-- what a scan needs: every place that is left is one of the outline
pub record Ready (o : Outline) (a : Active) : Type 0 where
  pub few : o.n ≤ 128
  pub left : a.n ≤ 128
  pub low : (j : ℕ) → get_or (places_of a) j 0 < o.n
