-- The laws of intervals that other crates cite: what a certified sign says of the ends, and that every interval here has its ends in order. Assumes nothing.
use mathlib.Core.Path.{◌≡◌, sym, subst}
use mathlib.Core.Bool.{Bool, true, false, cond}
use Prim.Native.Nat.{◌≤◌}
use native.Mathlib.Nat.{le_refl, le_trans}
use lib.Ieee.{Float, binary64, mul}
use Rattle.float.specs.Float.{next_down}
use Rattle.float.proofs.Places.{place, Number, zero_number, down_number}
use Rattle.float.proofs.Laws.{lesser_is, greater_is, lesser_over, down_mono}
use Rattle.interval.specs.declared.Interval.{Interval}
use Rattle.interval.specs.Ends.{zero, holds_zero, sqr_i}
use Rattle.interval.proofs.Laws.{square_ends, low_square, high_square, square_by}

-- a square of an interval whose ends are numbers: not below zero, and where zero is not held not below the step under what neither square of the ends is below
module _ (a : Interval) (l : Number a.lo) (h : Number a.hi) where
  pub square_low : place zero ≤ place (sqr_i a).lo
  square_low = square_by a l h (λ (i : Interval). place zero ≤ place i.lo) (go (holds_zero a) _ (greater_is (down_number (lesser_is (low_square a l h) (high_square a l h)).0) zero_number).1.1)
    where
      go : (z : Bool) (x : Float) → place zero ≤ place x → place zero ≤ place (cond z zero x)
      go true x k = le_refl (place zero)
      go false x k = k

  pub square_floor : holds_zero a ≡ false → {f : Float} → Number f → place f ≤ place (mul binary64 a.lo a.lo) → place f ≤ place (mul binary64 a.hi a.hi) → place (next_down f) ≤ place (sqr_i a).lo
  square_floor e {f} c i j =
      let L = (lesser_is (low_square a l h) (high_square a l h)).0 in
      square_by a l h (λ (i : Interval). place (next_down f) ≤ place i.lo)
      (subst (λ (z : Bool). place (next_down f) ≤ place (square_ends z (mul binary64 a.lo a.lo) (mul binary64 a.hi a.hi)).lo) (sym e)
      (le_trans (down_mono c L (lesser_over (mul binary64 a.lo a.lo) (mul binary64 a.hi a.hi) (place f) i j)) (greater_is (down_number L) zero_number).1.0))
