-- How large the ends of an interval are: at most n units in size, and what the stepped operations make of that. Assumes nothing.
use Rattle.std.specs.Prelude.{◌≡◌, false, ℕ, ◌+◌, ◌*◌, ◌^◌, ◌≤◌, ◌<◌, Float}
use Rattle.std.proofs.Common.{sym, subst}
use Rattle.std.specs.Float.Ieee.{is_nan}
use Rattle.std.specs.Float.Ieee.Bits.{is_false}
use Rattle.interval.specs.declared.Interval.{Interval}
use Rattle.interval.specs.Ends.{outward, add_i, sub_i, hull_of, mul_i, holds_zero, square_of, sqr_i}
use Rattle.interval.proofs.Laws.{stepped}
use Rattle.tube_domain.specs.Within.{Within, within_number, Grid, add_within, sub_within, mul_within, up_within, down_within, cond_within, lesser_within, greater_within}
use Rattle.tube_domain.specs.Spans.{Spans, zero_within}

real : {n : ℕ} {x : Float} → Within n x → is_nan x ≡ false
real {n} {x} s = is_false (is_nan x) (within_number s).real

-- ---- n units before the step, and k with it
module _ {n k : ℕ} (g : Grid k) (s : n < k) where
  outward_spans : {l h : Float} → Within n l → Within n h → Spans k (outward l h)
  outward_spans {l} {h} a b = subst (Spans k) (sym (stepped l h (real a) (real b))) (record { low = down_within g s a; high = up_within g s b })

  module _ (f : Grid n) {i j : ℕ} {a b : Interval} (u : Spans i a) (v : Spans j b) where
    pub add_spans : i + j ≤ n → Spans k (add_i a b)
    unfolding add_i
    add_spans h = outward_spans (add_within f h u.low v.low) (add_within f h u.high v.high)

    pub sub_spans : i + j ≤ n → Spans k (sub_i a b)
    unfolding sub_i
    sub_spans h = outward_spans (sub_within f h u.low v.high) (sub_within f h u.high v.low)

    pub mul_spans : i * j ≤ n * 2 ^ 1074 → Spans k (mul_i a b)
    unfolding mul_i hull_of
    mul_spans h =
        let p = mul_within {x = a.lo} {y = b.lo} f h u.low v.low in
        let q = mul_within {x = a.lo} {y = b.hi} f h u.low v.high in
        let r = mul_within {x = a.hi} {y = b.lo} f h u.high v.low in
        let t = mul_within {x = a.hi} {y = b.hi} f h u.high v.high in
        rw (real p, real q, real r, real t) (outward_spans (lesser_within (lesser_within p q) (lesser_within r t)) (greater_within (greater_within p q) (greater_within r t)))

  pub sqr_spans : Grid n → {i : ℕ} {a : Interval} → Spans i a → i * i ≤ n * 2 ^ 1074 → Spans k (sqr_i a)
  unfolding sqr_i square_of
  sqr_spans f {i} {a} u h =
      let p = mul_within {x = a.lo} {y = a.lo} f h u.low u.low in
      let q = mul_within {x = a.hi} {y = a.hi} f h u.high u.high in
      let z = zero_within k in
      rw (real p, real q) (record { low = cond_within (holds_zero a) z (greater_within (down_within g s (lesser_within p q)) z); high = up_within g s (greater_within p q) })
