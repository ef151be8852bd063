-- A coordinate of a vector is at most twice as large as the vector's rounded length, so that a frame's normal, which is divided by it, has coordinates of at most 2 in size. Assumes nothing.
-- Were the length r below 2 ^ j and a coordinate not, then the rounded dot would be 2 ^ 2j or more, whose root is nearer to 2 ^ j than to r.
use Rattle.std.specs.Prelude.{◌≡◌, true, false, ℕ, zero, suc, ◌+◌, ◌-◌, ◌*◌, ◌^◌, ◌≤◌, ◌<◌, T, Float}
use Rattle.std.proofs.Math.Path.{sym, ap}
use Rattle.std.proofs.Common.{◌∙◌, subst, inl, inr, le_trans, le_of_eq, mul-le-mul, mul-le-mul_right, lt→ltb, pow_mono}
use native.Mathlib.Omega.{arith}
use Rattle.std.proofs.Math.Pow.{pow-lt, pow-add}
use Rattle.std.specs.Float.{nan, inf, fin}
use Rattle.std.specs.Float.Ieee.{binary64, fits, add, mul}
use Rattle.std.specs.Float.Ieee.Fits.{add-fits, nan-fits, inf-fits}
use Rattle.float.specs.Exact.{plus, minus}
use Rattle.float.proofs.Places.{side}
use Rattle.root.specs.Root.{sqrt_of}
use Rattle.root.specs.Nearest.{NearestRoot}
use Rattle.root.proofs.Nearest.{nearest_root}
use Rattle.space.specs.declared.Point3.{Point3}
use Rattle.space.specs.Vector.{dot_v, length_v}
use Rattle.tube_domain.specs.Within.{mark, mark_number, mark_plus, mark_finite, mark_negative}
use Rattle.tube_domain.specs.Size.{Size3, power, pow_grid}

-- ---- x is at least n units
abbrev pub Reaches : ℕ → Float → Type 0
Reaches n x = n + minus x ≤ plus x

-- ---- the rounded dot of a vector with itself
abbrev pub pair_dot : Float → Float → Float
pair_dot x y = add binary64 (mul binary64 x x) (mul binary64 y y)

abbrev pub self_dot : Float → Float → Float → Float
self_dot x y z = add binary64 (pair_dot x y) (mul binary64 z z)

-- ---- the root
-- r is below t, and yet at least as near to the root of n as t is, though n is t * t or more
too_near : (r t n : ℕ) → r < t → t * t ≤ n → 4 * n ≤ (r + t) * (r + t) → ⊥
too_near r t n h k l =
    let a : r + t + 1 ≤ t + t = omega arith in
    omega (arith, mul-le-mul a a, k, l)

pow_back : (i j : ℕ) → 2 ^ i ≤ 2 ^ j → i ≤ j
pow_back i j h = elim (side j i) [ inl l ↦ absurd (clash (pow-lt l) h) | inr l ↦ l ]
  where
    clash : {a b : ℕ} → a < b → b ≤ a → ⊥
    clash h k = omega arith

pub pow_under : (i j n : ℕ) → 2 ^ i ≤ n → n < 2 ^ j → i < j
pow_under i j n h k = elim (side i j) [ inl l ↦ l | inr l ↦ absurd (clash h k (pow_mono l)) ]
  where
    clash : {a b : ℕ} → a ≤ n → n < b → b ≤ a → ⊥
    clash h k l = omega arith

-- a length r of 2 ^ -40 or more, which is the root of d, and a number of p - n units, at most 2 ^ k, whose square d reaches
module _ (d r : Float) (N : NearestRoot d r) (least : 2 ^ 1034 ≤ plus r) {k : ℕ} (K : k ≤ 500) (p n : ℕ) (most : p ≤ power k + n)
    (held : (i j : ℕ) → j < 2098 → i + i ≡ j + 1074 → 2 ^ i + n ≤ p → Reaches (2 ^ j) d) where
  -- no power of two is above r and at most p - n
  pub refuted : (i : ℕ) → plus r < 2 ^ i → 2 ^ i + n ≤ p → ⊥
  unfolding power
  refuted i h l =
      let a : 1034 < i = pow_under 1034 i (plus r) least h in
      let b : i ≤ k + 1074 = pow_back i (k + 1074) (omega arith) in
      let e : i + i ≡ i + i - 1074 + 1074 = omega arith in
      let g = pow_grid i (omega arith) in
      let q = held i (i + i - 1074) (omega arith) e l in
      let s : 2 ^ i * 2 ^ i ≡ 2 ^ (i + i - 1074) * 2 ^ 1074 = sym (pow-add 2 i i) ∙ ap (λ (m : ℕ). 2 ^ m) e ∙ pow-add 2 (i + i - 1074) 1074 in
      let u : 2 ^ (i + i - 1074) ≤ plus d = omega (arith, q) in
      let v = (N.nearest (mark (2 ^ i)) ((mark_number (2 ^ i)).held, mark_finite g, mark_negative g)).0 in
      too_near (plus r) (2 ^ i) (plus d * 2 ^ 1074) h (le_trans (le_of_eq s) (mul-le-mul_right (2 ^ 1074) u))
      (subst (λ (m : ℕ). 4 * (plus d * 2 ^ 1074) ≤ (plus r + m) * (plus r + m)) (mark_plus g) (v (subst (λ (m : ℕ). plus r < m) (sym (mark_plus g)) h)))

-- ---- a root that is above zero is that of a number above zero
pub root_held : (d : Float) → T (fits binary64 d) → T (fits binary64 (sqrt_of d))
unfolding sqrt_of
root_held nan f = nan-fits binary64
root_held (inf true) f = nan-fits binary64
root_held (inf false) f = inf-fits binary64 false
root_held (fin s zero e) f = f
root_held (fin true (suc m) e) f = nan-fits binary64
root_held (fin false (suc m) e) f = (nearest_root (fin false (suc m) e) f (lt→ltb 0 (suc m) (omega arith))).held

-- ---- THE LENGTH: a vector of at most 2 ^ 500, over its length of 2 ^ -40 or more, has coordinates of at most 2
module _ (a : Point3) (s : Size3 500 a) where
  abbrev length : Float
  length = length_v a

  pub length_held : T (fits binary64 (length_v a))
  unfolding length_v dot_v
  length_held = root_held (self_dot a.x a.y a.z) (add-fits binary64 (pair_dot a.x a.y) (mul binary64 a.z a.z))
