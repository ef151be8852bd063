-- A coordinate of a vector is at most twice as large as the vector's rounded length, so that a frame's normal, which is divided by it, has coordinates of at most 2 in size. Assumes nothing.
-- Were the length r below 2 ^ j and a coordinate not, then the rounded dot would be 2 ^ 2j or more, whose root is nearer to 2 ^ j than to r.
use Rattle.std.specs.Prelude.{◌≡◌, true, false, ℕ, zero, suc, ◌+◌, ◌-◌, ◌*◌, ◌^◌, ◌≤◌, ◌<◌, T, Float}
use Rattle.std.proofs.Math.Path.{sym, ap}
use Rattle.std.proofs.Common.{◌∙◌, subst, le_trans, le_of_eq, mul-le-mul, mul-le-mul_right, mul-pos, lt→ltb, pow_pos}
use native.Mathlib.Omega.{arith}
use Rattle.std.proofs.Math.Pow.{pow-add}
use Rattle.std.specs.Float.{nan, inf, fin}
use Rattle.std.specs.Float.Ieee.{binary64, fits, add, mul, div, of_bits}
use Rattle.std.specs.Float.Ieee.Fits.{add-fits}
use Rattle.std.specs.Float.Ieee.Positive.{positive}
use Rattle.float.specs.Float.{sign_bit, finite}
use Rattle.float.specs.Exact.{plus, minus}
use Rattle.float.proofs.Rounded.{added, multiplied, times_plus, times_minus}
use Rattle.float.proofs.Places.{place, place_units, zero_number, zero_place}
use Rattle.float.proofs.Sums.{rounded_place, add_not_below}
use Rattle.float.proofs.Products.{square_above}
use Rattle.root.specs.Root.{sqrt_of}
use Rattle.root.specs.Nearest.{NearestRoot}
use Rattle.root.proofs.Nearest.{nearest_root}
use Rattle.space.specs.declared.Point3.{Point3}
use Rattle.space.specs.Vector.{over_v, dot_v, length_v}
use Rattle.tube_domain.specs.Within.{Grid, mark, mark_number, mark_rounded, mark_plus, mark_minus, mark_finite, within_number, div_within}
use Rattle.tube_domain.specs.Size.{Size, Size3, size_more, power, pow_grid, power_grid}
use Rattle.tube_domain.proofs.Size.{add_size, mul_size}
use Rattle.tube_domain.specs.Length.{Reaches, pair_dot, self_dot}
use Rattle.tube_domain.proofs.Longer.{not_longer}

not_negative : (x : Float) → T (fits binary64 x) → T (finite x) → sign_bit ≤ place x → Reaches 0 x
unfolding of_bits
not_negative x f k h = let e = zero_place in omega (arith, place_units (of_bits binary64 0) x zero_number.held f tt k (omega arith))

-- ---- a rounded number reaches n where the exact one does, and n is a value of the format
module _ {n : ℕ} (g : Grid n) where
  reaches : (r : Float) → T (fits binary64 r) → T (finite r) → place (mark n) ≤ place r → Reaches n r
  reaches r f k h = omega (arith, place_units (mark n) r (mark_number n).held f (mark_finite g) k h, mark_plus g, mark_minus g)

  add_reaches : {k : ℕ} {x y : Float} → k + 1 < 1024 → Size k x → Size k y → n + (minus x + minus y) ≤ plus x + plus y → Reaches n (add binary64 x y)
  add_reaches {k} {x} {y} K s t h =
      let A = added x y s.within.held t.within.held s.within.bounded t.within.bounded in
      let z = (add_size K s t).within in
      reaches (add binary64 x y) z.held z.bounded (rounded_place (mark_rounded n) A.rounded (pow_pos 1074) A.over_pos (spread (plus x + plus y) (minus x + minus y) (2 ^ 1074) A.over h))
    where
      spread : (p m l o : ℕ) → n + m ≤ p → n * l * o + m * o * l ≤ p * o * l + 0 * o
      spread p m l o h = omega (arith, mul-le-mul_right (o * l) h)

  sqr_reaches : {k : ℕ} {x : Float} → k + k < 1024 → Size k x → n * 2 ^ 1074 + times_minus x x ≤ times_plus x x → Reaches n (mul binary64 x x)
  sqr_reaches {k} {x} K s h =
      let M = multiplied x x s.within.held s.within.held s.within.bounded s.within.bounded in
      let z = (mul_size K s s).within in
      reaches (mul binary64 x x) z.held z.bounded
      (rounded_place (mark_rounded n) M.rounded (pow_pos 1074) (mul-pos M.over_pos (pow_pos 1074)) (spread (times_plus x x) (times_minus x x) (2 ^ 1074) M.over h))
    where
      spread : (p m l o : ℕ) → n * l + m ≤ p → n * l * (o * l) + m * o * l ≤ p * o * l + 0 * (o * l)
      spread p m l o h = omega (arith, mul-le-mul_right (o * l) h)

-- |p - n| is t or more, so its square is
squared : (t p n : ℕ) → t + n ≤ p → t * t + (p * n + n * p) ≤ p * p + n * n
squared t p n h =
    let e : n + (p - n) ≡ p = omega arith in
    subst (λ (u : ℕ). t * t + (u * n + n * u) ≤ u * u + n * n) e (grown (p - n) (omega arith))
  where
    grown : (g : ℕ) → t ≤ g → t * t + ((n + g) * n + n * (n + g)) ≤ (n + g) * (n + g) + n * n
    grown g l = omega (arith, mul-le-mul l l)

module _ {x y z : Float} {k : ℕ} (K : k ≤ 500) (sx : Size k x) (sy : Size k y) (sz : Size k z) where
  square : {c : Float} → Size k c → Size (k + k) (mul binary64 c c)
  square s = mul_size (omega arith) s s

  two_squares : Size (k + k + 1) (pair_dot x y)
  two_squares = add_size (omega arith) (square sx) (square sy)

  third : Size (k + k + 1) (mul binary64 z z)
  third = size_more (omega arith) (square sz)

  dot_size : Size (k + k + 1 + 1) (self_dot x y z)
  dot_size = add_size (omega arith) two_squares third

  square_least : {c : Float} → Size k c → Reaches 0 (mul binary64 c c)
  square_least {c} s = let q = (square s).within in not_negative (mul binary64 c c) q.held q.bounded (square_above c (within_number s.within).real)

  pair_least : Reaches 0 (pair_dot x y)
  pair_least =
      let a = square_above x (within_number sx.within).real in
      let b = square_above y (within_number sy.within).real in
      let q = two_squares.within in
      not_negative (pair_dot x y) q.held q.bounded (add_not_below (within_number (square sx).within) (within_number (square sy).within) (within_number q).real (omega arith))

  -- it reaches what one of the squares does
  module _ {n : ℕ} (g : Grid n) where
    by_pair : Reaches n (pair_dot x y) → Reaches n (self_dot x y z)
    by_pair h = add_reaches g (omega arith) two_squares third (omega (arith, h, square_least sz))

    by_x : Reaches n (mul binary64 x x) → Reaches n (self_dot x y z)
    by_x h = by_pair (add_reaches g (omega arith) (square sx) (square sy) (omega (arith, h, square_least sy)))

    by_y : Reaches n (mul binary64 y y) → Reaches n (self_dot x y z)
    by_y h = by_pair (add_reaches g (omega arith) (square sx) (square sy) (omega (arith, h, square_least sx)))

    by_z : Reaches n (mul binary64 z z) → Reaches n (self_dot x y z)
    by_z h = add_reaches g (omega arith) two_squares third (omega (arith, h, pair_least))

-- ---- the root
-- so a coordinate c over that length is at most 2 in size
module _ (d r c : Float) (N : NearestRoot d r) (least : 2 ^ 1034 ≤ plus r) {k : ℕ} (K : k ≤ 500) (s : Size k c) (by : (n : ℕ) → Grid n → Reaches n (mul binary64 c c) → Reaches n d) where
  reached : (i j : ℕ) → j < 2098 → i + i ≡ j + 1074 → 2 ^ i * 2 ^ i + times_minus c c ≤ times_plus c c → Reaches (2 ^ j) d
  reached i j w e h =
      let q : 2 ^ i * 2 ^ i ≡ 2 ^ j * 2 ^ 1074 = sym (pow-add 2 i i) ∙ ap (λ (n : ℕ). 2 ^ n) e ∙ pow-add 2 j 1074 in
      by (2 ^ j) (pow_grid j w) (sqr_reaches (pow_grid j w) (omega arith) s (le_trans (le_of_eq (ap (λ (n : ℕ). n + times_minus c c) (sym q))) h))

  pub over_size : Size 1 (div binary64 c r)
  unfolding power
  over_size =
      let m : plus c ≤ 2 * plus r + minus c = not_longer d r N least K (plus c) (minus c) s.within.most (λ i j w e h. reached i j w e (squared (2 ^ i) (plus c) (minus c) h)) in
      let l : minus c ≤ 2 * plus r + plus c = not_longer d r N least K (minus c) (plus c) s.within.least (λ i j w e h. reached i j w e (omega (arith, squared (2 ^ i) (minus c) (plus c) h))) in
      record { within = div_within 2 c r (power_grid 1 (omega arith)) (pow-add 2 1 1074) s.within.held s.within.bounded N.held N.above m l }

-- ---- a root that is above zero is that of a number above zero
root_source : (d : Float) → T (positive (sqrt_of d)) → T (positive d)
unfolding sqrt_of
root_source nan p = p
root_source (inf true) p = p
root_source (inf false) p = p
root_source (fin true zero e) p = p
root_source (fin false zero e) p = p
root_source (fin true (suc m) e) p = p
root_source (fin false (suc m) e) p = lt→ltb 0 (suc m) (omega arith)

-- ---- THE LENGTH: a vector of at most 2 ^ 500, over its length of 2 ^ -40 or more, has coordinates of at most 2
module _ (a : Point3) (s : Size3 500 a) where
  pub over_length : T (positive (length_v a)) → 2 ^ 1034 ≤ plus (length_v a) → Size3 1 (over_v a (length_v a))
  unfolding length_v dot_v over_v
  over_length p least =
      let d = self_dot a.x a.y a.z in
      let f = add-fits binary64 (pair_dot a.x a.y) (mul binary64 a.z a.z) in
      let N = nearest_root d f (root_source d p) in
      let K : 500 ≤ 500 = omega arith in
      let x = s.x_size in let y = s.y_size in let z = s.z_size in
      record {
        x_size = over_size d (sqrt_of d) a.x N least K x (λ n g h. by_x K x y z g h);
        y_size = over_size d (sqrt_of d) a.y N least K y (λ n g h. by_y K x y z g h);
        z_size = over_size d (sqrt_of d) a.z N least K z (λ n g h. by_z K x y z g h);
      }
