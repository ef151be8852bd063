-- The six-fold volume of a shell whose corners are at most 2 ^ k in size has finite ends, for any number of corners that a memory holds: each part adds at most 2 ^ (3k + 10), and a step. Assumes nothing.
use Rattle.std.proofs.Math.Path.{subst}
use mathlib.Core.List.{List, [], ◌∷◌, map}
use Rattle.std.specs.Prelude.{ℕ, ◌+◌, ◌*◌, ◌^◌, ◌≤◌, ◌<◌}
use Rattle.std.proofs.Common.{mul-le-mul_right}
use native.Mathlib.Omega.{arith}
use Rattle.std.proofs.Math.ListN.{length, length-map}
use Rattle.interval.specs.declared.Interval.{Interval}
use Rattle.interval.specs.Ends.{zero, point_i, add_i, sub_i, mul_i}
use Rattle.interval.specs.Box.{at, difference_i, cross_i}
use Rattle.interval.specs.Exact.{Bounded}
use Rattle.space.specs.declared.Point3.{Point3}
use Rattle.space.specs.Vector.{box_of}
use Rattle.polygon.specs.Members.{All}
use Rattle.volume.specs.Volume.{wedge, fan, fan_of, volume_from}
use Rattle.tube_domain.specs.Spans.{Spans, spans_more, spans_finite, zero_within}
use Rattle.tube_domain.proofs.Spans.{add_spans}
use Rattle.tube_domain.specs.Size.{power, power_pos, multiple_grid, Size3, Ends, ends_more, point_most}
use Rattle.tube_domain.proofs.Size.{sub_most, mul_most}
use Rattle.tube_domain.specs.Volume.{Box3, part_size, Parts, corners_of}

arm_most : {k : ℕ} (p o : Point3) → k + 2 < 1024 → Size3 k p → Size3 k o → Box3 (k + 2) (difference_i (box_of p) (box_of o))
unfolding difference_i box_of
arm_most p o K s t = record {
  first = sub_most K (point_most s.x_size) (point_most t.x_size);
  second = sub_most K (point_most s.y_size) (point_most t.y_size);
  third = sub_most K (point_most s.z_size) (point_most t.z_size);
}

cross_most : {k : ℕ} (a b : List Interval) → k + k + 3 < 1024 → Box3 k a → Box3 k b → Box3 (k + k + 3) (cross_i a b)
unfolding cross_i
cross_most {k} a b K u v = record { first = minor u.second v.third u.third v.second; second = minor u.third v.first u.first v.third; third = minor u.first v.second u.second v.first }
  where
    minor : {p q r s : Interval} → Ends k p → Ends k q → Ends k r → Ends k s → Ends (k + k + 3) (sub_i (mul_i p q) (mul_i r s))
    minor p q r s = ends_more (omega arith) (sub_most {k = k + k + 1} (omega arith) (mul_most (omega arith) p q) (mul_most (omega arith) r s))

-- ---- a sum of q parts of at most u, and one part more
module _ (k : ℕ) (K : k < 971) where
  add_part : (q : ℕ) (v a : Interval) → q + 2 < 2 ^ 53 → Spans (q * power k) v → Ends k a → Spans ((q + 2) * power k) (add_i v a)
  add_part q v a Q s e =
      let p = power_pos k in
      add_spans (multiple_grid (q + 2) k Q K) (step q (power k) p) (multiple_grid (q + 1) k (omega arith) K) s e.spans (next q (power k))
    where
      step : (q u : ℕ) → 0 < u → (q + 1) * u < (q + 2) * u
      step q u h = omega arith

      next : (q u : ℕ) → q * u + u ≤ (q + 1) * u
      next q u = omega arith

parts_more : (k p q : ℕ) (v : Interval) → p ≤ q → Parts k p v → Parts k q v
parts_more k p q v h s = spans_more (mul-le-mul_right (power (part_size k)) h) s

module _ {k : ℕ} (K : k ≤ 300) where
  wedge_most : (q : ℕ) (v : Interval) (a n : List Interval) → q + 6 < 2 ^ 53 → Parts k q v → Box3 k a → Box3 (k + k + 3) n → Parts k (q + 6) (wedge v a n)
  unfolding wedge
  wedge_most q v a n Q s b c =
      let x = mul_most (omega arith) b.first c.first in
      let y = mul_most (omega arith) b.second c.second in
      let z = mul_most (omega arith) b.third c.third in
      let L : part_size k < 971 = omega arith in
      let d = add_part (part_size k) L q v (mul_i (at a 0) (at n 0)) (omega arith) s x in
      let e = add_part (part_size k) L (q + 2) (add_i v (mul_i (at a 0) (at n 0))) (mul_i (at a 1) (at n 1)) (omega arith) d y in
      let f = add_part (part_size k) L (q + 2 + 2) (add_i (add_i v (mul_i (at a 0) (at n 0))) (mul_i (at a 1) (at n 1))) (mul_i (at a 2) (at n 2)) (omega arith) e z in
      subst (λ (m : ℕ). Parts k m (wedge v a n)) (omega arith) f

  fan_most : (q : ℕ) (v : Interval) (a : List Interval) (l : List (List Interval)) → q + 6 * length l < 2 ^ 53 → Parts k q v → Box3 k a → All (Box3 k) l → Parts k (q + 6 * length l) (fan v a l)
  unfolding fan All
  fan_most q v a [] Q s b c = parts_more k q _ v (omega arith) s
  fan_most q v a (x ∷ []) Q s b c = parts_more k q _ v (omega arith) s
  fan_most q v a (x ∷ y ∷ l) Q s b c =
      let w = wedge_most q v a (cross_i x y) (omega arith) s b (cross_most x y (omega arith) c.0 c.1.0) in
      parts_more k (q + 6 + 6 * length (y ∷ l)) _ _ (omega arith) (fan_most (q + 6) (wedge v a (cross_i x y)) a (y ∷ l) (omega arith) w b c.1)

  facet_most : (q : ℕ) (v : Interval) (l : List (List Interval)) → q + 6 * length l < 2 ^ 53 → Parts k q v → All (Box3 k) l → Parts k (q + 6 * length l) (fan_of v l)
  unfolding fan_of All
  facet_most q v [] Q s c = parts_more k q _ v (omega arith) s
  facet_most q v (a ∷ l) Q s c = parts_more k (q + 6 * length l) _ _ (omega arith) (fan_most q v a l (omega arith) s c.0 c.1)

module _ {k : ℕ} (K : k ≤ 298) (o : Point3) (s : Size3 k o) where
  arms : (f : List Point3) → All (Size3 k) f → All (Box3 (k + 2)) (map (λ q. difference_i (box_of q) (box_of o)) f)
  unfolding All
  arms [] a = tt
  arms (p ∷ f) a = (arm_most p o (omega arith) a.0 s, arms f a.1)

  volume_parts : (q : ℕ) (v : Interval) (l : List (List Point3)) → q + 6 * corners_of l < 2 ^ 53 → Parts (k + 2) q v → All (All (Size3 k)) l → Parts (k + 2) (q + 6 * corners_of l) (volume_from (box_of o) v l)
  unfolding volume_from All corners_of
  volume_parts q v [] Q p a = parts_more (k + 2) q _ v (omega arith) p
  volume_parts q v (f ∷ l) Q p a =
      let m = length-map f (λ q. difference_i (box_of q) (box_of o)) in
      let x = map (λ q. difference_i (box_of q) (box_of o)) f in
      let g = facet_most (omega arith) q v x (omega arith) p (arms f a.0) in
      parts_more (k + 2) (q + 6 * length x + 6 * corners_of l) _ _ (omega arith) (volume_parts (q + 6 * length x) (fan_of v x) l (omega arith) g a.1)

  -- ---- THE VOLUME: of up to 2 ^ 50 corners of at most 2 ^ k in size, seen from one such, both ends are finite
  pub volume_bounded : (l : List (List Point3)) → corners_of l ≤ 2 ^ 50 → All (All (Size3 k)) l → Bounded (volume_from (box_of o) (point_i zero) l)
  volume_bounded l c a = (spans_finite (volume_parts 0 (point_i zero) l (omega arith) (record { low = zero_within _; high = zero_within _ }) a)).bounded
