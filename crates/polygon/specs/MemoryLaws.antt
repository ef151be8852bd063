-- Laws of points in a slice of f64.
use Rattle.std.specs.Prelude.{◌≡◌, Bool, List, [], ◌∷◌, ◌++◌, length, get_or, set, Float, Ok}
use Rattle.std.proofs.Math.Path.{refl, ap}
use Rattle.std.proofs.Common.{sym, ◌∙◌, add-one, length-set, get_or-set_same, get_or-set_other}
use Prim.Native.Nat.{ℕ, zero, suc, ◌+◌, ◌-◌, ◌*◌, ◌<◌, ◌≤◌}
use native.Mathlib.Omega.{arith}
use Rattle.std.proofs.Math.Numerals.{add-two}
use Rattle.std.proofs.lemmas.List.Edits.{sets}
use Rattle.std.specs.Float.{nan, binary64}
use Rattle.std.specs.Float.Ieee.{sub}
use Rattle.lists.specs.Walks.{Stops}
use Rattle.lists.specs.Laws.{run_over}
use Rattle.space.specs.declared.Point3.{Point3}
use Rattle.space.specs.declared.Precision.{Precision}
use Rattle.space.specs.declared.Closeness.TheVariants.{Apart}
use Rattle.space.specs.Near.{near_of}
use Rattle.space.specs.Far.{is_far, reach_of}
use Rattle.space.proofs.Far.{reach_apart}
use Rattle.polygon.specs.Memory.{floats, point_at, points_at, far_at}

-- a point is its three floats
pub point_same : (s : List Float) (i : ℕ) (p : Point3) → get_or s i nan ≡ p.x → get_or s (i + 1) nan ≡ p.y → get_or s (i + 2) nan ≡ p.z → point_at s i ≡ p
point_same s i p a b c =
    ap {B = Point3} (λ v. record { x = v; y = get_or s (i + 1) nan; z = get_or s (i + 2) nan }) a
    ∙ ap {B = Point3} (λ v. record { x = p.x; y = v; z = get_or s (i + 2) nan }) b
    ∙ ap {B = Point3} (λ v. record { x = p.x; y = p.y; z = v }) c

-- ---- a point that is stored

module _ (s : List Float) (at : ℕ) (p : Point3) where
  pub point_stored : at + 3 ≤ length s → point_at (sets s at (floats p)) at ≡ p
  point_stored h =
      let s₁ = set s at p.x in
      let s₂ = set s₁ (suc at) p.y in
      let l₁ : length s₁ ≡ length s = length-set s at p.x in
      let l₂ : length s₂ ≡ length s₁ = length-set s₁ (suc at) p.y in
      point_same (sets s at (floats p)) at p
      (get_or-set_other s₂ (suc (suc at)) at p.z nan (λ e. omega arith) ∙ get_or-set_other s₁ (suc at) at p.y nan (λ e. omega arith) ∙ get_or-set_same s at p.x nan (omega arith))
      (ap (λ i. get_or (sets s at (floats p)) i nan) (add-one at) ∙ get_or-set_other s₂ (suc (suc at)) (suc at) p.z nan (λ e. omega arith) ∙ get_or-set_same s₁ (suc at) p.y nan (omega arith))
      (ap (λ i. get_or (sets s at (floats p)) i nan) (add-two at) ∙ get_or-set_same s₂ (suc (suc at)) p.z nan (omega arith))

  pub stored_before : (j : ℕ) → j < at → get_or (sets s at (floats p)) j nan ≡ get_or s j nan
  stored_before j h =
      get_or-set_other (set (set s at p.x) (suc at) p.y) (suc (suc at)) j p.z nan (λ e. omega arith)
      ∙ get_or-set_other (set s at p.x) (suc at) j p.y nan (λ e. omega arith)
      ∙ get_or-set_other s at j p.x nan (λ e. omega arith)

  pub stored_after : (j : ℕ) → at + 3 ≤ j → get_or (sets s at (floats p)) j nan ≡ get_or s j nan
  stored_after j h =
      get_or-set_other (set (set s at p.x) (suc at) p.y) (suc (suc at)) j p.z nan (λ e. omega arith)
      ∙ get_or-set_other (set s at p.x) (suc at) j p.y nan (λ e. omega arith)
      ∙ get_or-set_other s at j p.x nan (λ e. omega arith)

-- ---- runs of points

-- the floats alone decide
pub points_same : (s s' : List Float) (at n : ℕ) → ((j : ℕ) → at ≤ j → j < at + 3 * n → get_or s' j nan ≡ get_or s j nan) → points_at s' at n ≡ points_at s at n
unfolding points_at
points_same s s' at zero h = refl
points_same s s' at (suc n) h =
    ap (λ p. p ∷ points_at s' (at + 3) n) (point_same s' at (point_at s at) (h at (omega arith) (omega arith)) (h (at + 1) (omega arith) (omega arith)) (h (at + 2) (omega arith) (omega arith)))
    ∙ ap (λ l. point_at s at ∷ l) (points_same s s' (at + 3) n (λ j a b. h j (omega arith) (omega arith)))

module _ (s : List Float) where
  pub length_points_at : (at n : ℕ) → length (points_at s at n) ≡ n
  unfolding points_at
  length_points_at at zero = refl
  length_points_at at (suc n) = ap suc (length_points_at (at + 3) n)

  -- one point more at the end
  pub points_more : (at n : ℕ) → points_at s at (n + 1) ≡ points_at s at n ++ (point_at s (at + 3 * n) ∷ [])
  unfolding points_at
  points_more at zero =
      let e : at ≡ at + 3 * 0 = omega arith in
      ap (λ i. point_at s i ∷ []) e
  points_more at (suc n) =
      let e : suc n + 1 ≡ suc (n + 1) = omega arith in
      let d : at + 3 + 3 * n ≡ at + 3 * suc n = omega arith in
      ap (points_at s at) e ∙ ap (λ l. point_at s at ∷ l) (points_more (at + 3) n) ∙ ap (λ i. point_at s at ∷ (points_at s (at + 3) n ++ (point_at s i ∷ []))) d

  -- the walk over n points: the next one and the rest, and the end
  pub points_next : (n i : ℕ) → i < n → points_at s (3 * i) (n - i) ≡ point_at s (3 * i) ∷ points_at s (3 * (i + 1)) (n - (i + 1))
  unfolding points_at
  points_next n i h =
      let e : n - i ≡ suc (n - (i + 1)) = omega arith in
      let d : 3 * i + 3 ≡ 3 * (i + 1) = omega arith in
      ap (points_at s (3 * i)) e ∙ ap (λ j. point_at s (3 * i) ∷ points_at s j (n - (i + 1))) d

  pub points_done : (n i at : ℕ) → n ≤ i → points_at s at (n - i) ≡ []
  unfolding points_at
  points_done n i at h =
      let e : n - i ≡ 0 = omega arith in
      ap (points_at s at) e

-- ---- points that differ by enough

-- in the code's words: a point taken out and tested
pub far_here : (g : Float) (q : Point3) (s : List Float) (k : ℕ) (p : Point3) (v b : Bool) → p ≡ point_at s (3 * k) → v ≡ is_far g (sub binary64 q.x p.x) (sub binary64 q.y p.y) (sub binary64 q.z p.z) → v ≡ b → far_at g q s k ≡ b
unfolding far_at
far_here g q s k p v b e f h = ap (λ z. is_far g (sub binary64 q.x z.x) (sub binary64 q.y z.y) (sub binary64 q.z z.z)) (sym e) ∙ sym f ∙ h

-- they are apart, so whatever a point that is apart keeps holds behind them
pub pass_over : (P : ℕ → Type 0) (t : Precision) (g : Float) (q : Point3) (s : List Float) {m i r : ℕ} → Stops (far_at g q s) m i r → g ≡ reach_of t → ((x : ℕ) → x < m → near_of t q (point_at s (3 * x)) ≡ Ok Apart → P x → P (x + 1)) → P i → P r
unfolding far_at
pass_over P t g q s S e step = run_over S.run P (λ x h f. step x h (reach_apart t g q (point_at s (3 * x)) e f))
