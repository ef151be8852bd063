-- The two loops of `unique`: what stands at their heads, and how a turn keeps it.
use Rattle.std.specs.Prelude.{Ok, Err}
use mathlib.Core.Path.{◌≡◌, refl, sym, ap, ◌∙◌}
use mathlib.Core.List.{List, [], ◌∷◌, ◌++◌}
use Prim.Native.Nat.{ℕ, zero, suc, ◌+◌, ◌*◌, ◌<◌, ◌≤◌}
use native.Mathlib.Omega.{arith}
use native.Mathlib.Nat.{not-suc-le-zero, le_of_suc-le-suc}
use lib.ListN.{length, take, drop, get_or, set, length-append}
use lib.Seq.{take_all}
use lib.Ieee.{Float}
use Rattle.refusal.specs.declared.Refusal.{Refusal}
use Rattle.refusal.specs.Outcome.{Outcome, walk}
use Rattle.refusal.specs.Laws.{walk_end}
use Rattle.lists.specs.Laws.{next, done, pad_set}
use Rattle.space.specs.declared.Point3.{Point3}
use Rattle.space.specs.declared.Precision.{Precision}
use Rattle.space.specs.declared.Closeness.{Closeness}
use Rattle.space.specs.declared.Closeness.TheVariants.{Near, Apart}
use Rattle.space.specs.Near.{near_of}
use Rattle.space.specs.Vector.{origin, nowhere}
use Rattle.polygon.specs.declared.Polygon.{Polygon}
use Rattle.polygon.specs.Polygons.{padded, polygon, made}
use Rattle.polygon.specs.Memory.{point_at, points_at}
use Rattle.polygon.specs.Unique.{both, scan, keep_one, unique}
use Rattle.polygon.specs.Laws.{corners_polygon, length_padded, keep_near, keep_apart, keep_refused, scan_next, scan_done}
use Rattle.polygon.specs.MemoryLaws.{length_points_at}

-- q was compared with j of the m kept corners in the array a
pub record Scanned (t : Precision) (q : Point3) (a : List Point3) (m : ℕ) (s : Outcome Closeness) (j : ℕ) : Type 0 where
  pub low : j ≤ m
  pub rest : scan t q s (drop j (take m a)) ≡ scan t q (Ok Apart) (take m a)

pub scanned_start : {t : Precision} {q : Point3} {a : List Point3} {m : ℕ} → Scanned t q a m (Ok Apart) 0
scanned_start = record { low = omega arith; rest = refl }

pub scanned_step : {t : Precision} {q : Point3} {a : List Point3} {m : ℕ} {s : Outcome Closeness} {j : ℕ} →
    Scanned t q a m s j → j < m → m ≤ length a → Scanned t q a m (both s (near_of t q (get_or a j nowhere))) (j + 1)
scanned_step {t} {q} {a} {m} {s} {j} I h k = record {
  low = omega arith;
  rest = sym (scan_next t q s (get_or a j nowhere) (drop (j + 1) (take m a))) ∙ (rw (next a m j nowhere h k) at I.rest);
}

pub scanned_end : {t : Precision} {q : Point3} {a : List Point3} {m : ℕ} {s : Outcome Closeness} {j : ℕ} → Scanned t q a m s j → m ≤ j → s ≡ scan t q (Ok Apart) (take m a)
scanned_end {t} {q} {a} {m} {s} {j} I h = sym (scan_done t q s) ∙ (rw (done a m j h) at I.rest)

-- of the first n of l, i were taken, and m of them are kept in the array a
pub record Kept (t : Precision) (l : List Point3) (n : ℕ) (a : List Point3) (m i : ℕ) : Type 0 where
  pub kept : List Point3
  pub array : a ≡ padded kept
  pub count : m ≡ length kept
  pub few : m ≤ i
  pub low : i ≤ n
  pub small : n ≤ 128
  pub long : n ≤ length l
  pub rest : walk (keep_one t) kept (drop i (take n l)) ≡ unique t (take n l)

module _ {t : Precision} {l : List Point3} {n : ℕ} {a : List Point3} {m i : ℕ} (I : Kept t l n a m i) where
  pub room : length a ≡ 128
  room = ap length I.array ∙ length_padded I.kept (omega arith)

  pub held : take m a ≡ I.kept
  held = ap (λ b. take m b) I.array ∙ ap (λ k. take k (padded I.kept)) I.count ∙ corners_polygon I.kept

  heard : {c : Outcome Closeness} (q : Point3) → c ≡ scan t q (Ok Apart) (take m a) → scan t q (Ok Apart) I.kept ≡ c
  heard q e = sym (e ∙ ap (scan t q (Ok Apart)) held)

  onward : (q : Point3) → q ≡ get_or l i nowhere → i < n → walk (keep_one t) I.kept (q ∷ drop (i + 1) (take n l)) ≡ unique t (take n l)
  onward q g h = ap (λ x. walk (keep_one t) I.kept (x ∷ drop (i + 1) (take n l))) g ∙ (rw (next l n i nowhere h I.long) at I.rest)

  pub kept_near : (q : Point3) → q ≡ get_or l i nowhere → i < n → (Ok Near) ≡ scan t q (Ok Apart) (take m a) → Kept t l n a m (i + 1)
  kept_near q g h e = record {
    kept = I.kept;
    array = I.array;
    count = I.count;
    few = omega (arith, I.few);
    low = omega arith;
    small = I.small;
    long = I.long;
    rest = sym (keep_near t I.kept q (drop (i + 1) (take n l)) (heard q e)) ∙ onward q g h;
  }

  pub kept_apart : (q : Point3) → q ≡ get_or l i nowhere → i < n → (Ok Apart) ≡ scan t q (Ok Apart) (take m a) → Kept t l n (set a m q) (m + 1) (i + 1)
  kept_apart q g h e = record {
    kept = I.kept ++ (q ∷ []);
    array = ap (λ b. set b m q) I.array ∙ ap (λ k. set (padded I.kept) k q) I.count
        ∙ pad_set I.kept 128 origin q (omega (arith, I.count, I.few, I.small));
    count = omega (arith, I.count, length-append I.kept (q ∷ []));
    few = omega (arith, I.few);
    low = omega arith;
    small = I.small;
    long = I.long;
    rest = sym (keep_apart t I.kept q (drop (i + 1) (take n l)) (heard q e)) ∙ onward q g h;
  }

  pub kept_refused : {r : Refusal} (q : Point3) → q ≡ get_or l i nowhere → i < n → Err r ≡ scan t q (Ok Apart) (take m a) → unique t (take n l) ≡ Err r
  kept_refused {r} q g h e = sym (onward q g h) ∙ keep_refused t I.kept q (drop (i + 1) (take n l)) r (heard q e)

  pub kept_end : n ≤ i → Ok (record { at = a; n = m }) ≡ made (unique t (take n l))
  unfolding made
  kept_end h =
      let e : Ok I.kept ≡ unique t (take n l) = sym (walk_end (keep_one t) I.kept) ∙ (rw (done l n i h) at I.rest) in
      ap {B = Outcome Polygon} (λ b. Ok (record { at = b; n = m })) I.array
      ∙ ap {B = Outcome Polygon} (λ k. Ok (record { at = padded I.kept; n = k })) I.count ∙ ap made e

kept_start : (t : Precision) (l : List Point3) (n : ℕ) → n ≤ 128 → n ≤ length l → Kept t l n (padded []) 0 0
unfolding unique
kept_start t l n h k = record { kept = []; array = refl; count = refl; few = omega arith; low = omega arith; small = h; long = k; rest = refl }

-- ---- the points of a slice

pub all_points : (s : List Float) (at n : ℕ) → take n (points_at s at n) ≡ points_at s at n
all_points s at n = take_all n (points_at s at n) (omega (arith, length_points_at s at n))

pub points_start : (t : Precision) (s : List Float) (at n : ℕ) → n ≤ 128 → Kept t (points_at s at n) n (padded []) 0 0
points_start t s at n h = kept_start t (points_at s at n) n h (omega (arith, length_points_at s at n))

pub point_here : (s : List Float) (at n i : ℕ) → i < n → point_at s (at + 3 * i) ≡ get_or (points_at s at n) i nowhere
unfolding points_at
point_here s at zero i h = absurd (not-suc-le-zero h)
point_here s at (suc n) zero h = ap (point_at s) (omega arith)
point_here s at (suc n) (suc i) h = ap (point_at s) (omega arith) ∙ point_here s (at + 3) n i (le_of_suc-le-suc h)
