-- A shell in slices.
use Rattle.std.specs.Prelude.{◌≡◌, List, [], ◌∷◌, map, ℕ, ◌+◌, ◌*◌, ◌≤◌, ◌<◌, Float}
use Rattle.std.proofs.Math.Path.{refl, sym, ap, ap₂}
use Rattle.std.proofs.Common.{◌∙◌, arith, add-one, drop-cons}
use Rattle.std.specs.Float.{nan}
use Rattle.std.proofs.Math.ListN.{length, get_or, drop}
use Rattle.std.proofs.Math.Seq.{slice, slice-cons, drop-length, length-slice}
use Rattle.interval.specs.declared.Interval.{Interval}
use Rattle.interval.specs.Box.{difference_i, cross_i}
use Rattle.space.specs.declared.Point3.{Point3}
use Rattle.space.specs.Vector.{nowhere, box_of}
use Rattle.keys.specs.Rows.{Starts, row}
use Rattle.volume.specs.Volume.{wedge, fan, fan_of, volume_from, first_corner}

unfoldable pub point_at : List Float → ℕ → Point3
point_at ps i = record { x = get_or ps (3 * i) nan; y = get_or ps (3 * i + 1) nan; z = get_or ps (3 * i + 2) nan }

unfoldable pub vector_at : List Float → List Interval → ℕ → List Interval
vector_at ps o i = difference_i (box_of (point_at ps i)) o

-- one turn of a fan: from the i-th entry of v to the next
unfoldable pub turn : List Float → List ℕ → List Interval → List Interval → ℕ → Interval → Interval
turn ps v o a i t = wedge t a (cross_i (vector_at ps o (get_or v i 0)) (vector_at ps o (get_or v (i + 1) 0)))

abbrev pub facet_points : List Float → List ℕ → List ℕ → ℕ → List Point3
facet_points ps v starts f = map (point_at ps) (row v starts f)

unfoldable pub shell_points : List Float → List ℕ → List ℕ → List ℕ → List (List Point3)
shell_points ps v starts shell = map (facet_points ps v starts) shell

-- Each vertex is a point.
abbrev pub Points : List Float → List ℕ → Type 0
Points ps v = (k : ℕ) → k < length v → 3 * get_or v k 0 + 3 ≤ length ps

-- Each facet of a shell is a row that is not empty.
pub record Facets (v starts shell : List ℕ) : Type 0 where
  pub f : ℕ
  pub starts_fine : Starts v starts f
  pub inn : (k : ℕ) → k < length shell → get_or shell k 0 < f
  pub some : (k : ℕ) → k < length shell → get_or starts (get_or shell k 0) 0 < get_or starts (get_or shell k 0 + 1) 0
  pub first : 0 < length shell

-- ---- the loop of a fan

pub record Fanning (ps : List Float) (v : List ℕ) (o : List Interval) (s e : ℕ) (volume : Interval) (a : List Interval) (t : Interval) (i : ℕ) : Type 0 where
  pub low : s + 1 ≤ i
  pub high : i ≤ e
  pub left : fan t a (map (vector_at ps o) (slice i e v)) ≡ fan_of volume (map (vector_at ps o) (slice s e v))

module _ (ps : List Float) (v : List ℕ) (o : List Interval) (s e : ℕ) (volume : Interval) where
  pub fanning_start : (a : List Interval) → s < e → e ≤ length v → a ≡ vector_at ps o (get_or v s 0) → Fanning ps v o s e volume a volume (s + 1)
  unfolding fan_of
  fanning_start a h l q = record {
    low = omega arith;
    high = omega arith;
    left = ap₂ (λ x k. fan volume x (map (vector_at ps o) (slice k e v))) q (add-one s) ∙ sym (ap (λ m. fan_of volume (map (vector_at ps o) m)) (slice-cons s e v 0 h l));
  }

  pub fanning_step : (a : List Interval) (t t' : Interval) (i : ℕ) → i + 1 < e → e ≤ length v → t' ≡ turn ps v o a i t → Fanning ps v o s e volume a t i → Fanning ps v o s e volume a t' (i + 1)
  unfolding fan turn
  fanning_step a t t' i h l q w = record {
    low = omega (arith, w.low);
    high = omega arith;
    left =
        ap₂ (λ x m. fan x a (map (vector_at ps o) m)) q (slice-cons (i + 1) e v 0 h l)
        ∙ sym (ap (λ m. fan t a (map (vector_at ps o) m)) (slice-cons i e v 0 (omega arith) l ∙ ap (λ m. get_or v i 0 ∷ m) (ap (λ k. slice k e v) (sym (add-one i)) ∙ slice-cons (i + 1) e v 0 h l)))
        ∙ w.left;
  }

  pub fanning_end : (a : List Interval) (t : Interval) (i : ℕ) → e ≤ i + 1 → e ≤ length v → Fanning ps v o s e volume a t i → t ≡ fan_of volume (map (vector_at ps o) (slice s e v))
  fanning_end a t i h l w = last (slice i e v) (omega (arith, length-slice i e v l)) ∙ w.left
    where
      last : (m : List ℕ) → length m ≤ 1 → t ≡ fan t a (map (vector_at ps o) m)
      last [] k = unfold fan in refl
      last (x ∷ []) k = unfold fan in refl
      last (x ∷ y ∷ m) k = absurd (omega arith)

-- what the reads ask
pub points_at : (ps : List Float) (v : List ℕ) (i : ℕ) → Points ps v → i + 1 < length v → 3 * get_or v i 0 + 3 ≤ length ps
points_at ps v i p h = p i (omega arith)

pub points_next : (ps : List Float) (v : List ℕ) (i : ℕ) → Points ps v → i + 1 < length v → 3 * get_or v (i + 1) 0 + 3 ≤ length ps
points_next ps v i p h = p (i + 1) h

pub points_first : (ps : List Float) (v : List ℕ) (s e : ℕ) → Points ps v → s < e → e ≤ length v → 3 * get_or v s 0 + 3 ≤ length ps
points_first ps v s e p h l = p s (omega arith)

-- ---- the loop over a shell

pub record Summing (ps : List Float) (v starts shell : List ℕ) (o : List Interval) (t₀ t : Interval) (p : ℕ) : Type 0 where
  pub upto : p ≤ length shell
  pub left : volume_from o t (map (facet_points ps v starts) (drop p shell)) ≡ volume_from o t₀ (shell_points ps v starts shell)

map_map : (ps : List Float) (o : List Interval) (l : List ℕ) → map (λ q. difference_i (box_of q) o) (map (point_at ps) l) ≡ map (vector_at ps o) l
unfolding vector_at
map_map ps o [] = refl
map_map ps o (x ∷ l) = ap (λ m. difference_i (box_of (point_at ps x)) o ∷ m) (map_map ps o l)

module _ (ps : List Float) (v starts shell : List ℕ) (o : List Interval) (t₀ : Interval) where
  pub summing_start : Summing ps v starts shell o t₀ t₀ 0
  unfolding shell_points
  summing_start = record { upto = omega arith; left = refl }

  pub summing_step : (t t' : Interval) (p : ℕ) → p < length shell → t' ≡ fan_of t (map (vector_at ps o) (row v starts (get_or shell p 0))) → Summing ps v starts shell o t₀ t p → Summing ps v starts shell o t₀ t' (p + 1)
  unfolding volume_from
  summing_step t t' p h q w = record {
    upto = omega arith;
    left = ap₂ (λ x k. volume_from o x (map (facet_points ps v starts) (drop k shell))) (q ∙ sym (ap (fan_of t) (map_map ps o (row v starts (get_or shell p 0))))) (add-one p)
        ∙ sym (ap (λ l. volume_from o t (map (facet_points ps v starts) l)) (drop-cons shell p 0 h)) ∙ w.left;
  }

  pub summing_end : (t : Interval) (p : ℕ) → length shell ≤ p → Summing ps v starts shell o t₀ t p → t ≡ volume_from o t₀ (shell_points ps v starts shell)
  unfolding volume_from
  summing_end t p h w =
      let e : p ≡ length shell = omega (arith, w.upto) in
      sym (ap (λ l. volume_from o t (map (facet_points ps v starts) l)) (ap (λ k. drop k shell) e ∙ drop-length shell)) ∙ w.left

-- what the reads ask
module _ (v starts shell : List ℕ) (p : ℕ) (q : Facets v starts shell) (h : p < length shell) where
  pub facet_start : get_or shell p 0 < length starts
  facet_start = omega (arith, q.inn p h, q.starts_fine.many)

  pub facet_next : get_or shell p 0 + 1 < length starts
  facet_next = omega (arith, q.inn p h, q.starts_fine.many)

  pub facet_some : get_or starts (get_or shell p 0) 0 < get_or starts (get_or shell p 0 + 1) 0
  facet_some = q.some p h

  pub facet_end : get_or starts (get_or shell p 0 + 1) 0 ≤ length v
  facet_end = q.starts_fine.inn (get_or shell p 0) (q.inn p h)

  pub facet_first : get_or starts (get_or shell p 0) 0 < length v
  facet_first = omega (arith, facet_some, facet_end)

-- the first corner of a shell
pub first_corner_lem : (ps : List Float) (v starts shell : List ℕ) → Facets v starts shell → first_corner (shell_points ps v starts shell) ≡ point_at ps (get_or v (get_or starts (get_or shell 0 0) 0) 0)
unfolding shell_points
first_corner_lem ps v starts shell q = go shell q.first (facet_some v starts shell 0 q q.first) (facet_end v starts shell 0 q q.first)
  where
    go : (l : List ℕ) → 0 < length l → get_or starts (get_or l 0 0) 0 < get_or starts (get_or l 0 0 + 1) 0 → get_or starts (get_or l 0 0 + 1) 0 ≤ length v →
        get_or (get_or (map (facet_points ps v starts) l) 0 []) 0 nowhere ≡ point_at ps (get_or v (get_or starts (get_or l 0 0) 0) 0)
    go [] h a b = absurd (omega arith)
    go (f ∷ l) h a b = ap (λ m. get_or (map (point_at ps) m) 0 nowhere) (slice-cons (get_or starts f 0) (get_or starts (f + 1) 0) v 0 a b)

pub first_point : (ps : List Float) (v starts shell : List ℕ) → Points ps v → Facets v starts shell → 3 * get_or v (get_or starts (get_or shell 0 0) 0) 0 + 3 ≤ length ps
first_point ps v starts shell p q = p (get_or starts (get_or shell 0 0) 0) (facet_first v starts shell 0 q q.first)
