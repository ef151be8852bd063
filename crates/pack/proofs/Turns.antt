-- What the loops of this crate keep, and their turns.
use mathlib.Core.Path.{◌≡◌, refl, sym, ap, ◌∙◌}
use mathlib.Core.Bool.{Bool, true, false}
use mathlib.Core.List.{List, ◌++◌, map}
use Prim.Native.Nat.{ℕ, suc, ◌+◌, ◌*◌, ◌-◌, ◌≤◌, ◌<◌}
use native.Mathlib.Omega.{arith}
use lib.ListN.{length, drop, set, length-set}
use lib.Seq.{sets, length-sets}
use lib.Ieee.{Float}
use Rattle.space.specs.declared.Point3.{Point3}
use Rattle.words.specs.Little.{index_at}
use Rattle.job.specs.Records.{standing, run_of, faces_after, total, faces_of}
use Rattle.job.specs.Read.{point_at}
use Rattle.job.specs.Runs.{faces_more}
use Rattle.pack.specs.Flat.{coordinates, flat, joined, points_from, corners_from, faces_from}
use Rattle.pack.specs.Laws.{sets_more, coordinates_more, points_more, points_none, corners_more, corners_none, corners_count, face_more, face_none}

-- ---- points

pub record Pointing (l : List ℕ) (start n : ℕ) (out₀ out : List Float) (i : ℕ) : Type 0 where
  pub within : i ≤ n
  pub same : length out ≡ length out₀
  pub whole : sets out (3 * i) (flat (points_from l (start + 25 * i) (n - i))) ≡ sets out₀ 0 (flat (points_from l start n))

pub point_start : (l : List ℕ) (start n : ℕ) (out : List Float) → Pointing l start n out out 0
point_start l start n out =
    let e : start + 25 * 0 ≡ start = omega arith in
    let k : n - 0 ≡ n = omega arith in
    record { within = omega arith; same = refl; whole = rw (e, k) refl }

pub point_turn : {l : List ℕ} {start n : ℕ} {out₀ out : List Float} {i : ℕ} (p : Point3) (next : List Float) → Pointing l start n out₀ out i → i < n → p ≡ point_at l start i → next ≡ sets out (3 * i) (coordinates p)
    → Pointing l start n out₀ next (i + 1)
unfolding flat
point_turn {l} {start} {n} {out₀} {out} {i} p next v h e q =
    let rest = flat (points_from l (start + 25 * (i + 1)) (n - (i + 1))) in
    let m : sets out (3 * i) (flat (points_from l (start + 25 * i) (n - i))) ≡ sets out (3 * i) (coordinates (point_at l start i) ++ rest) =
    ap (λ x. sets out (3 * i) (flat x)) (points_more l start n i h) in
    let k : 3 * i + 3 ≡ 3 * (i + 1) = omega arith in
    record {
      within = omega arith;
      same = ap length q ∙ length-sets out (3 * i) (coordinates p) ∙ v.same;
      whole =
          ap (λ x. sets x (3 * (i + 1)) rest) (q ∙ ap (λ x. sets out (3 * i) (coordinates x)) e)
          ∙ ap (λ x. sets (sets out (3 * i) (coordinates (point_at l start i))) x rest) (sym k)
          ∙ sym (coordinates_more out (3 * i) (point_at l start i) rest)
          ∙ sym m
          ∙ v.whole;
    }

pub point_end : {l : List ℕ} {start n : ℕ} {out₀ out : List Float} {i : ℕ} → Pointing l start n out₀ out i → n ≤ i → out ≡ sets out₀ 0 (flat (points_from l start n))
unfolding flat
point_end {l} {start} {n} {out₀} {out} {i} v h =
    sym (ap (λ x. sets out (3 * i) (flat x)) (points_none l (start + 25 * i) n i h)) ∙ v.whole

-- ---- the corners of a face

pub record Indexing (l : List ℕ) (at n : ℕ) (out₀ : List ℕ) (k : ℕ) (out : List ℕ) (j : ℕ) : Type 0 where
  pub within : j ≤ n
  pub same : length out ≡ length out₀
  pub whole : sets out (k + j) (corners_from l (at + 3 * j) (n - j)) ≡ sets out₀ k (corners_from l at n)

pub index_start : (l : List ℕ) (at n : ℕ) (out : List ℕ) (k : ℕ) → Indexing l at n out k out 0
index_start l at n out k =
    let e : at + 3 * 0 ≡ at = omega arith in
    let d : n - 0 ≡ n = omega arith in
    let z : k + 0 ≡ k = omega arith in
    record { within = omega arith; same = refl; whole = rw (e, d, z) refl }

pub index_turn : {l : List ℕ} {at n : ℕ} {out₀ : List ℕ} {k : ℕ} {out : List ℕ} {j : ℕ} (v : ℕ) → Indexing l at n out₀ k out j → j < n → v ≡ index_at l (at + 3 * j + 1)
    → Indexing l at n out₀ k (set out (k + j) v) (j + 1)
index_turn {l} {at} {n} {out₀} {k} {out} {j} v r h e =
    let m = ap (sets out (k + j)) (corners_more l at n j h) in
    let z : suc (k + j) ≡ k + (j + 1) = omega arith in
    record {
      within = omega arith;
      same = length-set out (k + j) v ∙ r.same;
      whole =
          ap (λ x. sets (set out (k + j) x) (k + (j + 1)) (corners_from l (at + 3 * (j + 1)) (n - (j + 1)))) e
          ∙ ap (λ x. sets (set out (k + j) (index_at l (at + 3 * j + 1))) x (corners_from l (at + 3 * (j + 1)) (n - (j + 1)))) (sym z)
          ∙ sym m
          ∙ r.whole;
    }

pub index_end : {l : List ℕ} {at n : ℕ} {out₀ : List ℕ} {k : ℕ} {out : List ℕ} {j : ℕ} → Indexing l at n out₀ k out j → n ≤ j → out ≡ sets out₀ k (corners_from l at n)
index_end {l} {at} {n} {out₀} {k} {out} {j} r h =
    sym (ap (sets out (k + j)) (corners_none l (at + 3 * j) n j h)) ∙ r.whole

-- ---- faces

pub record Unpacking (l : List ℕ) (middle : ℕ) (counts₀ indices₀ counts indices : List ℕ) (at f k : ℕ) : Type 0 where
  pub placed : at ≡ middle + f + 3 * k
  pub counted : f + length (faces_after 0 (drop at l)) ≡ (faces_of (drop middle l)).faces
  pub summed : k + total (faces_after 0 (drop at l)) ≡ (faces_of (drop middle l)).corners
  pub same_counts : length counts ≡ length counts₀
  pub same_indices : length indices ≡ length indices₀
  pub whole_counts : sets counts f (map length (faces_from l at)) ≡ sets counts₀ 0 (map length (faces_from l middle))
  pub whole_indices : sets indices k (joined (faces_from l at)) ≡ sets indices₀ 0 (joined (faces_from l middle))

pub face_start : (l : List ℕ) (middle : ℕ) (counts indices : List ℕ) → Unpacking l middle counts indices counts indices middle 0 0
unfolding faces_of
face_start l middle counts indices =
    record { placed = omega arith; counted = omega arith; summed = omega arith; same_counts = refl; same_indices = refl; whole_counts = refl; whole_indices = refl }

module _ {l : List ℕ} {middle : ℕ} {counts₀ indices₀ counts indices : List ℕ} {at f k : ℕ} (v : Unpacking l middle counts₀ indices₀ counts indices at f k) where
  -- there is room for one more face and its corners
  pub face_room : (n : ℕ) (t : Bool) → t ≡ standing 3 0 (drop at l) → t ≡ true → n ≡ run_of 4 2 (drop (at + 1) l) → (f < (faces_of (drop middle l)).faces) × (k + n ≤ (faces_of (drop middle l)).corners)
  unfolding total
  face_room n t e h q =
      let m = faces_more l at n (sym e ∙ h) q in
      (omega (arith, v.counted, ap length m), omega (arith, v.summed, ap total m))

  pub face_turn : (n : ℕ) (t : Bool) (next : List ℕ) → t ≡ standing 3 0 (drop at l) → t ≡ true → n ≡ run_of 4 2 (drop (at + 1) l) → next ≡ sets indices k (corners_from l (at + 1) n)
      → Unpacking l middle counts₀ indices₀ (set counts f n) next (at + (1 + 3 * n)) (f + 1) (k + n)
  unfolding total joined
  face_turn n t next e h q g =
      let s : standing 3 0 (drop at l) ≡ true = sym e ∙ h in
      let m = faces_more l at n s q in
      let w = face_more l at n s q in
      let here = corners_from l (at + 1) n in
      let rest = faces_from l (at + (1 + 3 * n)) in
      let c : length here ≡ n = corners_count l (at + 1) n in
      let z : suc f ≡ f + 1 = omega arith in
      record {
        placed = omega (arith, v.placed);
        counted = omega (arith, v.counted, ap length m);
        summed = omega (arith, v.summed, ap total m);
        same_counts = length-set counts f n ∙ v.same_counts;
        same_indices = ap length g ∙ length-sets indices k here ∙ v.same_indices;
        whole_counts =
            ap (λ x. sets (set counts f x) (f + 1) (map length rest)) (sym c)
            ∙ ap (λ x. sets (set counts f (length here)) x (map length rest)) (sym z)
            ∙ ap (λ x. sets counts f (map length x)) (sym w)
            ∙ v.whole_counts;
        whole_indices =
            ap (λ x. sets x (k + n) (joined rest)) g
            ∙ ap (λ x. sets (sets indices k here) (k + x) (joined rest)) (sym c)
            ∙ sym (sets_more indices k here (joined rest))
            ∙ ap (λ x. sets indices k (joined x)) (sym w)
            ∙ v.whole_indices;
      }

  pub counts_end : (t : Bool) → t ≡ standing 3 0 (drop at l) → t ≡ false → counts ≡ sets counts₀ 0 (map length (faces_from l middle))
  counts_end t e h = sym (ap (λ x. sets counts f (map length x)) (face_none l at (sym e ∙ h))) ∙ v.whole_counts

  pub indices_end : (t : Bool) → t ≡ standing 3 0 (drop at l) → t ≡ false → indices ≡ sets indices₀ 0 (joined (faces_from l middle))
  unfolding joined
  indices_end t e h = sym (ap (λ x. sets indices k (joined x)) (face_none l at (sym e ∙ h))) ∙ v.whole_indices
