-- What the loops of `run` and `faces_from` keep, and their turns.
use mathlib.Core.Path.{◌≡◌, refl, sym, ap, ◌∙◌}
use mathlib.Core.Bool.{Bool, true, false}
use mathlib.Core.List.{List, [], ◌∷◌}
use Prim.Native.Nat.{ℕ, ◌+◌, ◌*◌, ◌≤◌}
use native.Mathlib.Omega.{arith}
use lib.ListN.{length, drop}
use Rattle.job.specs.Records.{standing, run_of, faces_after, total, faces_of}
use Rattle.job.specs.Runs.{run_more, run_none, faces_more, faces_none}

-- the records passed and those to come are all of them
pub record Running (l : List ℕ) (start k b at n : ℕ) : Type 0 where
  pub counted : n + run_of k b (drop at l) ≡ run_of k b (drop start l)
  pub below : n ≤ at

pub run_start : (l : List ℕ) (start k b : ℕ) → Running l start k b start 0
run_start l start k b = record { counted = omega arith; below = omega arith }

pub run_turn : {l : List ℕ} {start k b at n : ℕ} {t : Bool} → Running l start k b at n → t ≡ standing k b (drop at l) → t ≡ true → Running l start k b (at + (1 + b)) (n + 1)
run_turn {l} {start} {k} {b} {at} {n} r e t =
    record { counted = omega (arith, run_more l at k b (sym e ∙ t), r.counted); below = omega (arith, r.below) }

pub run_end : {l : List ℕ} {start k b at n : ℕ} {t : Bool} → Running l start k b at n → t ≡ standing k b (drop at l) → t ≡ false → n ≡ run_of k b (drop start l)
run_end {l} {start} {k} {b} {at} {n} r e t = omega (arith, run_none k b (drop at l) (sym e ∙ t), r.counted)

-- the same of faces and of their corners
pub record Facing (l : List ℕ) (start at faces corners : ℕ) : Type 0 where
  pub counted : faces + length (faces_after 0 (drop at l)) ≡ length (faces_after 0 (drop start l))
  pub summed : corners + total (faces_after 0 (drop at l)) ≡ total (faces_after 0 (drop start l))
  pub placed : at ≡ start + faces + 3 * corners

pub face_start : (l : List ℕ) (start : ℕ) → Facing l start start 0 0
face_start l start = record { counted = omega arith; summed = omega arith; placed = omega arith }

pub face_turn : {l : List ℕ} {start at faces corners : ℕ} (n : ℕ) {t : Bool} → Facing l start at faces corners → t ≡ standing 3 0 (drop at l) → t ≡ true → n ≡ run_of 4 2 (drop (at + 1) l)
    → Facing l start (at + (1 + 3 * n)) (faces + 1) (corners + n)
unfolding total
face_turn {l} {start} {at} {faces} {corners} n r e t q =
    let m : faces_after 0 (drop at l) ≡ n ∷ faces_after 0 (drop (at + (1 + 3 * n)) l) = faces_more l at n (sym e ∙ t) q in
    record { counted = omega (arith, ap length m, r.counted); summed = omega (arith, ap total m, r.summed); placed = omega (arith, r.placed) }

pub face_end : {l : List ℕ} {start at faces corners : ℕ} {t : Bool} → Facing l start at faces corners → t ≡ standing 3 0 (drop at l) → t ≡ false
    → record { faces = faces; corners = corners } ≡ faces_of (drop start l)
unfolding faces_of total
face_end {l} {start} {at} {faces} {corners} r e t =
    let z : faces_after 0 (drop at l) ≡ [] = faces_none (drop at l) (sym e ∙ t) in
    let f : faces ≡ length (faces_after 0 (drop start l)) = omega (arith, ap length z, r.counted) in
    let c : corners ≡ total (faces_after 0 (drop start l)) = omega (arith, ap total z, r.summed) in
    rw (f, c) refl
