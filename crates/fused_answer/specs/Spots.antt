-- Where the planes of the faces of cells stand: each face is 12 floats, and 3 for each corner.
use Rattle.std.specs.Prelude.{◌≡◌, refl, List, [], ◌∷◌, ℕ, zero, suc, ◌+◌, ◌*◌, ◌≤◌, ◌<◌, Float, length, set, drop}
use Rattle.std.proofs.Math.Path.{sym, ap, subst}
use Rattle.std.proofs.Common.{◌∙◌, add-one}
use native.Mathlib.Omega.{arith}
use Rattle.std.proofs.Math.ListN.{get_or, length-set, get_or-append}
use Rattle.std.proofs.Math.Seq.{sets}
use Rattle.std.proofs.lemmas.List.Edits.{sets-eq}
use Rattle.space.specs.declared.Plane.{Plane}
use Rattle.space.specs.Shapes.{Face}
use Rattle.room.specs.Rooms.{counts_at, plane_at, cell_at, Within}
use Rattle.room.specs.Laws.{next_count, counts_done, within_rest, within_le}

unfoldable pub spots_from : ℕ → List ℕ → List ℕ
spots_from at [] = []
spots_from at (n ∷ ns) = at ∷ spots_from (at + 13 + 3 * n) ns

pub record Spotting (counts : List ℕ) (f m : ℕ) (spots₀ spots : List ℕ) (o i : ℕ) : Type 0 where
  pub within : i ≤ f
  pub same : length spots ≡ length spots₀
  pub left : Within (drop i (counts_at counts 0 f)) o m
  pub whole : sets spots i (spots_from o (drop i (counts_at counts 0 f))) ≡ sets spots₀ 0 (spots_from 0 (counts_at counts 0 f))

pub spotting_start : (counts : List ℕ) (f m : ℕ) (spots : List ℕ) → Within (counts_at counts 0 f) 0 m → Spotting counts f m spots spots 0 0
spotting_start counts f m spots w = record { within = omega arith; same = refl; left = w; whole = refl }

module _ (counts : List ℕ) (f m : ℕ) (spots₀ spots : List ℕ) (o i : ℕ) (w : Spotting counts f m spots₀ spots o i) where
  module _ (h : i < f) (few : f ≤ length counts) where
    ahead : drop i (counts_at counts 0 f) ≡ get_or counts i 0 ∷ drop (i + 1) (counts_at counts 0 f)
    ahead = next_count counts 0 f i h (omega arith) ∙ ap (λ k. get_or counts k 0 ∷ drop (i + 1) (counts_at counts 0 f)) (omega arith)

    left_after : Within (drop (i + 1) (counts_at counts 0 f)) (o + 13 + 3 * get_or counts i 0) m
    left_after = within_rest _ _ _ _ (subst (λ ns. Within ns o m) ahead w.left)

    pub spotting_fits : o + 13 + 3 * get_or counts i 0 ≤ m
    spotting_fits = within_le _ _ _ left_after

    pub spotting_turn : Spotting counts f m spots₀ (set spots i o) (o + (13 + 3 * get_or counts i 0)) (i + 1)
    unfolding spots_from
    spotting_turn =
        let e : o + (13 + 3 * get_or counts i 0) ≡ o + 13 + 3 * get_or counts i 0 = omega arith in
        record {
          within = omega arith;
          same = length-set spots i o ∙ w.same;
          left = subst (λ a. Within (drop (i + 1) (counts_at counts 0 f)) a m) (sym e) left_after;
          whole = ap (λ a. sets (set spots i o) (i + 1) (spots_from a (drop (i + 1) (counts_at counts 0 f)))) e
              ∙ ap (λ k. sets (set spots i o) k (spots_from (o + 13 + 3 * get_or counts i 0) (drop (i + 1) (counts_at counts 0 f)))) (add-one i)
              ∙ ap (λ ns. sets spots i (spots_from o ns)) (sym ahead) ∙ w.whole;
        }

  pub spotting_end : f ≤ i → spots ≡ sets spots₀ 0 (spots_from 0 (counts_at counts 0 f))
  unfolding spots_from
  spotting_end l = sym (ap (λ ns. sets spots i (spots_from o ns)) (counts_done counts 0 f i l)) ∙ w.whole

-- ---- what stands there

length_spots : (at : ℕ) (ns : List ℕ) → length (spots_from at ns) ≡ length ns
unfolding spots_from
length_spots at [] = refl
length_spots at (n ∷ ns) = ap suc (length_spots (at + 13 + 3 * n) ns)

pub spot_within : (at m : ℕ) (ns : List ℕ) (i : ℕ) → Within ns at m → i < length ns → get_or (spots_from at ns) i 0 + 13 ≤ m
unfolding spots_from
spot_within at m [] i w h = absurd (omega arith)
spot_within at m (n ∷ ns) zero w h = omega (arith, within_le _ _ _ (within_rest _ _ _ _ w))
spot_within at m (n ∷ ns) (suc i) w h = spot_within (at + 13 + 3 * n) m ns i (within_rest _ _ _ _ w) (omega arith)

-- the plane of face i of the cells
pub spot_plane : (s : List Float) (at : ℕ) (ns : List ℕ) (i : ℕ) (z : Face) → i < length ns → plane_at s (get_or (spots_from at ns) i 0) ≡ (get_or (cell_at s at ns) i z).plane
unfolding spots_from cell_at
spot_plane s at [] i z h = absurd (omega arith)
spot_plane s at (n ∷ ns) zero z h = refl
spot_plane s at (n ∷ ns) (suc i) z h = spot_plane s (at + 13 + 3 * n) ns i z (omega arith)

pub spot_stored : (spots : List ℕ) (ns : List ℕ) (i : ℕ) → length ns ≤ length spots → i < length ns → get_or (sets spots 0 (spots_from 0 ns)) i 0 ≡ get_or (spots_from 0 ns) i 0
spot_stored spots ns i l h =
    let n = length_spots 0 ns in
    ap (λ y. get_or y i 0) (sets-eq (spots_from 0 ns) spots 0 (omega arith)) ∙ get_or-append (spots_from 0 ns) (drop (0 + length (spots_from 0 ns)) spots) 0 i (omega arith)
