-- An arrangement in slices means to fusing what it is.
use Rattle.std.specs.Prelude.{◌≡◌, refl, ℕ, zero, suc, ◌+◌, ◌*◌, Float, length, take, drop}
use Rattle.std.proofs.Common.{sym, ◌∙◌, subst, arith, add-one, length-append, drop_at, take_at}
use Rattle.std.proofs.Math.Path.{ap, ap₂, fun_ext}
use mathlib.Core.List.{List, [], ◌∷◌, ◌++◌, append_assoc, map}
use Rattle.std.specs.Float.{nan}
use Rattle.std.proofs.Math.ListN.{get_or}
use Rattle.std.proofs.Math.Seq.{slice, drop-nil}
use Rattle.refusal.specs.Outcome.{Outcome}
use Rattle.space.specs.declared.Point3.{Point3}
use Rattle.space.specs.Vector.{nowhere}
use Rattle.polygon.specs.Memory.{floats_of}
use Rattle.sums.specs.Keys.{range}
use Rattle.keys.specs.Rows.{row}
use Rattle.groups.specs.Groups.{bounds}
use Rattle.indexed.specs.Stored.{flat}
use Rattle.bodies.specs.Fusing.{Facet, fuse}
use Rattle.interfaces.specs.Facets.{facet_at, facets_of}
use Rattle.volume.specs.Volume.{volume_sign}
use Rattle.volume.specs.Shell.{point_at, facet_points, shell_points}
use Rattle.cavities.specs.Steps.{volume_of}
use Rattle.arrangement.specs.Arrangements.{Arrangement}
use Rattle.fused.specs.Bodies.{facets_in, corners_in, volume_in, fuse_in}

-- ---- cycles one behind another, by where each begins

first_bound : (a : ℕ) (cs : List (List ℕ)) → get_or (bounds a cs) 0 0 ≡ a
unfolding bounds
first_bound a [] = refl
first_bound a (c ∷ cs) = refl

part : List ℕ → List ℕ → ℕ → List ℕ
part v starts i = slice (get_or starts i 0) (get_or starts (suc i) 0) v

parts_back : (pre : List ℕ) (cs : List (List ℕ)) (i : ℕ) → part (pre ++ flat cs) (bounds (length pre) cs) i ≡ get_or cs i []
unfolding bounds flat part
parts_back pre [] zero = drop-nil (length pre)
parts_back pre [] (suc i) = refl
parts_back pre (c ∷ cs) zero =
    let n : get_or (bounds (length pre + length c) cs) 0 0 ≡ length (pre ++ c) = first_bound (length pre + length c) cs ∙ sym (length-append pre c) in
    ap₂ (λ k l. drop (length pre) (take k l)) n (sym (append_assoc pre c (flat cs))) ∙ ap (drop (length pre)) (take_at (pre ++ c) (flat cs) (length (pre ++ c)) refl) ∙ drop_at pre c (length pre) refl
parts_back pre (c ∷ cs) (suc i) =
    ap (λ v. part v (bounds (length pre + length c) cs) i) (sym (append_assoc pre c (flat cs)))
    ∙ ap (λ k. part ((pre ++ c) ++ flat cs) (bounds k cs) i) (sym (length-append pre c)) ∙ parts_back (pre ++ c) cs i

pub row_is : (cs : List (List ℕ)) (i : ℕ) → row (flat cs) (bounds 0 cs) i ≡ get_or cs i []
unfolding part
row_is cs i = ap (λ k. slice (get_or (bounds 0 cs) i 0) (get_or (bounds 0 cs) k 0) (flat cs)) (add-one i) ∙ parts_back [] cs i

-- ---- points

three : Float → Float → Float → Point3
three x y z = record { x = x; y = y; z = z }

past : (p : Point3) (l : List Float) (j k : ℕ) → j ≡ suc (suc (suc k)) → get_or (p.x ∷ p.y ∷ p.z ∷ l) j nan ≡ get_or l k nan
past p l j k e = ap (λ m. get_or (p.x ∷ p.y ∷ p.z ∷ l) m nan) e

point_is : (ps : List Point3) (i : ℕ) → point_at (floats_of ps) i ≡ get_or ps i nowhere
unfolding point_at three
point_is [] i = refl
point_is (p ∷ ps) zero = refl
point_is (p ∷ ps) (suc i) =
    let l = floats_of ps in
    ap (λ x. three x (get_or (floats_of (p ∷ ps)) (3 * suc i + 1) nan) (get_or (floats_of (p ∷ ps)) (3 * suc i + 2) nan)) (past p l (3 * suc i) (3 * i) (omega arith))
    ∙ ap₂ (three (get_or l (3 * i) nan)) (past p l (3 * suc i + 1) (3 * i + 1) (omega arith)) (past p l (3 * suc i + 2) (3 * i + 2) (omega arith)) ∙ point_is ps i

-- ---- the facets, their volume, their bodies

module _ (a : Arrangement) where
  abbrev v : List ℕ
  v = flat a.cycles

  abbrev starts : List ℕ
  starts = bounds 0 a.cycles

  pub facets_are : facets_of v starts a.owners (length a.cycles) ≡ facets_in a
  unfolding facets_of facets_in
  facets_are = ap (λ f. map f (range (length a.cycles))) (fun_ext (λ i. ap (λ c. record { cell = get_or a.owners i 0; vertices = c }) (row_is a.cycles i)))

  pub corners_are : (i : ℕ) → facet_points (floats_of a.points) v starts i ≡ corners_in a i
  unfolding corners_in
  corners_are i = ap₂ map (fun_ext (point_is a.points)) (row_is a.cycles i)

  pub volume_are : volume_of (floats_of a.points) v starts ≡ volume_in a
  unfolding shell_points volume_in
  volume_are = fun_ext (λ g. ap (λ f. volume_sign (map f g)) (fun_ext corners_are))

  -- fusing the slices is fusing the arrangement
  pub fuse_is : (n : ℕ) → fuse (volume_of (floats_of a.points) v starts) (facets_of v starts a.owners (length a.cycles)) n ≡ fuse_in a n
  unfolding fuse_in
  fuse_is n = ap₂ (λ w fs. fuse w fs n) volume_are facets_are
