-- Laws of outlines, in the words of a loop.
use Rattle.std.specs.Prelude.{◌≡◌, refl, List, [], ◌∷◌, ◌++◌, ℕ, ◌+◌, ◌-◌, ◌*◌, ◌≤◌, ◌<◌, length, set, Float, Ok, Err, Some, None, Option}
use Rattle.std.proofs.Math.Path.{sym, ap}
use Rattle.std.proofs.Common.{◌∙◌, arith, take_at}
use Rattle.refusal.specs.declared.Refusal.{Refusal}
use Rattle.refusal.specs.Outcome.{Outcome, refusal_of, each}
use Rattle.refusal.specs.Laws.{each_go, each_stop, each_end}
use Rattle.lists.specs.Laws.{pad_set}
use Rattle.interval.specs.declared.Interval.{Interval}
use Rattle.space.specs.declared.Point3.{Point3}
use Rattle.space.specs.declared.Frame.{Frame}
use Rattle.space.specs.declared.Plane.{Plane}
use Rattle.turns.specs.declared.Projected.{Projected}
use Rattle.outline.specs.declared.Outline.{Outline}
use Rattle.polygon.specs.Memory.{point_at, points_at}
use Rattle.polygon.specs.MemoryLaws.{points_next, points_done}
use Rattle.outline.specs.Project.{shadow_of, shadow_by, projected_of, points_of, middle, padded, outline, outlined}

-- ---- an outline holds its points

pub points_outline : (l : List Projected) → points_of (outline l) ≡ l
points_outline l = take_at l _ _ refl

-- ---- the two ways through a projection

pub shadow_made : (f : Frame) (d n : List Interval) (i : Option Interval) (r : Interval) (q : Projected) → i ≡ Some r → q ≡ shadow_of f d n r → (Ok q) ≡ shadow_by f d n i
unfolding shadow_by
shadow_made f d n i r q e k = ap {B = Outcome Projected} Ok k ∙ ap (shadow_by f d n) (sym e)

pub shadow_none : (f : Frame) (d n : List Interval) (i : Option Interval) (r : Refusal) → i ≡ None → r ≡ refusal_of 34 → (Err r) ≡ shadow_by f d n i
unfolding shadow_by
shadow_none f d n i r e k = ap {B = Outcome Projected} Err k ∙ ap (shadow_by f d n) (sym e)

-- ---- one turn of the loop over the corners

module _ (w : Plane) (s : List Float) (n i : ℕ) (made : List Projected) where
  -- what is left of the corners, with those that are made
  abbrev pub left : Outcome (List Projected)
  left = each (projected_of w) made (points_at s (3 * i) (n - i))

  pub project_go : (q : Point3) (m : Outcome Projected) (u : Projected) → i < n → q ≡ point_at s (3 * i) → m ≡ projected_of w q → m ≡ Ok u
      → left ≡ each (projected_of w) (made ++ (u ∷ [])) (points_at s (3 * (i + 1)) (n - (i + 1)))
  project_go q m u h e f g =
      ap (each (projected_of w) made) (points_next s n i h)
      ∙ each_go (projected_of w) made (point_at s (3 * i)) (points_at s (3 * (i + 1)) (n - (i + 1))) u (ap (projected_of w) (sym e) ∙ sym f ∙ g)

  pub project_stop : (q : Point3) (m : Outcome Projected) (r : Refusal) → i < n → q ≡ point_at s (3 * i) → m ≡ projected_of w q → m ≡ Err r → left ≡ Err r
  project_stop q m r h e f g =
      ap (each (projected_of w) made) (points_next s n i h)
      ∙ each_stop (projected_of w) made (point_at s (3 * i)) (points_at s (3 * (i + 1)) (n - (i + 1))) r (ap (projected_of w) (sym e) ∙ sym f ∙ g)

  pub project_end : n ≤ i → left ≡ Ok made
  project_end h = ap (each (projected_of w) made) (points_done s n i (3 * i) h) ∙ each_end (projected_of w) made

pub project_start : (w : Plane) (s : List Float) (n : ℕ) → left w s n 0 [] ≡ each (projected_of w) [] (points_at s 0 n)
project_start w s n = let e : n - 0 ≡ n = omega arith in ap (λ k. each (projected_of w) [] (points_at s 0 k)) e

-- one more point before the padding
pub stored : (a l : List Projected) (i : ℕ) (q : Projected) → a ≡ padded l → length l ≡ i → i < 128 → set a i q ≡ padded (l ++ (q ∷ []))
stored a l i q e k h =
    let b : length l < 128 = omega arith in
    ap (λ x. set x i q) e ∙ ap (λ j. set (padded l) j q) (sym k) ∙ pad_set l 128 middle q b

pub outlined_is : (a l : List Projected) (n : ℕ) (o : Outcome (List Projected)) → a ≡ padded l → n ≡ length l → o ≡ Ok l
    → ◌≡◌ {A = Outcome Outline} (Ok (record { at = a; n = n })) (outlined o)
unfolding outlined
outlined_is a l n o e k f = cc

pub outlined_stop : (o : Outcome (List Projected)) (r : Refusal) → o ≡ Err r → ◌≡◌ {A = Outcome Outline} (Err r) (outlined o)
unfolding outlined
outlined_stop o r f = ap outlined (sym f)
