-- Laws of corners and edges that the cut cites.
use Rattle.std.specs.Prelude.{◌≡◌, refl, Bool, true, false, cond, ℕ, Float, Ok, Err}
use Rattle.std.proofs.Common.{sym, ap, ◌∙◌, arith}
use Rattle.refusal.specs.declared.Refusal.{Refusal}
use Rattle.refusal.specs.Outcome.{Outcome, refusal_of}
use Rattle.space.specs.declared.Point3.{Point3}
use Rattle.space.specs.declared.Plane.{Plane}
use Rattle.space.specs.declared.Precision.{Precision}
use Rattle.side.specs.declared.Side.{Side}
use Rattle.side.specs.declared.Side.TheVariants.{Positive, Negative, Zero}
use Rattle.side.specs.Sides.{side_of}
use Rattle.edge.specs.declared.Meet.{Meet}
use Rattle.edge.specs.declared.Meet.TheVariants as M
use Rattle.edge.specs.Meets.{at_corner, held_back, corner_meet, crosses, no_ratio, between, landed, unless_vague, cut_meet, edge_meet}

-- a cut point is Zero against the plane
landed_zero : (s : Outcome Side) (q : Point3) (x y z : Float) → landed s q ≡ Ok (M.Cut x y z) → (s ≡ Ok Zero) × (q ≡ record { x = x; y = y; z = z })
unfolding landed
landed_zero (Ok Positive) q x y z e = absurd (let n : ◌≡◌ {A = ℕ} 0 1 = cc in omega arith)
landed_zero (Ok Negative) q x y z e = absurd (let n : ◌≡◌ {A = ℕ} 0 1 = cc in omega arith)
landed_zero (Ok Zero) q x y z e =
    let ex : q.x ≡ x = cc in
    let ey : q.y ≡ y = cc in
    let ez : q.z ≡ z = cc in
    (refl, λ i. record { x = ex i; y = ey i; z = ez i })
landed_zero (Err r) q x y z e = absurd (let n : ◌≡◌ {A = ℕ} 0 1 = cc in omega arith)

unless_cut : (b : Bool) (m : Outcome Meet) (x y z : Float) → unless_vague b m ≡ Ok (M.Cut x y z) → m ≡ Ok (M.Cut x y z)
unless_cut true m x y z e = absurd (let n : ◌≡◌ {A = ℕ} 0 1 = cc in omega arith)
unless_cut false m x y z e = e

if_cut : (b : Bool) (m : Outcome Meet) (x y z : Float) → cond b m (Ok M.Drop) ≡ Ok (M.Cut x y z) → m ≡ Ok (M.Cut x y z)
if_cut true m x y z e = e
if_cut false m x y z e = absurd (let n : ◌≡◌ {A = ℕ} 0 1 = cc in omega arith)

module _ (t : Precision) (w : Plane) (a b : Point3) (sa sb : Outcome Side) (x y z : Float) (e : edge_meet t w a b sa sb ≡ Ok (M.Cut x y z)) where
  whole : landed (side_of t w (between w a b)) (between w a b) ≡ Ok (M.Cut x y z)
  unfolding edge_meet cut_meet
  whole = unless_cut (no_ratio w a b) _ x y z (if_cut (crosses sa sb) _ x y z e)

  -- it is the point between the ends
  pub cut_between : between w a b ≡ record { x = x; y = y; z = z }
  cut_between = (landed_zero (side_of t w (between w a b)) (between w a b) x y z whole).1

  pub cut_zero : side_of t w (record { x = x; y = y; z = z }) ≡ Ok Zero
  cut_zero = ap (side_of t w) (sym cut_between) ∙ (landed_zero (side_of t w (between w a b)) (between w a b) x y z whole).0
