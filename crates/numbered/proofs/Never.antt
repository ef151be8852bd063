-- Refusal 8 is never given: the distances of an edge's two ends are certified on opposite sides of the tube, so their difference, a cut's denominator, excludes zero.
use Rattle.refusal.specs.Outcome.{Outcome}
use Rattle.std.proofs.Math.Path.{◌≡◌, refl, ap}
use Rattle.std.specs.Prelude.{Bool, List, ℕ, Ok}
use Rattle.std.proofs.Math.Bool.{true, false, cond}
use Rattle.space.specs.declared.Point3.{Point3}
use Rattle.space.specs.declared.Precision.{Precision}
use Rattle.space.specs.declared.Plane.{Plane}
use Rattle.side.specs.Sides.{side_of}
use Rattle.edge.specs.declared.Meet.{Meet}
use Rattle.edge.specs.declared.Meet.TheVariants as M
use Rattle.edge.specs.Meets.{crosses, no_ratio, between, landed, unless_vague, cut_meet, edge_meet}
use Rattle.job.specs.declared.Layout.{Layout}
use Rattle.jobs.specs.Jobs.{open_job}
use Rattle.numbered.specs.Never.{Sure, opened_sure, crossing_sure}

-- ---- a cut's denominator

module _ (t : Precision) (w : Plane) (a b : Point3) (s : Sure t) where
  -- an edge meets the plane as if 8 were not tested
  pub edge_sure : edge_meet t w a b (side_of t w a) (side_of t w b) ≡ cond (crosses (side_of t w a) (side_of t w b)) (landed (side_of t w (between w a b)) (between w a b)) (Ok M.Drop)
  unfolding edge_meet cut_meet
  edge_sure = by (crosses (side_of t w a) (side_of t w b)) (no_ratio w a b) (landed (side_of t w (between w a b)) (between w a b)) (crossing_sure t w a b s)
    where
      by : (c bad : Bool) (m : Outcome Meet) → (c ≡ true → bad ≡ false) → cond c (unless_vague bad m) (Ok M.Drop) ≡ cond c m (Ok M.Drop)
      by true bad m h = ap (λ (x : Bool). unless_vague x m) (h refl)
      by false bad m h = refl

-- in a job that opens nothing is asked of any number
pub opened_never_8 : (lends : Bool) (l : List ℕ) (y : Layout) → open_job lends l ≡ Ok y → (w : Plane) (a b : Point3) → crosses (side_of y.precision w a) (side_of y.precision w b) ≡ true → no_ratio w a b ≡ false
opened_never_8 lends l y e w a b h = crossing_sure y.precision w a b (opened_sure lends l y e) h
