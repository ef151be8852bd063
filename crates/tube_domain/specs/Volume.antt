-- The six-fold volume of a shell whose corners are at most 2 ^ k in size has finite ends, for any number of corners that a memory holds: each part adds at most 2 ^ (3k + 10), and a step. Assumes nothing.
use mathlib.Core.List.{List, [], ◌∷◌}
use Rattle.std.specs.Prelude.{ℕ, ◌+◌, ◌*◌}
use Rattle.std.proofs.Math.ListN.{length}
use Rattle.interval.specs.declared.Interval.{Interval}
use Rattle.interval.specs.Box.{at}
use Rattle.space.specs.declared.Point3.{Point3}
use Rattle.tube_domain.specs.Spans.{Spans}
use Rattle.tube_domain.specs.Size.{power, Ends}

-- three intervals with ends of at most 2 ^ k
pub record Box3 (k : ℕ) (v : List Interval) : Type 0 where
  pub first : Ends k (at v 0)
  pub second : Ends k (at v 1)
  pub third : Ends k (at v 2)

-- ---- the parts of a shell with arms of at most 2 ^ k: q parts, each of at most 2 ^ (3k + 4)
abbrev pub part_size : ℕ → ℕ
part_size k = k + (k + k + 3) + 1

abbrev pub Parts : ℕ → ℕ → Interval → Type 0
Parts k q v = Spans (q * power (part_size k)) v

-- ---- the whole: facets by their corners
unfoldable pub corners_of : List (List Point3) → ℕ
corners_of [] = 0
corners_of (f ∷ l) = length f + corners_of l
