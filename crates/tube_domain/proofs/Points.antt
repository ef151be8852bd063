-- The points of a solid that passes the check have coordinates of at most 2 ^ 20 in size.
use Rattle.std.specs.Prelude.{◌≡◌, Bool, not, ◌&&◌, Ok}
use Rattle.std.proofs.Math.Bool.{true}
use mathlib.Core.List.{List, [], ◌∷◌}
use borrow.Author.Tests.{not-false}
use Rattle.refusal.specs.Laws.{unless_ok}
use Rattle.refusal.specs.Tests.{and_true}
use Rattle.lists.specs.Walks.{all}
use Rattle.space.specs.declared.Precision.{Precision}
use Rattle.space.specs.Shapes.{Cell, Solid}
use Rattle.space.specs.Vector.{fair_point}
use Rattle.polygon.specs.Members.{All}
use Rattle.room.specs.Laws.{all_both}
use Rattle.solids.specs.Order.{fair_all}
use Rattle.solid_check.specs.Check.{check}
use Rattle.tube.specs.Tube.{Held3}
use Rattle.tube_domain.specs.Size.{Size3}
use Rattle.tube_domain.specs.Normal.{Fair}
use Rattle.tube_domain.proofs.Domain.{fair_point_lem}

-- ---- lists
all_true : {A : Type 0} (g : A → Bool) (b : Bool) (l : List A) → all g b l ≡ true → (b ≡ true) × All (λ x. g x ≡ true) l
unfolding all All
all_true g b [] e = (e, tt)
all_true g b (x ∷ l) e = let r = all_true g (b && g x) l e in let s = and_true b (g x) r.0 in (s.0, (s.1, r.1))

-- ---- a solid that passes: its points, and the faces of its cell
module _ {t : Precision} (F : Fair t) where
  module _ (counted : Bool) (s : Solid) (c : Cell) (h : All Held3 s.points) (e : check counted t s ≡ Ok c) where
    pub checked_points : All (Size3 20) s.points
    unfolding check fair_all
    checked_points =
        let a = not-false (fair_all s.points) (unless_ok (not (fair_all s.points)) 2 _ c e).0 in
        all_both _ _ _ s.points fair_point_lem h (all_true fair_point true s.points a).1
