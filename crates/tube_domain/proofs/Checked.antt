-- Of every solid that passes the check, and of two that do, what the tube says of a face's plane and a point has no hypothesis left but that the numbers given are values of the format, as every
-- f64 of a program is. Assumes nothing.
use Rattle.std.specs.Prelude.{◌≡◌, Bool, length, get_or, ltb, Ok}
use Rattle.std.proofs.Math.Path.{subst}
use mathlib.Core.List.{List, [], ◌∷◌, ◌++◌, map}
use Prim.Native.Nat.{ℕ, zero, suc, ◌≤◌}
use Rattle.std.proofs.Common.{arith}
use Rattle.refusal.specs.Outcome.{Outcome, each}
use Rattle.refusal.specs.Laws.{same_ok, then_ok, unless_ok}
use Rattle.space.specs.declared.Point3.{Point3}
use Rattle.space.specs.declared.Plane.{Plane}
use Rattle.space.specs.declared.Precision.{Precision}
use Rattle.space.specs.Shapes.{Face, Cell, Solid}
use Rattle.space.specs.Vector.{origin}
use Rattle.space.specs.Frames.{face_plane}
use Rattle.polygon.specs.Members.{All}
use Rattle.room.specs.Laws.{all_none, all_snoc, all_map}
use Rattle.solids.specs.Frames.{point_of, plane_for}
use Rattle.solid_check.specs.Check.{face_of, cell_of, check}
use Rattle.solid_check.proofs.Laws.{check_passed}
use Rattle.tube.specs.Tube.{Held3}
use Rattle.tube_domain.specs.Size.{Size3, zero_size}
use Rattle.tube_domain.specs.Normal.{Fair, Framed}
use Rattle.tube_domain.proofs.Normal.{face_framed, opposite_framed}
use Rattle.tube_domain.proofs.Tube.{domain_tube}
use Rattle.tube_domain.specs.Checked.{map_all, Drawn, Certain}
use Rattle.tube_domain.proofs.Points.{checked_points}

-- ---- lists
module _ {A : Type 0} (P : A → Type 0) where
  get_all : (l : List A) (i : ℕ) (d : A) → All P l → P d → P (get_or l i d)
  unfolding All
  get_all [] i d a p = p
  get_all (x ∷ l) zero d a p = a.0
  get_all (x ∷ l) (suc i) d a p = get_all l i d a.1 p

  each_all : {B : Type 0} (g : B → Outcome A) → ((x : B) (y : A) → g x ≡ Ok y → P y) → (acc : List A) (l : List B) (r : List A) → All P acc → each g acc l ≡ Ok r → All P r
  unfolding All each
  each_all g h acc [] r a e = subst (All P) (same_ok e) a
  each_all g h acc (x ∷ l) r a e =
      let w = then_ok (g x) (λ y. each g (acc ++ (y ∷ [])) l) r e in
      each_all g h (acc ++ (w.0 ∷ [])) l r (all_snoc P acc w.0 a (h x w.0 w.1)) w.2

-- ---- a solid that passes: its points, and the faces of its cell
origin_size : {k : ℕ} → Size3 k origin
origin_size = record { x_size = zero_size; y_size = zero_size; z_size = zero_size }

module _ {t : Precision} (F : Fair t) where
  face_drawn : (ps : List Point3) → All (Size3 20) ps → (f : List ℕ) (x : Face) → face_of t ps f ≡ Ok x → Drawn 20 x
  unfolding face_of plane_for
  face_drawn ps a f x e =
      let at : (i : ℕ) → Size3 20 (point_of ps i) = λ i. get_all (Size3 20) ps i origin a origin_size in
      let w = then_ok (plane_for t ps f) (λ w. Ok (record { plane = w; points = map (point_of ps) f })) x e in
      let u = unless_ok (ltb (length f) 3) 5 (face_plane t (point_of ps (get_or f 0 0)) (point_of ps (get_or f 1 0)) (point_of ps (get_or f 2 0))) w.0 w.1 in
      subst (Drawn 20) (same_ok w.2)
      (record {
        plane = face_framed F (point_of ps (get_or f 0 0)) (point_of ps (get_or f 1 0)) (point_of ps (get_or f 2 0)) w.0 (omega arith) (at (get_or f 0 0)) (at (get_or f 1 0)) (at (get_or f 2 0)) u.1;
        points = map_all (Size3 20) (point_of ps) at f;
      })

  module _ (counted : Bool) (s : Solid) (c : Cell) (h : All Held3 s.points) (e : check counted t s ≡ Ok c) where
    pub checked_faces : All (Drawn 20) c
    unfolding cell_of
    checked_faces = each_all (Drawn 20) (face_of t s.points) (face_drawn s.points (checked_points F counted s c h e)) [] s.faces c (all_none _) (check_passed counted t s c e).1

module _ {t : Precision} (F : Fair t) where
  certain : {k : ℕ} → k ≤ 1000 → (w : Plane) (p : Point3) → Framed k w → Size3 k p → Certain t w p
  certain K w p f s = record { own = domain_tube F K f s; turned = λ v e. domain_tube F K (opposite_framed F w v f e) s }

  pub certain_all : (c : Cell) → All (Drawn 20) c → (ps : List Point3) → All (Size3 20) ps → All (λ f. All (Certain t f.plane) ps) c
  certain_all c a ps b = all_map _ _ c (λ f x. all_map _ _ ps (λ p y. certain (omega arith) f.plane p x.plane y) b) a

  -- of one solid that passes: each face's plane and each point
  pub checked_tube : (counted : Bool) (s : Solid) (c : Cell) → All Held3 s.points → check counted t s ≡ Ok c → All (λ f. All (Certain t f.plane) s.points) c
  checked_tube counted s c h e = certain_all c (checked_faces F counted s c h e) s.points (checked_points F counted s c h e)

  -- of two: each plane of the first, and each corner of the second's cell
  pub checked_tubes : (counted given : Bool) (s r : Solid) (c d : Cell) → All Held3 s.points → All Held3 r.points → check counted t s ≡ Ok c → check given t r ≡ Ok d →
      All (λ f. All (λ g. All (Certain t f.plane) g.points) d) c
  checked_tubes counted given s r c d h k e i =
      all_map _ _ c (λ f x. all_map _ _ d (λ g y. all_map _ _ g.points (λ p z. certain (omega arith) f.plane p x.plane z) y.points) (checked_faces F given r d k i)) (checked_faces F counted s c h e)
