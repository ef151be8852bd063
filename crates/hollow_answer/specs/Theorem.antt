-- What holds whenever a hollow answers: every corner of the inner shell is certified Negative against every outer plane.
use Rattle.std.specs.Prelude.{◌≡◌, Bool, true, false, not, eqb, get_or, Float, Ok, Err}
use Rattle.std.proofs.Math.Path.{refl, subst}
use Rattle.std.proofs.Common.{sym, ap, ◌∙◌, arith}
use mathlib.Core.List.{List, [], ◌∷◌, ◌++◌, map, reverse, reverse_aux}
use Prim.Native.Nat.{ℕ, zero, suc, ◌+◌, ◌≤◌, ◌<◌}
use Rattle.std.proofs.Math.ListN.{length}
use Rattle.std.specs.Float.Ieee.{neg}
use Rattle.refusal.specs.Outcome.{Outcome, then, unless, walk, each}
use Rattle.refusal.specs.Laws.{same_ok, never_ok, then_ok}
use Rattle.space.specs.declared.Point3.{Point3}
use Rattle.space.specs.declared.Precision.{Precision}
use Rattle.space.specs.declared.Closeness.{Closeness}
use Rattle.space.specs.declared.Closeness.TheVariants as N
use Rattle.space.specs.declared.Plane.{Plane}
use Rattle.space.specs.Near.{near_of}
use Rattle.space.specs.Vector.{origin}
use Rattle.space.specs.Shapes.{Face, Cell, Solid}
use Rattle.side.specs.declared.Side.TheVariants as S
use Rattle.side.specs.Sides.{side_of, opposite_of}
use Rattle.polygon.specs.Members.{All, all_append}
use Rattle.room.specs.Laws.{all_none, all_snoc, all_map}
use Rattle.indexed.specs.Indexed.{Search, place_in, Places, joined, placed, index_point, index_points, with_face, index_face, indexed}
use Rattle.indexed.proofs.Laws.{joined_low}
use Rattle.solids.specs.Frames.{point_of, plane_for}
use Rattle.hollow.specs.Hollows.{reversed_face, Hollow, hollow}
use Rattle.hollow.specs.Theorem.{Answered, hollow_answered}
use Rattle.solid_check.specs.Check.{face_of, cell_of}
use Rattle.built.specs.Built.{built}
use Rattle.offset_answer.specs.Laws.{built_indexed}
use Rattle.hollow_answer.specs.Calls.{built_cell}

-- ---- a place is one of the points

near_low : (c : Outcome Closeness) (o : Outcome ℕ) (i j n : ℕ) → ◌≡◌ {A = Outcome ℕ} (elim c [ Ok N.Near ↦ Ok i | Ok N.Apart ↦ o | Err x ↦ Err x ]) (Ok j) → i ≤ n → (o ≡ Ok j → j ≤ n) → j ≤ n
near_low (Ok N.Near) o i j n e a b = let d : i ≡ j = same_ok e in omega (arith, d)
near_low (Ok N.Apart) o i j n e a b = b e
near_low (Err x) o i j n e a b = never_ok e

place_low : (t : Precision) (q : Point3) (l : List Point3) (i j : ℕ) → place_in t q i l ≡ Ok j → j ≤ i + length l
unfolding place_in
place_low t q [] i j e = let d : i ≡ j = same_ok e in omega (arith, d)
place_low t q (r ∷ l) i j e = near_low (near_of t q r) (place_in t q (suc i) l) i j (i + length (r ∷ l)) e (omega arith) (λ h. omega (arith, place_low t q l (suc i) j h))

-- ---- what holds of all corners of a cell holds of the points of `indexed`, and the places are below their number

module _ (P : Point3 → Type 0) (t : Precision) where
  abbrev find : Search
  find q l = place_in t q 0 l

  abbrev Below : ℕ → List ℕ → Type 0
  Below n l = All (λ i. i < n) l

  abbrev Fair : Places → Type 0
  Fair s = All P s.points × Below (length s.points) s.places

  joined_all : (l : List Point3) (q : Point3) (b : Bool) → All P l → P q → All P (joined l q b)
  joined_all l q true a p = all_snoc P l q a p
  joined_all l q false a p = a

  point_fair : (s s' : Places) (q : Point3) → index_point find s q ≡ Ok s' → P q → Fair s → Fair s' × (length s.points ≤ length s'.points)
  unfolding index_point
  point_fair s s' q e p f =
      let z = then_ok (find q s.points) (λ i. Ok (placed s q i)) s' e in
      let i = z.0 in
      let low : z.0 ≤ length s.points = omega (arith, place_low t q s.points 0 z.0 z.1) in
      let m = joined_low s.points q (eqb i (length s.points)) i refl low in
      subst (λ x. Fair x × (length s.points ≤ length x.points)) (same_ok z.2)
      ((joined_all s.points q (eqb i (length s.points)) f.0 p, all_snoc _ s.places i (all_map _ _ s.places (λ k h. omega (arith, m.0)) f.1) m.1), m.0)

  points_fair : (l : List Point3) (s s' : Places) → walk (index_point find) s l ≡ Ok s' → All P l → Fair s → Fair s' × (length s.points ≤ length s'.points)
  unfolding walk All
  points_fair [] s s' e p f = subst (λ x. Fair x × (length s.points ≤ length x.points)) (same_ok e) (f, omega arith)
  points_fair (q ∷ l) s s' e p f =
      let z = then_ok (index_point find s q) (λ x. walk (index_point find) x l) s' e in
      let u = point_fair s z.0 q z.1 p.0 f in
      let v = points_fair l z.0 s' z.2 p.1 u.0 in
      (v.0, omega (arith, u.1, v.1))

  abbrev Sound : Solid → Type 0
  Sound s = All P s.points × All (Below (length s.points)) s.faces

  face_sound : (s s' : Solid) (f : Face) → index_face find s f ≡ Ok s' → All P f.points → Sound s → Sound s'
  unfolding index_face
  face_sound s s' f e p g =
      let z = then_ok (index_points find s.points f.points) (λ r. Ok (with_face s r)) s' e in
      let u = points_fair f.points (record { points = s.points; places = [] }) z.0 z.1 p (g.0, all_none _) in
      subst Sound (same_ok z.2) (u.0.0, all_snoc _ s.faces z.0.places (all_map _ _ s.faces (λ l h. all_map _ _ l (λ k y. omega (arith, u.1)) h) g.1) u.0.1)

  faces_sound : (c : Cell) (s s' : Solid) → walk (index_face find) s c ≡ Ok s' → All (λ f. All P f.points) c → Sound s → Sound s'
  unfolding walk All
  faces_sound [] s s' e p g = subst Sound (same_ok e) g
  faces_sound (f ∷ c) s s' e p g =
      let z = then_ok (index_face find s f) (λ x. walk (index_face find) x c) s' e in
      faces_sound c z.0 s' z.2 p.1 (face_sound s z.0 f z.1 p.0 g)

  pub indexed_sound : (c : Cell) (s : Solid) → indexed t c ≡ Ok s → All (λ f. All P f.points) c → All P s.points × All (All (λ i. i < length s.points)) s.faces
  unfolding indexed
  indexed_sound c s e p = faces_sound c (record { points = []; faces = [] }) s e p (all_none P, all_none _)

  -- ---- and of the corners of the faces with their own frames

  point_at : (ps : List Point3) (i : ℕ) → All P ps → i < length ps → P (point_of ps i)
  unfolding All
  point_at [] i a h = absurd (omega (arith, h))
  point_at (q ∷ ps) zero a h = a.0
  point_at (q ∷ ps) (suc i) a h = point_at ps i a.1 (omega (arith, h))

  corners_at : (ps : List Point3) (f : List ℕ) → All P ps → Below (length ps) f → All P (map (point_of ps) f)
  unfolding All
  corners_at ps [] a b = tt
  corners_at ps (i ∷ f) a b = (point_at ps i a b.0, corners_at ps f a b.1)

  frames_all : (ps : List Point3) (fs : List (List ℕ)) (before c : Cell) → each (face_of t ps) before fs ≡ Ok c → All P ps → All (Below (length ps)) fs → All (λ f. All P f.points) before → All (λ f. All P f.points) c
  unfolding each face_of All
  frames_all ps [] before c e a b h = subst (All (λ f. All P f.points)) (same_ok e) h
  frames_all ps (f ∷ fs) before c e a b h =
      let z = then_ok (face_of t ps f) (λ y. each (face_of t ps) (before ++ (y ∷ [])) fs) c e in
      let w = then_ok (plane_for t ps f) (λ w. Ok (record { plane = w; points = map (point_of ps) f })) z.0 z.1 in
      let k : All P z.0.points = subst (λ x. All P x.points) (same_ok w.2) (corners_at ps f a b.0) in
      frames_all ps fs (before ++ (z.0 ∷ [])) c z.2 a b.1 (all_append (λ f. All P f.points) before (z.0 ∷ []) h (k, tt))

  pub built_all : (c b : Cell) → built_cell t c ≡ Ok b → All (λ f. All P f.points) c → All (λ f. All P f.points) b
  unfolding built_cell cell_of All
  built_all c b e p =
      let z = then_ok (built t c) (cell_of t) b e in
      let s = indexed_sound c z.0 (built_indexed t c z.0 z.1).0 p in
      frames_all z.0.points z.0.faces [] b z.2 s.0 s.1 tt

  -- ---- and of a reversed face

  turned_all : (l r : List Point3) → All P l → All P r → All P (reverse_aux l r)
  unfolding All
  turned_all [] r a b = b
  turned_all (q ∷ l) r a b = turned_all l (q ∷ r) a.1 (a.0, b)

  reversed_all : (l before c : Cell) → each (reversed_face t) before l ≡ Ok c → All (λ f. All P f.points) l → All (λ f. All P f.points) before → All (λ f. All P f.points) c
  unfolding each reversed_face All
  reversed_all [] before c e a h = subst (All (λ f. All P f.points)) (same_ok e) h
  reversed_all (f ∷ l) before c e a h =
      let z = then_ok (reversed_face t f) (λ y. each (reversed_face t) (before ++ (y ∷ [])) l) c e in
      let w = then_ok (opposite_of t f.plane) (λ w. Ok (record { plane = w; points = reverse f.points })) z.0 z.1 in
      let k : All P z.0.points = subst (λ x. All P x.points) (same_ok w.2) (turned_all f.points [] a.0 tt) in
      reversed_all l (before ++ (z.0 ∷ [])) c z.2 a.1 (all_append (λ f. All P f.points) before (z.0 ∷ []) h (k, tt))

-- every corner of the inner shell is strictly inside every outer plane
pub hollow_inside : (t : Precision) (room : ℕ) (w : Float) (solid : Outcome Cell) (h : Hollow) → hollow t room w solid (built_cell t) ≡ Ok h → All (λ f. All (λ q. All (λ b. side_of t b.plane q ≡ Ok S.Negative) h.outer) f.points) h.inner
unfolding All
hollow_inside t room w solid h e =
    let a = hollow_answered t room w solid (built_cell t) h e in
    subst (λ o. All (λ f. All (λ q. All (λ b. side_of t b.plane q ≡ Ok S.Negative) o) f.points) h.inner) (sym a.first)
    (reversed_all (λ q. All (λ b. side_of t b.plane q ≡ Ok S.Negative) a.outer) t a.made [] h.inner a.second (built_all (λ q. All (λ b. side_of t b.plane q ≡ Ok S.Negative) a.outer) t a.moved a.made a.is_built a.strictly) tt)
