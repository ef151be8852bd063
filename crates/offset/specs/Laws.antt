-- Laws of an offset's loops, in the words of the code.
use Rattle.std.specs.Prelude.{◌≡◌, refl, Bool, false, ◌&&◌, ℕ, ◌+◌, ◌*◌, ◌≤◌, ◌<◌, length, take, set, Ok, Err}
use Rattle.std.proofs.Math.Path.{sym, ap, subst}
use Rattle.std.proofs.Common.{◌∙◌, add-one, length-take, length-drop}
use mathlib.Core.List.{List, [], ◌∷◌, ◌++◌, map}
use native.Mathlib.Omega.{arith}
use Rattle.std.proofs.Math.ListN.{drop, get_or, length-append}
use Rattle.std.proofs.lemmas.List.{length-map}
use Rattle.std.proofs.Math.Seq.{sets, length-sets}
use Rattle.std.specs.Float.Ieee.{Float, nan}
use Rattle.refusal.specs.declared.Refusal.{Refusal}
use Rattle.refusal.specs.Outcome.{Outcome, then, each}
use Rattle.refusal.specs.Laws.{stop, go, each_stop, each_go, each_end, same_ok, then_ok}
use Rattle.lists.specs.Laws.{next, done}
use Rattle.lists.specs.Walks.{all}
use Rattle.space.specs.declared.Point3.{Point3}
use Rattle.space.specs.declared.Plane.{Plane}
use Rattle.space.specs.declared.Precision.{Precision}
use Rattle.space.specs.Shapes.{Face, Cell, corners}
use Rattle.polygon.specs.Memory.{floats, floats_of, point_at, points_at}
use Rattle.room.specs.Rooms.{plane_floats, face_floats, cell_floats, cell_counts, face_at, cell_at, counts_at, Within, Small}
use Rattle.room.specs.Laws.{sets_append, points_more, floats_more, counts_more, next_point, points_done, next_count, within_small, within_rest, within_le, corners_snoc, corners_none, all_none, all_snoc}
use Rattle.cell.specs.Laws.{Ahead, ahead_next, ahead_inside, ahead_done}
use Rattle.solids.specs.Sides.{has}
use Rattle.solids.specs.Frames.{point_of, faces_at, Placing}
use Rattle.solids.specs.Faces.{placing_le}
use Rattle.shift.specs.declared.Push.{Push}
use Rattle.shift.specs.declared.Meeting.{Meeting}
use Rattle.shift.specs.Shifts.{meeting, noted_if, push_if, moved_at, moved_plane}
use Rattle.shift.specs.Laws.{meeting_next, meeting_count}
use Rattle.offset.specs.Offsets.{Moving, moving, pushes, move_points, move_face}
use Rattle.offset.specs.Stored.{Source, moving_at, PointsMoved, FaceMoved, CellMoved, Place}

-- ---- the distances

pub finite_next : (g : Float → Bool) (b : Bool) (l : List Float) (n j : ℕ) (y : Bool) → j < n → n ≤ length l → y ≡ g (get_or l j nan) →
    all g (b && y) (drop (j + 1) (take n l)) ≡ all g b (drop j (take n l))
unfolding all
finite_next g b l n j y h k e = ap (λ z. all g (b && z) (drop (j + 1) (take n l))) e ∙ ap (all g b) (sym (next l n j nan h k))

pub finite_end : (g : Float → Bool) (b : Bool) (l : List Float) (n j : ℕ) → n ≤ j → all g b (drop j (take n l)) ≡ b
unfolding all
finite_end g b l n j h = ap (all g b) (done l n j h)

-- ---- a walk over the faces of a cell with their places and distances: what is still ahead

pub record Along (s : List Float) (counts : List ℕ) (first n : ℕ) (i : List ℕ) (o k j : ℕ) : Type 0 where
  pub ahead : Ahead s counts first n o j
  pub left : Placing (drop j (counts_at counts first n)) k (length i)

abbrev pub onward : List Float → List ℕ → ℕ → ℕ → List Float → List ℕ → ℕ → ℕ → ℕ → List Moving
onward s counts first n by i o k j = moving (cell_at s o (drop j (counts_at counts first n))) (faces_at i k (drop j (counts_at counts first n))) (drop j (take n by))

abbrev pub moving_face : List Float → List Float → List ℕ → ℕ → ℕ → ℕ → ℕ → Moving
moving_face s by i o k c j = record { face = face_at s o c; places = counts_at i k c; by = get_or by j nan }

pub along_start : {s : List Float} {at : ℕ} {counts : List ℕ} {first n : ℕ} {by : List Float} {i : List ℕ} → Source s at counts first n by i → Along s counts first n i at 0 0
along_start g = record { ahead = record { upto = omega arith; within = g.lies.within }; left = g.placing }

module _ {s : List Float} {at : ℕ} {counts : List ℕ} {first n : ℕ} {by : List Float} {i : List ℕ} {o k j : ℕ} (given : Source s at counts first n by i) (h : j < n) (a : Along s counts first n i o k j) where
  this : drop j (counts_at counts first n) ≡ get_or counts (first + j) 0 ∷ drop (j + 1) (counts_at counts first n)
  this = next_count counts first n j h given.lies.listed

  pub along_inside : o + 13 + 3 * get_or counts (first + j) 0 ≤ length s
  along_inside = ahead_inside s counts first n o j given.lies.listed h a.ahead

  after : Placing (drop (j + 1) (counts_at counts first n)) (k + get_or counts (first + j) 0) (length i)
  unfolding Placing
  after = rw this at a.left

  pub along_few : k + get_or counts (first + j) 0 ≤ length i
  along_few = placing_le _ _ _ after

  pub along_step : Along s counts first n i (o + 13 + 3 * get_or counts (first + j) 0) (k + get_or counts (first + j) 0) (j + 1)
  along_step = record { ahead = ahead_next s counts first n o j given.lies.listed h a.ahead; left = after }

  pub along_next : onward s counts first n by i o k j ≡
      moving_face s by i o k (get_or counts (first + j) 0) j ∷ onward s counts first n by i (o + 13 + 3 * get_or counts (first + j) 0) (k + get_or counts (first + j) 0) (j + 1)
  unfolding moving faces_at cell_at
  along_next =
      ap (λ ns. moving (cell_at s o ns) (faces_at i k ns) (drop j (take n by))) this
      ∙ ap (moving (cell_at s o (get_or counts (first + j) 0 ∷ drop (j + 1) (counts_at counts first n))) (faces_at i k (get_or counts (first + j) 0 ∷ drop (j + 1) (counts_at counts first n)))) (next by n j nan h given.distances)

pub along_done : (s : List Float) (counts : List ℕ) (first n : ℕ) (by : List Float) (i : List ℕ) (o k j : ℕ) → n ≤ j → onward s counts first n by i o k j ≡ []
unfolding moving
along_done s counts first n by i o k j h = ap (λ c. moving c (faces_at i k (drop j (counts_at counts first n))) (drop j (take n by))) (ahead_done s counts first n o j h)

-- ---- the faces that meet a point

pub record Gathering (s : List Float) (at : ℕ) (counts : List ℕ) (first n : ℕ) (by : List Float) (i : List ℕ) (x : ℕ) (m : Meeting) (o k j : ℕ) : Type 0 where
  pub along : Along s counts first n i o k j
  pub list : List Push
  pub is : m ≡ meeting list
  pub few : length list ≤ j
  pub rest : pushes x list (onward s counts first n by i o k j) ≡ pushes x [] (moving_at s at counts first n by i)

pub gathering_start : (s : List Float) (at : ℕ) (counts : List ℕ) (first n : ℕ) (by : List Float) (i : List ℕ) (x : ℕ) (m : Meeting) → Source s at counts first n by i → m ≡ meeting [] →
    Gathering s at counts first n by i x m at 0 0
gathering_start s at counts first n by i x m g e = record { along = along_start g; list = []; is = e; few = omega arith; rest = refl }

module _ {s : List Float} {at : ℕ} {counts : List ℕ} {first n : ℕ} {by : List Float} {i : List ℕ} {x : ℕ} {m : Meeting} {o k j : ℕ} (I : Gathering s at counts first n by i x m o k j) where
  pub gathering_few : m.n ≤ j
  unfolding meeting
  gathering_few = omega (arith, ap (λ y. y.n) I.is, I.few)

  pub gathering_step : (u : Point3) (b : Bool) (m' : Meeting) → Source s at counts first n by i → j < n →
      u ≡ point_at s (o + 9) → b ≡ has x false (counts_at i k (get_or counts (first + j) 0)) → m' ≡ noted_if b m (record { normal = u; by = get_or by j nan }) →
      Gathering s at counts first n by i x m' (o + 13 + 3 * get_or counts (first + j) 0) (k + get_or counts (first + j) 0) (j + 1)
  unfolding pushes
  gathering_step u b m' g h eu eb em =
      let p : Float → Point3 → Push = λ f y. record { normal = y; by = f } in
      let r = onward s counts first n by i (o + 13 + 3 * get_or counts (first + j) 0) (k + get_or counts (first + j) 0) (j + 1) in
      record {
        along = along_step g h I.along;
        list = push_if b I.list (p (get_or by j nan) u);
        is = em ∙ ap (λ y. noted_if b y (p (get_or by j nan) u)) I.is ∙ meeting_next b I.list (p (get_or by j nan) u);
        few = meeting_count b I.list (p (get_or by j nan) u) j I.few;
        rest = ap (λ y. pushes x (push_if b I.list (p (get_or by j nan) y)) r) eu ∙ ap (λ y. pushes x (push_if y I.list (p (get_or by j nan) (point_at s (o + 9)))) r) eb
            ∙ ap (pushes x I.list) (sym (along_next g h I.along)) ∙ I.rest;
      }

  pub gathering_end : n ≤ j → m ≡ meeting (pushes x [] (moving_at s at counts first n by i))
  unfolding pushes
  gathering_end h = I.is ∙ ap meeting (ap (pushes x I.list) (sym (along_done s counts first n by i o k j h)) ∙ I.rest)

-- ---- the points

pub record Shifting (t : Precision) (ms : List Moving) (p : List Float) (m : ℕ) (d₀ d : List Float) (x : ℕ) : Type 0 where
  pub list : List Point3
  pub upto : x ≤ m
  pub long : length list ≡ x
  pub is : d ≡ sets d₀ 0 (floats_of list)
  pub rest : move_points t ms x list (drop x (points_at p 0 m)) ≡ move_points t ms 0 [] (points_at p 0 m)

pub shifting_start : (t : Precision) (ms : List Moving) (p : List Float) (m : ℕ) (d : List Float) → Shifting t ms p m d d 0
shifting_start t ms p m d = record { list = []; upto = omega arith; long = refl; is = refl; rest = refl }

module _ {t : Precision} {ms : List Moving} {p : List Float} {m : ℕ} {d₀ d : List Float} {x : ℕ} (I : Shifting t ms p m d₀ d x) where
  pub shifting_size : length d ≡ length d₀
  shifting_size = ap length I.is ∙ length-sets d₀ 0 (floats_of I.list)

  turn : x < m → move_points t ms x I.list (point_at p (0 + 3 * x) ∷ drop (x + 1) (points_at p 0 m)) ≡ move_points t ms 0 [] (points_at p 0 m)
  turn h = ap (move_points t ms x I.list) (sym (next_point p 0 m x h)) ∙ I.rest

  moves : {q : Point3} {z : Outcome Point3} (w : Meeting) → q ≡ point_at p (3 * x) → w ≡ meeting (pushes x [] ms) → moved_at t q w ≡ z → moved_at t (point_at p (0 + 3 * x)) (meeting (pushes x [] ms)) ≡ z
  moves {q} w e f g = ap (λ y. moved_at t y (meeting (pushes x [] ms))) (ap (point_at p) (omega arith) ∙ sym e) ∙ ap (moved_at t q) (sym f) ∙ g

  pub shifting_step : {q : Point3} {w : Meeting} (r : Point3) (d' : List Float) → x < m → q ≡ point_at p (3 * x) → w ≡ meeting (pushes x [] ms) → moved_at t q w ≡ Ok r →
      d' ≡ sets d (3 * x) (floats r) → Shifting t ms p m d₀ d' (x + 1)
  unfolding move_points
  shifting_step {q} {w} r d' h e f g u = record {
    list = I.list ++ (r ∷ []);
    upto = omega arith;
    long = length-append I.list (r ∷ []) ∙ omega (arith, I.long);
    is = u ∙ ap (λ y. sets y (3 * x) (floats r)) I.is ∙ points_more d₀ I.list r x (sym I.long);
    rest = ap (λ y. move_points t ms y (I.list ++ (r ∷ [])) (drop (x + 1) (points_at p 0 m))) (add-one x) ∙ sym (go (moved_at t (point_at p (0 + 3 * x)) (meeting (pushes x [] ms))) _ r (moves w e f g)) ∙ turn h;
  }

  pub shifting_stop : {q : Point3} {w : Meeting} (r : Refusal) (v : Outcome Unit) → x < m → q ≡ point_at p (3 * x) → w ≡ meeting (pushes x [] ms) → moved_at t q w ≡ Err r → v ≡ Err r →
      PointsMoved (move_points t ms 0 [] (points_at p 0 m)) m d₀ d v
  unfolding move_points PointsMoved
  shifting_stop {q} {w} r v h e f g u =
      let o : move_points t ms 0 [] (points_at p 0 m) ≡ Err r = sym (turn h) ∙ stop (moved_at t (point_at p (0 + 3 * x)) (meeting (pushes x [] ms))) _ r (moves w e f g) in
      subst (λ y. PointsMoved y m d₀ d v) (sym o) (u, shifting_size)

  pub shifting_end : (v : Outcome Unit) → m ≤ x → v ≡ Ok tt → PointsMoved (move_points t ms 0 [] (points_at p 0 m)) m d₀ d v
  unfolding move_points PointsMoved
  shifting_end v h u =
      let o : move_points t ms 0 [] (points_at p 0 m) ≡ Ok I.list = sym (ap (move_points t ms x I.list) (sym (points_done p 0 m x h)) ∙ I.rest) in
      subst (λ y. PointsMoved y m d₀ d v) (sym o) (u, I.long ∙ omega (arith, I.upto), I.is)

-- ---- one face

module _ (t : Precision) (qs : List Point3) (m : Moving) (to : ℕ) (d₀ d : List Float) (v : Outcome Unit) where
  pub face_moved : (w : Plane) (e : List Float) → moved_plane t m.face.plane m.by ≡ Ok w → v ≡ Ok tt → e ≡ sets d₀ to (plane_floats w) → d ≡ sets e (to + 13) (floats_of (map (point_of qs) m.places)) →
      FaceMoved (move_face t qs m) to d₀ d v
  unfolding move_face FaceMoved
  face_moved w e p u f g =
      subst (λ y. FaceMoved (then y (λ w. Ok (record { plane = w; points = map (point_of qs) m.places }))) to d₀ d v) (sym p)
      (u, g ∙ ap (λ y. sets y (to + 13) (floats_of (map (point_of qs) m.places))) f ∙ sets_append d₀ to (plane_floats w) (floats_of (map (point_of qs) m.places)))

  pub face_refused : (r : Refusal) → moved_plane t m.face.plane m.by ≡ Err r → v ≡ Err r → length d ≡ length d₀ → FaceMoved (move_face t qs m) to d₀ d v
  unfolding move_face FaceMoved
  face_refused r p u s = subst (λ y. FaceMoved (then y (λ w. Ok (record { plane = w; points = map (point_of qs) m.places }))) to d₀ d v) (sym p) (u, s)

pub face_made : (o : Outcome Face) (to : ℕ) (d₀ d : List Float) (v : Outcome Unit) → FaceMoved o to d₀ d v → v ≡ Ok tt → (f : Face) × (o ≡ Ok f) × (d ≡ sets d₀ to (face_floats f))
unfolding FaceMoved
face_made (Ok f) to d₀ d v h e = (f, refl, h.1)
face_made (Err r) to d₀ d v h e = absurd (let a = h.0 in let z : ◌≡◌ {A = ℕ} 0 1 = cc in omega arith)

pub face_not : (o : Outcome Face) (to : ℕ) (d₀ d : List Float) (v : Outcome Unit) (r : Refusal) → FaceMoved o to d₀ d v → v ≡ Err r → (o ≡ Err r) × (length d ≡ length d₀)
unfolding FaceMoved
face_not (Ok f) to d₀ d v r h e = absurd (let a = h.0 in let z : ◌≡◌ {A = ℕ} 0 1 = cc in omega arith)
face_not (Err y) to d₀ d v r h e = (let a = h.0 in let b : y ≡ r = cc in ap Err b, h.1)

-- a face keeps its number of corners
moved_corners : (t : Precision) (qs : List Point3) (m : Moving) (f : Face) → move_face t qs m ≡ Ok f → length f.points ≡ length m.places
unfolding move_face
moved_corners t qs m f e =
    let g = then_ok (moved_plane t m.face.plane m.by) (λ w. Ok (record { plane = w; points = map (point_of qs) m.places })) f e in
    ap (λ y. length y.points) (sym (same_ok g.2)) ∙ length-map m.places (point_of qs)

-- ---- a cell that grows in two slices

pub record Grown (d₀ : List Float) (to : ℕ) (n₀ : List ℕ) (k : ℕ) (cell : Cell) (d : List Float) (ns : List ℕ) (q j : ℕ) : Type 0 where
  pub faces : length cell ≡ j
  pub place : q ≡ to + 13 * j + 3 * corners 0 cell
  pub floats : d ≡ sets d₀ to (cell_floats cell)
  pub counts : ns ≡ sets n₀ k (cell_counts cell)
  pub small : Small cell

pub grown_none : (d : List Float) (to : ℕ) (n : List ℕ) (k : ℕ) → Grown d to n k [] d n to 0
unfolding cell_floats cell_counts
grown_none d to n k = record { faces = refl; place = omega (arith, corners_none); floats = refl; counts = refl; small = all_none _ }

pub grown_more : {d₀ : List Float} {to : ℕ} {n₀ : List ℕ} {k : ℕ} {cell : Cell} {d : List Float} {ns : List ℕ} {q j : ℕ} (f : Face) (c : ℕ) (d' : List Float) (ns' : List ℕ) →
    length f.points ≡ c → c ≤ 128 → d' ≡ sets d q (face_floats f) → ns' ≡ set ns (k + j) c → Grown d₀ to n₀ k cell d ns q j → Grown d₀ to n₀ k (cell ++ (f ∷ [])) d' ns' (q + 13 + 3 * c) (j + 1)
grown_more {d₀} {to} {n₀} {k} {cell} {d} {ns} {q} {j} f c d' ns' e h ed en g = record {
  faces = length-append cell (f ∷ []) ∙ omega (arith, g.faces);
  place = omega (arith, g.place, corners_snoc cell f);
  floats = ed ∙ ap (λ l. sets l q (face_floats f)) g.floats ∙ floats_more d₀ to cell f q (omega (arith, g.place, g.faces));
  counts = en ∙ ap (set ns (k + j)) (sym e) ∙ ap (λ l. set l (k + j) (length f.points)) g.counts ∙ counts_more n₀ k cell f (k + j) (omega (arith, g.faces));
  small = all_snoc _ cell f g.small (omega (arith, e));
}

pub grown_size : {d₀ : List Float} {to : ℕ} {n₀ : List ℕ} {k : ℕ} {cell : Cell} {d : List Float} {ns : List ℕ} {q j : ℕ} → Grown d₀ to n₀ k cell d ns q j → (length d ≡ length d₀) × (length ns ≡ length n₀)
grown_size {d₀} {to} {n₀} {k} {cell} g = (ap length g.floats ∙ length-sets d₀ to (cell_floats cell), ap length g.counts ∙ length-sets n₀ k (cell_counts cell))

-- ---- a list whose elements become the faces of a cell, one after another

pub record Listing {A : Type 0} (f : A → Outcome Face) (whole : List A) (counts : List ℕ) (first n : ℕ) (d₀ : List Float) (to : ℕ) (n₀ : List ℕ) (k : ℕ) (d : List Float) (ns : List ℕ) (q j : ℕ) (rest : List A) : Type 0 where
  pub cell : Cell
  pub grown : Grown d₀ to n₀ k cell d ns q j
  pub within : Within (drop j (counts_at counts first n)) q (length d₀)
  pub still : each f cell rest ≡ each f [] whole

pub listing_start : {A : Type 0} (f : A → Outcome Face) (whole : List A) (counts : List ℕ) (first n : ℕ) (d : List Float) (to : ℕ) (ns : List ℕ) (k : ℕ) → Place counts first n d to ns k →
    Listing f whole counts first n d to ns k d ns to 0 whole
listing_start f whole counts first n d to ns k h = record { cell = []; grown = grown_none d to ns k; within = h.floats; still = refl }

module _ {A : Type 0} {f : A → Outcome Face} {whole : List A} {counts : List ℕ} {first n : ℕ} {d₀ : List Float} {to : ℕ} {n₀ : List ℕ} {k : ℕ} {d : List Float} {ns : List ℕ} {q j : ℕ} {rest : List A}
    (I : Listing f whole counts first n d₀ to n₀ k d ns q j rest) where
  pub listing_size : length d ≡ length d₀
  listing_size = (grown_size I.grown).0

  pub listing_slots : length ns ≡ length n₀
  listing_slots = (grown_size I.grown).1

  module _ (listed : first + n ≤ length counts) (h : j < n) where
    here : Within (get_or counts (first + j) 0 ∷ drop (j + 1) (counts_at counts first n)) q (length d₀)
    here = rw (next_count counts first n j h listed) at I.within

    pub listing_fits : q + 13 + 3 * get_or counts (first + j) 0 ≤ length d
    listing_fits = omega (arith, listing_size, within_le _ _ _ (within_rest (get_or counts (first + j) 0) (drop (j + 1) (counts_at counts first n)) q (length d₀) here))

    pub listing_step : (x : A) (l : List A) (d' : List Float) (ns' : List ℕ) (v : Outcome Unit) → rest ≡ x ∷ l → FaceMoved (f x) q d d' v → v ≡ Ok tt →
        ((g : Face) → f x ≡ Ok g → length g.points ≡ get_or counts (first + j) 0) → ns' ≡ set ns (k + j) (get_or counts (first + j) 0) →
        Listing f whole counts first n d₀ to n₀ k d' ns' (q + 13 + 3 * get_or counts (first + j) 0) (j + 1) l
    listing_step x l d' ns' v r m e w u =
        let g = face_made (f x) q d d' v m e in
        record {
          cell = I.cell ++ (g.0 ∷ []);
          grown = grown_more g.0 (get_or counts (first + j) 0) d' ns' (w g.0 g.1) (within_small (get_or counts (first + j) 0) _ q (length d₀) here) g.2 u I.grown;
          within = within_rest (get_or counts (first + j) 0) (drop (j + 1) (counts_at counts first n)) q (length d₀) here;
          still = sym (each_go f I.cell x l g.0 g.1) ∙ ap (each f I.cell) (sym r) ∙ I.still;
        }

    pub listing_stop : (x : A) (l : List A) (d' : List Float) (v v' : Outcome Unit) (y : Refusal) → rest ≡ x ∷ l → FaceMoved (f x) q d d' v → v ≡ Err y → v' ≡ Err y → CellMoved (each f [] whole) n d₀ to n₀ k d' ns v'
    unfolding CellMoved
    listing_stop x l d' v v' y r m e e' =
        let g = face_not (f x) q d d' v y m e in
        let z : each f [] whole ≡ Err y = sym I.still ∙ ap (each f I.cell) r ∙ each_stop f I.cell x l y g.0 in
        subst (λ o. CellMoved o n d₀ to n₀ k d' ns v') (sym z) (e', g.1 ∙ listing_size, listing_slots)

  pub listing_end : (v : Outcome Unit) → n ≤ j → j ≤ n → rest ≡ [] → v ≡ Ok tt → CellMoved (each f [] whole) n d₀ to n₀ k d ns v
  unfolding CellMoved
  listing_end v h g r e =
      let z : each f [] whole ≡ Ok I.cell = sym I.still ∙ ap (each f I.cell) r ∙ each_end f I.cell in
      let w : j ≡ n = omega arith in
      subst (λ o. CellMoved o n d₀ to n₀ k d ns v) (sym z)
      (e, I.grown.floats, I.grown.counts, I.grown.faces ∙ w, omega (arith, I.grown.place, within_le _ q (length d₀) I.within), I.grown.small)

-- ---- the faces

pub record Building (t : Precision) (qs : List Point3) (s : List Float) (at : ℕ) (counts : List ℕ) (first n : ℕ) (by : List Float) (i : List ℕ) (d₀ : List Float) (to : ℕ) (n₀ : List ℕ) (k : ℕ)
    (d : List Float) (ns : List ℕ) (o p q j : ℕ) : Type 0 where
  pub along : Along s counts first n i o p j
  pub listing : Listing (move_face t qs) (moving_at s at counts first n by i) counts first n d₀ to n₀ k d ns q j (onward s counts first n by i o p j)

pub building_start : {t : Precision} {qs : List Point3} {s : List Float} {at : ℕ} {counts : List ℕ} {first n : ℕ} {by : List Float} {i : List ℕ} {d : List Float} {to : ℕ} {ns : List ℕ} {k : ℕ} →
    Source s at counts first n by i → Place counts first n d to ns k → Building t qs s at counts first n by i d to ns k d ns at 0 to 0
building_start g h = record { along = along_start g; listing = listing_start _ _ _ _ _ _ _ _ _ h }

module _ {t : Precision} {qs : List Point3} {s : List Float} {at : ℕ} {counts : List ℕ} {first n : ℕ} {by : List Float} {i : List ℕ} {d₀ : List Float} {to : ℕ} {n₀ : List ℕ} {k : ℕ}
    {d : List Float} {ns : List ℕ} {o p q j : ℕ} (I : Building t qs s at counts first n by i d₀ to n₀ k d ns o p q j) (given : Source s at counts first n by i) where
  module _ (h : j < n) where
    pub building_fits : q + 13 + 3 * get_or counts (first + j) 0 ≤ length d
    building_fits = listing_fits I.listing given.lies.listed h

    sized : (g : Face) → move_face t qs (moving_face s by i o p (get_or counts (first + j) 0) j) ≡ Ok g → length g.points ≡ get_or counts (first + j) 0
    sized g e =
        moved_corners t qs (moving_face s by i o p (get_or counts (first + j) 0) j) g e
        ∙ length-take (get_or counts (first + j) 0) (drop p i) ∙ omega (arith, length-drop p i, along_few given h I.along)

    pub building_step : (d' : List Float) (ns' : List ℕ) (v : Outcome Unit) → FaceMoved (move_face t qs (moving_face s by i o p (get_or counts (first + j) 0) j)) q d d' v → v ≡ Ok tt → ns' ≡ set ns (k + j) (get_or counts (first + j) 0) →
        Building t qs s at counts first n by i d₀ to n₀ k d' ns' (o + 13 + 3 * get_or counts (first + j) 0) (p + get_or counts (first + j) 0) (q + 13 + 3 * get_or counts (first + j) 0) (j + 1)
    building_step d' ns' v m e u = record {
      along = along_step given h I.along;
      listing = listing_step I.listing given.lies.listed h (moving_face s by i o p (get_or counts (first + j) 0) j) _ d' ns' v (along_next given h I.along) m e sized u;
    }

    pub building_stop : (d' : List Float) (v v' : Outcome Unit) (r : Refusal) → FaceMoved (move_face t qs (moving_face s by i o p (get_or counts (first + j) 0) j)) q d d' v → v ≡ Err r → v' ≡ Err r →
        CellMoved (each (move_face t qs) [] (moving_at s at counts first n by i)) n d₀ to n₀ k d' ns v'
    building_stop d' v v' r m e e' = listing_stop I.listing given.lies.listed h (moving_face s by i o p (get_or counts (first + j) 0) j) _ d' v v' r (along_next given h I.along) m e e'

  pub building_end : (v : Outcome Unit) → n ≤ j → v ≡ Ok tt → CellMoved (each (move_face t qs) [] (moving_at s at counts first n by i)) n d₀ to n₀ k d ns v
  building_end v h e = listing_end I.listing v h I.along.ahead.upto (along_done s counts first n by i o p j h) e
