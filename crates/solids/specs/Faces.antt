-- Laws of loops over the faces of a solid in slices.
use Rattle.std.specs.Prelude.{◌≡◌, refl, Bool, true, false, ◌&&◌, List, [], ◌∷◌, ℕ, zero, suc, ◌+◌, ◌*◌, ◌≤◌, ◌<◌, length, drop, get_or, ltb, Float, Ok, Err}
use Rattle.std.proofs.Math.Path.{sym, ap}
use Rattle.std.proofs.Common.{◌∙◌, arith, length-drop, length-take, get_or-take, get_or-drop, lt-ltb, le-ltb}
use Rattle.refusal.specs.declared.Refusal.{Refusal}
use Rattle.refusal.specs.Outcome.{Outcome, unless, refuse}
use Rattle.space.specs.declared.Point3.{Point3}
use Rattle.space.specs.declared.Precision.{Precision}
use Rattle.space.specs.Vector.{origin}
use Rattle.space.specs.Frames.{face_plane}
use Rattle.polygon.specs.Memory.{point_at, points_at}
use Rattle.polygon.specs.MemoryLaws.{length_points_at}
use Rattle.room.specs.Rooms.{counts_at}
use Rattle.room.specs.Laws.{next_point, points_done, next_count, counts_done, point_of_lem}
use Rattle.lists.specs.Walks.{all}
use Rattle.solids.specs.Apart.{each_in, apart_all}
use Rattle.solids.specs.Frames.{point_of, plane_for, faces_at, framed_all, Placing, sides_all}
use Rattle.solids.specs.Order.{shaped}
use Rattle.solids.specs.Laws.{first_go, first_stop, each_go, each_stop}

-- ---- the point at a place

pub point_in : (s : List Float) (m x : ℕ) → x < m → point_at s (3 * x) ≡ point_of (points_at s 0 m) x
point_in s m x h = ap (point_at s) (omega arith) ∙ sym (point_of_lem s 0 m x origin h)

get_d_past : {A : Type 0} (l : List A) (x : ℕ) (d : A) → length l ≤ x → get_or l x d ≡ d
get_d_past [] x d h = refl
get_d_past (y ∷ l) zero d h = absurd (omega arith)
get_d_past (y ∷ l) (suc x) d h = get_d_past l x d (omega arith)

pub point_out : (s : List Float) (m x : ℕ) → m ≤ x → origin ≡ point_of (points_at s 0 m) x
point_out s m x h = sym (get_d_past (points_at s 0 m) x origin (omega (arith, length_points_at s 0 m)))

-- ---- the plane of a face

pub length_face : (l : List ℕ) (at n : ℕ) → at + n ≤ length l → length (counts_at l at n) ≡ n
length_face l at n h = length-take n (drop at l) ∙ omega (arith, length-drop at l)

pub place_at : (l : List ℕ) (at n i : ℕ) → i < n → get_or (counts_at l at n) i 0 ≡ get_or l (at + i) 0
place_at l at n i h = get_or-take n (drop at l) i 0 h ∙ get_or-drop at l i 0

pub few_corners : (t : Precision) (ps : List Point3) (l : List ℕ) (at n : ℕ) → at + n ≤ length l → n < 3 → plane_for t ps (counts_at l at n) ≡ refuse 5
unfolding plane_for
few_corners t ps l at n h k =
    let e : ltb n 3 ≡ true = lt-ltb n 3 k in
    ap (λ k. unless (ltb k 3) 5 (face_plane t (point_of ps (get_or (counts_at l at n) 0 0)) (point_of ps (get_or (counts_at l at n) 1 0)) (point_of ps (get_or (counts_at l at n) 2 0)))) (length_face l at n h)
    ∙ ap (λ b. unless b 5 (face_plane t (point_of ps (get_or (counts_at l at n) 0 0)) (point_of ps (get_or (counts_at l at n) 1 0)) (point_of ps (get_or (counts_at l at n) 2 0)))) e

pub three_corners : (t : Precision) (ps : List Point3) (l : List ℕ) (at n : ℕ) (a b c : Point3) → at + n ≤ length l → 3 ≤ n →
    a ≡ point_of ps (get_or l at 0) → b ≡ point_of ps (get_or l (at + 1) 0) → c ≡ point_of ps (get_or l (at + 2) 0) → plane_for t ps (counts_at l at n) ≡ face_plane t a b c
unfolding plane_for
three_corners t ps l at n a b c h g x y z =
    let e : ltb n 3 ≡ false = le-ltb n 3 g in
    let f = counts_at l at n in
    let p : get_or (counts_at l at n) 0 0 ≡ get_or l at 0 = place_at l at n 0 (omega arith) ∙ ap (λ k. get_or l k 0) (omega arith) in
    let q = place_at l at n 1 (omega arith) in
    let r = place_at l at n 2 (omega arith) in
    ap (λ k. unless (ltb k 3) 5 (face_plane t (point_of ps (get_or (counts_at l at n) 0 0)) (point_of ps (get_or (counts_at l at n) 1 0)) (point_of ps (get_or (counts_at l at n) 2 0)))) (length_face l at n h)
    ∙ ap (λ d. unless d 5 (face_plane t (point_of ps (get_or (counts_at l at n) 0 0)) (point_of ps (get_or (counts_at l at n) 1 0)) (point_of ps (get_or (counts_at l at n) 2 0)))) e
    ∙ ap (λ k. face_plane t k (point_of ps (get_or (counts_at l at n) 1 0)) (point_of ps (get_or (counts_at l at n) 2 0))) (ap (point_of ps) p ∙ sym x)
    ∙ ap (λ k. face_plane t a k (point_of ps (get_or (counts_at l at n) 2 0))) (ap (point_of ps) q ∙ sym y)
    ∙ ap (λ k. face_plane t a b k) (ap (point_of ps) r ∙ sym z)

-- ---- how many faces there are

pub length_faces_at : (l : List ℕ) (at : ℕ) (ns : List ℕ) → length (faces_at l at ns) ≡ length ns
unfolding faces_at
length_faces_at l at [] = refl
length_faces_at l at (n ∷ ns) = ap suc (length_faces_at l (at + n) ns)

-- ---- a loop over n faces: j are done, and the corners of the next begin at a place

pub placing_le : (ns : List ℕ) (at m : ℕ) → Placing ns at m → at ≤ m
unfolding Placing
placing_le [] at m h = h
placing_le (n ∷ ns) at m h = omega (arith, placing_le ns (at + n) m h)

pub record Along (l counts : List ℕ) (n at j : ℕ) : Type 0 where
  pub upto : j ≤ n
  pub left : Placing (drop j (counts_at counts 0 n)) at (length l)

pub along_start : (l counts : List ℕ) (n : ℕ) → Placing (counts_at counts 0 n) 0 (length l) → Along l counts n 0 0
along_start l counts n h = record { upto = omega arith; left = h }

module _ {l counts : List ℕ} {n at j : ℕ} (I : Along l counts n at j) (room : n ≤ length counts) where
  opens : j < n → drop j (counts_at counts 0 n) ≡ get_or counts j 0 ∷ drop (j + 1) (counts_at counts 0 n)
  opens h = next_count counts 0 n j h (omega arith) ∙ ap (λ k. get_or counts k 0 ∷ drop (j + 1) (counts_at counts 0 n)) (omega arith)

  pub along_next : j < n → Along l counts n (at + get_or counts j 0) (j + 1)
  unfolding Placing
  along_next h = record { upto = omega arith; left = rw (opens h) at I.left }

  pub along_room : j < n → at + get_or counts j 0 ≤ length l
  along_room h = placing_le _ _ _ (along_next h).left

  -- the face at hand, and the rest
  pub along_face : j < n → faces_at l at (drop j (counts_at counts 0 n)) ≡ counts_at l at (get_or counts j 0) ∷ faces_at l (at + get_or counts j 0) (drop (j + 1) (counts_at counts 0 n))
  unfolding faces_at
  along_face h = ap (faces_at l at) (opens h)

  pub along_end : n ≤ j → faces_at l at (drop j (counts_at counts 0 n)) ≡ []
  unfolding faces_at
  along_end h = ap (faces_at l at) (counts_done counts 0 n j h)

-- the same, where the j faces are fine
pub record Facing (g : List ℕ → Outcome Unit) (l counts : List ℕ) (n at j : ℕ) : Type 0 where
  pub along : Along l counts n at j
  pub rest : each_in g (faces_at l at (drop j (counts_at counts 0 n))) ≡ each_in g (faces_at l 0 (counts_at counts 0 n))

pub facing_start : (g : List ℕ → Outcome Unit) (l counts : List ℕ) (n : ℕ) → Placing (counts_at counts 0 n) 0 (length l) → Facing g l counts n 0 0
facing_start g l counts n h = record { along = along_start l counts n h; rest = refl }

module _ {g : List ℕ → Outcome Unit} {l counts : List ℕ} {n at j : ℕ} (I : Facing g l counts n at j) (room : n ≤ length counts) where
  pub facing_room : j < n → at + get_or counts j 0 ≤ length l
  facing_room h = along_room I.along room h

  onward : j < n → each_in g (counts_at l at (get_or counts j 0) ∷ faces_at l (at + get_or counts j 0) (drop (j + 1) (counts_at counts 0 n))) ≡ each_in g (faces_at l 0 (counts_at counts 0 n))
  onward h = ap (each_in g) (sym (along_face I.along room h)) ∙ I.rest

  pub facing_go : j < n → g (counts_at l at (get_or counts j 0)) ≡ Ok tt → Facing g l counts n (at + get_or counts j 0) (j + 1)
  facing_go h e = record { along = along_next I.along room h; rest = sym (each_go g _ _ e) ∙ onward h }

  pub facing_stop : (r : Refusal) → j < n → g (counts_at l at (get_or counts j 0)) ≡ Err r → each_in g (faces_at l 0 (counts_at counts 0 n)) ≡ Err r
  facing_stop r h e = sym (onward h) ∙ each_stop g _ _ r e

  pub facing_end : n ≤ j → each_in g (faces_at l 0 (counts_at counts 0 n)) ≡ Ok tt
  unfolding each_in
  facing_end h = sym I.rest ∙ ap (each_in g) (along_end I.along room h)

-- ---- a test of each element

pub points_next : (g : Point3 → Bool) (b : Bool) (s : List Float) (m i : ℕ) (p : Point3) → i < m → p ≡ point_at s (3 * i) →
    all g b (drop i (points_at s 0 m)) ≡ all g (b && g p) (drop (i + 1) (points_at s 0 m))
unfolding all
points_next g b s m i p h e = ap (all g b) (next_point s 0 m i h) ∙ ap (λ q. all g (b && g q) (drop (i + 1) (points_at s 0 m))) (ap (point_at s) (omega arith) ∙ sym e)

pub points_end : (g : Point3 → Bool) (b : Bool) (s : List Float) (m i : ℕ) → m ≤ i → all g b (drop i (points_at s 0 m)) ≡ b
unfolding all
points_end g b s m i h = ap (all g b) (points_done s 0 m i h)

pub counts_next : (g : ℕ → Bool) (b : Bool) (l : List ℕ) (n j : ℕ) → j < n → n ≤ length l →
    all g b (drop j (counts_at l 0 n)) ≡ all g (b && g (get_or l j 0)) (drop (j + 1) (counts_at l 0 n))
unfolding all
counts_next g b l n j h k = ap (all g b) (next_count l 0 n j h (omega arith)) ∙ ap (λ i. all g (b && g (get_or l i 0)) (drop (j + 1) (counts_at l 0 n))) (omega arith)

pub counts_end : (g : ℕ → Bool) (b : Bool) (l : List ℕ) (n j : ℕ) → n ≤ j → all g b (drop j (counts_at l 0 n)) ≡ b
unfolding all
counts_end g b l n j h = ap (all g b) (counts_done l 0 n j h)

-- ---- the order of the checks

pub shape_frames : (given : Bool) (t : Precision) (ps : List Point3) (fs : List (List ℕ)) (r : Refusal) → framed_all t ps fs ≡ Err r → shaped given t ps fs ≡ Err r
unfolding shaped
shape_frames given t ps fs r e = first_stop (framed_all t ps fs) _ r e

pub shape_pairs : (given : Bool) (t : Precision) (ps : List Point3) (fs : List (List ℕ)) (r : Refusal) → framed_all t ps fs ≡ Ok tt → apart_all t ps ≡ Err r → shaped given t ps fs ≡ Err r
unfolding shaped
shape_pairs given t ps fs r e g = first_go (framed_all t ps fs) _ e ∙ first_stop (apart_all t ps) _ r g

pub shape_sides : (given : Bool) (t : Precision) (ps : List Point3) (fs : List (List ℕ)) → framed_all t ps fs ≡ Ok tt → apart_all t ps ≡ Ok tt → shaped given t ps fs ≡ sides_all given t ps fs
unfolding shaped
shape_sides given t ps fs e g = first_go (framed_all t ps fs) _ e ∙ first_go (apart_all t ps) _ g
