-- Laws of the check, in the words of the code.
use Rattle.std.specs.Prelude.{◌≡◌, Bool, true, false, ◌&&◌, List, [], ◌∷◌, ◌++◌, map, ℕ, ◌+◌, ◌≤◌, drop, Float, Ok, Err}
use Rattle.std.proofs.Math.Path.{refl, ap, ap₂}
use Rattle.std.proofs.Common.{sym, ◌∙◌, append-nil, append_assoc, arith, length-take, length-drop}
use Rattle.std.proofs.Math.Bool.{not}
use Rattle.std.proofs.Math.ListN.{length}
use Rattle.std.proofs.lemmas.List.{length-map}
use Rattle.std.proofs.lemmas.List.Edits.{sets}
use Rattle.refusal.specs.declared.Refusal.{Refusal}
use Rattle.refusal.specs.Outcome.{Outcome, refusal_of, unless, each, verdict_of}
use Rattle.refusal.specs.Laws.{stop, go, each_go, each_end, same_ok, never_ok, unless_ok, never_fine}
use Rattle.space.specs.declared.Point3.{Point3}
use Rattle.space.specs.declared.Plane.{Plane}
use Rattle.space.specs.declared.Precision.{Precision}
use Rattle.space.specs.Shapes.{Cell, Solid}
use Rattle.polygon.specs.Memory.{points_at}
use Rattle.polygon.specs.MemoryLaws.{length_points_at}
use Rattle.polygon.specs.Members.{All}
use Rattle.room.specs.Rooms.{counts_at, cell_floats, cell_counts}
use Rattle.solids.specs.Apart.{each_in}
use Rattle.solids.specs.Frames.{point_of, plane_for, faces_at, framed_all, Placing}
use Rattle.solids.specs.Faces.{placing_le}
use Rattle.solids.specs.Order.{fair_all, counted_all, shaped}
use Rattle.solids.specs.Laws.{first_fine}
use Rattle.solids.specs.Undented.{Undented, shaped_undented}
use Rattle.topology.specs.Topology.{sound}
use Rattle.topology.specs.Sound.{faces_many}
use Rattle.solid_check.specs.Check.{solid_at, face_of, cell_of, after, check, check_given, stored, kept, framed}

-- ---- what a fine verdict says

verdict_ok : {A : Type 0} (o : Outcome A) → verdict_of o ≡ Ok tt → (a : A) × (o ≡ Ok a)
unfolding verdict_of
verdict_ok (Ok a) e = (a, refl)
verdict_ok (Err r) e = never_fine e

face_ok : (t : Precision) (ps : List Point3) (f : List ℕ) (w : Plane) → plane_for t ps f ≡ Ok w → face_of t ps f ≡ Ok (record { plane = w; points = map (point_of ps) f })
unfolding face_of
face_ok t ps f w e = go (plane_for t ps f) (λ w. Ok (record { plane = w; points = map (point_of ps) f })) w e

-- ---- the faces: one more, and the end at one without a plane

pub framed_go : (t : Precision) (ps : List Point3) (f : List ℕ) (fs : List (List ℕ)) (w : Plane) → plane_for t ps f ≡ Ok w →
    framed t ps (f ∷ fs) ≡ record { plane = w; points = map (point_of ps) f } ∷ framed t ps fs
unfolding framed kept
framed_go t ps f fs w e = ap (λ o. kept o (framed t ps fs)) (face_ok t ps f w e)

pub framed_stop : (t : Precision) (ps : List Point3) (f : List ℕ) (fs : List (List ℕ)) (r : Refusal) → plane_for t ps f ≡ Err r → framed t ps (f ∷ fs) ≡ []
unfolding framed kept face_of
framed_stop t ps f fs r e = ap (λ o. kept o (framed t ps fs)) (stop (plane_for t ps f) (λ w. Ok (record { plane = w; points = map (point_of ps) f })) r e)

framed_from : (t : Precision) (ps : List Point3) (fs : List (List ℕ)) (acc : Cell) → framed_all t ps fs ≡ Ok tt → each (face_of t ps) acc fs ≡ Ok (acc ++ framed t ps fs)
unfolding framed framed_all each_in
framed_from t ps [] acc h = each_end (face_of t ps) acc ∙ ap Ok (sym (append-nil acc))
framed_from t ps (f ∷ fs) acc h =
    let b = first_fine (verdict_of (plane_for t ps f)) (framed_all t ps fs) h in
    let w = verdict_ok (plane_for t ps f) b.0 in
    each_go (face_of t ps) acc f fs _ (face_ok t ps f w.0 w.1)
    ∙ framed_from t ps fs (acc ++ (record { plane = w.0; points = map (point_of ps) f } ∷ [])) b.1
    ∙ ap Ok (append_assoc acc (record { plane = w.0; points = map (point_of ps) f } ∷ []) (framed t ps fs))
    ∙ ap (λ c. Ok (acc ++ c)) (sym (framed_go t ps f fs w.0 w.1))

-- where the shape is fine, every face has a plane
pub cell_framed : (given : Bool) (t : Precision) (s : Solid) → shaped given t s.points s.faces ≡ Ok tt → cell_of t s ≡ Ok (framed t s.points s.faces)
unfolding shaped cell_of
cell_framed given t s h = framed_from t s.points s.faces [] (first_fine (framed_all t s.points s.faces) _ h).0

-- ---- the numbers of corners

pub lengths_are : (l : List ℕ) (at : ℕ) (ns : List ℕ) → Placing ns at (length l) → map length (faces_at l at ns) ≡ ns
unfolding faces_at Placing
lengths_are l at [] h = refl
lengths_are l at (n ∷ ns) h =
    let k : length (counts_at l at n) ≡ n = length-take n (drop at l) ∙ omega (arith, length-drop at l, placing_le ns (at + n) (length l) h) in
    ap₂ (λ x xs. x ∷ xs) k (lengths_are l (at + n) ns h)

-- ---- the order of the checks, for a solid in memory

module _ (given : Bool) (t : Precision) (points : List Float) (m : ℕ) (places counts : List ℕ) (n : ℕ) (room : n ≤ length counts) (placed : Placing (counts_at counts 0 n) 0 (length places)) where
  abbrev ps : List Point3
  ps = points_at points 0 m

  abbrev fs : List (List ℕ)
  fs = faces_at places 0 (counts_at counts 0 n)

  abbrev all : Outcome Cell
  all = check given t (solid_at points m places counts n)

  abbrev rest : Outcome Cell
  rest = after (shaped given t ps fs) (cell_of t (solid_at points m places counts n))

  in_order : all ≡ unless (not (fair_all ps)) 2 (unless (given && not (counted_all m n (counts_at counts 0 n))) 3 (unless (not (sound m fs)) 4 rest))
  unfolding check
  in_order =
      ap (λ k. unless (not (fair_all ps)) 2 (unless (given && not (counted_all k (length fs) (map length fs))) 3 (unless (not (sound k fs)) 4 rest))) (length_points_at points 0 m)
      ∙ ap₂ (λ k l. unless (not (fair_all ps)) 2 (unless (given && not (counted_all m k l)) 3 (unless (not (sound m fs)) 4 rest))) (faces_many places counts n room) (lengths_are places 0 (counts_at counts 0 n) placed)

  -- the tests that came out fine are gone
  numbers_pass : fair_all ps ≡ true → all ≡ unless (given && not (counted_all m n (counts_at counts 0 n))) 3 (unless (not (sound m fs)) 4 rest)
  numbers_pass e = in_order ∙ ap (λ b. unless (not b) 2 (unless (given && not (counted_all m n (counts_at counts 0 n))) 3 (unless (not (sound m fs)) 4 rest))) e

  counts_pass : fair_all ps ≡ true → given && not (counted_all m n (counts_at counts 0 n)) ≡ false → all ≡ unless (not (sound m fs)) 4 rest
  counts_pass e g = numbers_pass e ∙ ap (λ b. unless b 3 (unless (not (sound m fs)) 4 rest)) g

  pub check_numbers : (r : Refusal) → r ≡ refusal_of 2 → fair_all ps ≡ false → Err r ≡ verdict_of all
  unfolding verdict_of
  check_numbers r h e = ap Err h ∙ ap verdict_of (sym (in_order ∙ ap (λ b. unless (not b) 2 (unless (given && not (counted_all m n (counts_at counts 0 n))) 3 (unless (not (sound m fs)) 4 rest))) e))

  pub check_counts : (r : Refusal) → r ≡ refusal_of 3 → fair_all ps ≡ true → given && not (counted_all m n (counts_at counts 0 n)) ≡ true → Err r ≡ verdict_of all
  unfolding verdict_of
  check_counts r h e g = ap Err h ∙ ap verdict_of (sym (numbers_pass e ∙ ap (λ b. unless b 3 (unless (not (sound m fs)) 4 rest)) g))

  pub check_sound : (r : Refusal) → r ≡ refusal_of 4 → fair_all ps ≡ true → given && not (counted_all m n (counts_at counts 0 n)) ≡ false → sound m fs ≡ false → Err r ≡ verdict_of all
  unfolding verdict_of
  check_sound r h e g k = ap Err h ∙ ap verdict_of (sym (counts_pass e g ∙ ap (λ b. unless (not b) 4 rest) k))

  sound_pass : fair_all ps ≡ true → given && not (counted_all m n (counts_at counts 0 n)) ≡ false → sound m fs ≡ true → all ≡ rest
  sound_pass e g k = counts_pass e g ∙ ap (λ b. unless (not b) 4 rest) k

  after_shape : (v : Outcome Unit) → shaped given t ps fs ≡ v → v ≡ verdict_of (after v (cell_of t (solid_at points m places counts n)))
  unfolding after verdict_of
  after_shape (Ok tt) e = ap verdict_of (sym (cell_framed given t (solid_at points m places counts n) e))
  after_shape (Err r) e = refl

  pub check_shape : fair_all ps ≡ true → given && not (counted_all m n (counts_at counts 0 n)) ≡ false → sound m fs ≡ true → shaped given t ps fs ≡ verdict_of all
  check_shape e g k = after_shape (shaped given t ps fs) refl ∙ ap verdict_of (sym (sound_pass e g k))

-- ---- what is stored of a checked solid

after_ok : {A : Type 0} (v : Outcome Unit) (o : Outcome A) (a : A) → after v o ≡ Ok a → (v ≡ Ok tt) × (o ≡ Ok a)
unfolding after
after_ok (Ok tt) o a e = (refl, e)
after_ok (Err r) o a e = never_ok e

-- an answer says that every test before it came out fine
pub check_passed : (given : Bool) (t : Precision) (s : Solid) (c : Cell) → check given t s ≡ Ok c → (shaped given t s.points s.faces ≡ Ok tt) × (cell_of t s ≡ Ok c)
unfolding check
check_passed given t s c e =
    let a = unless_ok (not (fair_all s.points)) 2 _ c e in
    let b = unless_ok (given && not (counted_all (length s.points) (length s.faces) (map length s.faces))) 3 _ c a.1 in
    let d = unless_ok (not (sound (length s.points) s.faces)) 4 _ c b.1 in
    after_ok (shaped given t s.points s.faces) (cell_of t s) c d.1

check_cell : (given : Bool) (t : Precision) (s : Solid) (c : Cell) → check given t s ≡ Ok c → c ≡ framed t s.points s.faces
check_cell given t s c e = let g = check_passed given t s c e in same_ok (sym g.1 ∙ cell_framed given t s g.0)

pub stored_fine : (given : Bool) (t : Precision) (s : Solid) (l : List Float) → verdict_of (check given t s) ≡ Ok tt → sets l 0 (cell_floats (framed t s.points s.faces)) ≡ stored (check given t s) l
unfolding stored
stored_fine given t s l e =
    let w = verdict_ok (check given t s) e in
    ap (λ c. sets l 0 (cell_floats c)) (sym (check_cell given t s w.0 w.1)) ∙ ap (λ o. stored o l) (sym w.1)

pub stored_refused : (given : Bool) (t : Precision) (s : Solid) (l : List Float) (r : Refusal) → verdict_of (check given t s) ≡ Err r → l ≡ stored (check given t s) l
stored_refused given t s l r e = go (check given t s) e
  where
    go : (o : Outcome Cell) → verdict_of o ≡ Err r → l ≡ stored o l
    go (Ok c) h = unfold verdict_of in never_fine (sym h)
    go (Err x) h = unfold stored in refl

-- a checked solid's cell has its numbers of corners
framed_counts : (t : Precision) (ps : List Point3) (fs : List (List ℕ)) → framed_all t ps fs ≡ Ok tt → cell_counts (framed t ps fs) ≡ map length fs
unfolding framed framed_all each_in cell_counts
framed_counts t ps [] h = refl
framed_counts t ps (f ∷ fs) h =
    let b = first_fine (verdict_of (plane_for t ps f)) (framed_all t ps fs) h in
    let w = verdict_ok (plane_for t ps f) b.0 in
    ap cell_counts (framed_go t ps f fs w.0 w.1) ∙ ap₂ (λ n ns. n ∷ ns) (length-map f (point_of ps)) (framed_counts t ps fs b.1)

pub check_counted : (given : Bool) (t : Precision) (s : Solid) (c : Cell) → check given t s ≡ Ok c → cell_counts c ≡ map length s.faces
unfolding shaped
check_counted given t s c e =
    ap cell_counts (check_cell given t s c e) ∙ framed_counts t s.points s.faces (first_fine (framed_all t s.points s.faces) _ (check_passed given t s c e).0).0

-- of an input solid that passes, no three consecutive corners of a face are certified to turn right, and none is unresolved
pub checked_undented : (t : Precision) (s : Solid) (c : Cell) → check_given t s ≡ Ok c → All (Undented t s.points) s.faces
checked_undented t s c e = shaped_undented t s.points s.faces (check_passed true t s c e).0
