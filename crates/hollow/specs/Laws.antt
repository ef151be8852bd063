-- Laws of the hollow solid's parts, in the words of the code.
use Rattle.std.specs.Prelude.{◌≡◌, true, ℕ, suc, ◌+◌, ◌-◌, ◌*◌, ◌≤◌, ◌<◌, take, drop, get_or, set, Float, Ok, Err}
use Rattle.std.proofs.Math.Path.{refl, sym, ap, subst}
use Rattle.std.proofs.Common.{◌∙◌, arith, take-suc, take_all, lt-ltb, le-ltb}
use mathlib.Core.List.{List, [], ◌∷◌, ◌++◌, reverse, reverse_aux, reverse-append}
use Rattle.std.proofs.Math.ListN.{length}
use Rattle.std.proofs.Math.Seq.{sets, length-sets}
use Rattle.refusal.specs.declared.Refusal.{Refusal}
use Rattle.refusal.specs.Outcome.{Outcome, refusal_of, then, each, heard}
use Rattle.refusal.specs.Laws.{stop, go, same_ok, then_ok}
use Rattle.lists.specs.Laws.{cond_yes, cond_no}
use Rattle.space.specs.declared.Point3.{Point3}
use Rattle.space.specs.declared.Plane.{Plane}
use Rattle.space.specs.declared.Precision.{Precision}
use Rattle.space.specs.Shapes.{Face, Cell, corners}
use Rattle.side.specs.Sides.{opposite_of}
use Rattle.polygon.specs.Memory.{floats, floats_of, point_at, points_at}
use Rattle.polygon.specs.MemoryLaws.{length_points_at}
use Rattle.room.specs.Rooms.{plane_floats, cell_floats, cell_counts, face_at, cell_at, counts_at}
use Rattle.room.specs.Laws.{sets_append, sets_point, point_of_lem, corners_cons, corners_none, corners_snoc, within_le}
use Rattle.cell.specs.Laws.{Ahead, ahead_next, ahead_inside, ahead_face, ahead_done}
use Rattle.bounds.specs.Bounds.{against, Lies}
use Rattle.offset.specs.Stored.{FaceMoved, CellMoved, Place}
use Rattle.offset.specs.Laws.{Listing, listing_start, listing_fits, listing_step, listing_stop, listing_end}
use Rattle.offset.specs.Whole.{cell_size, cell_not, cell_made}
use Rattle.hollow.specs.Hollows.{reversed_face, Hollow, room_for, hollow_room, hollow_of, hollow_in}
use Rattle.hollow.specs.Stored.{behind, Walled}

-- ---- points, the last first

length_turned : {A : Type 0} (l r : List A) → length (reverse_aux l r) ≡ length l + length r
length_turned [] r = omega arith
length_turned (x ∷ l) r = length_turned l (x ∷ r) ∙ omega arith

-- the last of i points, and those before it
last : (s : List Float) (at n i : ℕ) → 0 < i → i ≤ n → reverse (take i (points_at s at n)) ≡ point_at s (at + 3 * (i - 1)) ∷ reverse (take (i - 1) (points_at s at n))
last s at n i h g =
    let k : i ≡ suc (i - 1) = omega arith in
    let m : i - 1 < length (points_at s at n) = omega (arith, length_points_at s at n) in
    ap (λ j. reverse (take j (points_at s at n))) k
    ∙ ap reverse (take-suc (points_at s at n) (i - 1) (point_at s at) m)
    ∙ reverse-append (take (i - 1) (points_at s at n)) (get_or (points_at s at n) (i - 1) (point_at s at) ∷ [])
    ∙ ap (λ q. q ∷ reverse (take (i - 1) (points_at s at n))) (point_of_lem s at n (i - 1) (point_at s at) (omega arith))

pub record Turning (s : List Float) (at n : ℕ) (d₀ : List Float) (to : ℕ) (d : List Float) (o i : ℕ) : Type 0 where
  pub upto : i ≤ n
  pub place : o + 3 * i ≡ to + 3 * n
  pub size : length d ≡ length d₀
  pub rest : sets d o (floats_of (reverse (take i (points_at s at n)))) ≡ sets d₀ to (floats_of (reverse (points_at s at n)))

pub turning_start : (s : List Float) (at n : ℕ) (d : List Float) (to : ℕ) → Turning s at n d to d to n
turning_start s at n d to = record {
  upto = omega arith;
  place = refl;
  size = refl;
  rest = ap (λ l. sets d to (floats_of (reverse l))) (take_all n (points_at s at n) (omega (arith, length_points_at s at n)));
}

module _ {s : List Float} {at n : ℕ} {d₀ : List Float} {to : ℕ} {d : List Float} {o i : ℕ} (I : Turning s at n d₀ to d o i) where
  pub turning_step : (q : Point3) (d' : List Float) → 0 < i → q ≡ point_at s (at + 3 * (i - 1)) → d' ≡ sets d o (floats q) → Turning s at n d₀ to d' (o + 3) (i - 1)
  turning_step q d' h e u = record {
    upto = omega (arith, I.upto);
    place = omega (arith, I.place);
    size = ap length u ∙ length-sets d o (floats q) ∙ I.size;
    rest = ap (λ y. sets y (o + 3) (floats_of (reverse (take (i - 1) (points_at s at n))))) u
        ∙ sym (sets_point d o q (reverse (take (i - 1) (points_at s at n))))
        ∙ ap (λ y. sets d o (floats_of (y ∷ reverse (take (i - 1) (points_at s at n))))) e
        ∙ ap (λ l. sets d o (floats_of l)) (sym (last s at n i h I.upto))
        ∙ I.rest;
  }

  pub turning_end : i ≤ 0 → d ≡ sets d₀ to (floats_of (reverse (points_at s at n)))
  turning_end h = let e : i ≡ 0 = omega arith in ap (λ j. sets d o (floats_of (reverse (take j (points_at s at n))))) (sym e) ∙ I.rest

-- ---- one face

module _ (t : Precision) (f : Face) (to : ℕ) (d₀ d : List Float) (v : Outcome Unit) where
  pub face_reversed : (w : Plane) (e : List Float) → opposite_of t f.plane ≡ Ok w → v ≡ Ok tt → e ≡ sets d₀ to (plane_floats w) → d ≡ sets e (to + 13) (floats_of (reverse f.points)) → FaceMoved (reversed_face t f) to d₀ d v
  unfolding reversed_face FaceMoved
  face_reversed w e p u g h =
      subst (λ y. FaceMoved (then y (λ w. Ok (record { plane = w; points = reverse f.points }))) to d₀ d v) (sym p)
      (u, h ∙ ap (λ y. sets y (to + 13) (floats_of (reverse f.points))) g ∙ sets_append d₀ to (plane_floats w) (floats_of (reverse f.points)))

  pub face_stays : (r : Refusal) → opposite_of t f.plane ≡ Err r → v ≡ Err r → length d ≡ length d₀ → FaceMoved (reversed_face t f) to d₀ d v
  unfolding reversed_face FaceMoved
  face_stays r p u s = subst (λ y. FaceMoved (then y (λ w. Ok (record { plane = w; points = reverse f.points }))) to d₀ d v) (sym p) (u, s)

pub reversed_corners : (t : Precision) (f g : Face) → reversed_face t f ≡ Ok g → length g.points ≡ length f.points
unfolding reversed_face
reversed_corners t f g e =
    let h = then_ok (opposite_of t f.plane) (λ w. Ok (record { plane = w; points = reverse f.points })) g e in
    ap (λ y. length y.points) (sym (same_ok h.2)) ∙ length_turned f.points [] ∙ omega arith

-- ---- the faces of a cell

pub record Reversing (t : Precision) (s : List Float) (from : ℕ) (counts : List ℕ) (first n : ℕ) (d₀ : List Float) (to : ℕ) (n₀ : List ℕ) (k : ℕ) (d : List Float) (ns : List ℕ) (o q j : ℕ) : Type 0 where
  pub ahead : Ahead s counts first n o j
  pub listing : Listing (reversed_face t) (cell_at s from (counts_at counts first n)) counts first n d₀ to n₀ k d ns q j (cell_at s o (drop j (counts_at counts first n)))

pub reversing_start : {t : Precision} {s : List Float} {from : ℕ} {counts : List ℕ} {first n : ℕ} {d : List Float} {to : ℕ} {ns : List ℕ} {k : ℕ} →
    Lies s from counts first n → Place counts first n d to ns k → Reversing t s from counts first n d to ns k d ns from to 0
reversing_start g h = record { ahead = record { upto = omega arith; within = g.within }; listing = listing_start _ _ _ _ _ _ _ _ _ h }

module _ {t : Precision} {s : List Float} {from : ℕ} {counts : List ℕ} {first n : ℕ} {d₀ : List Float} {to : ℕ} {n₀ : List ℕ} {k : ℕ} {d : List Float} {ns : List ℕ} {o q j : ℕ}
    (I : Reversing t s from counts first n d₀ to n₀ k d ns o q j) (given : Lies s from counts first n) where
  module _ (h : j < n) where
    pub reversing_inside : o + 13 + 3 * get_or counts (first + j) 0 ≤ length s
    reversing_inside = ahead_inside s counts first n o j given.listed h I.ahead

    pub reversing_fits : q + 13 + 3 * get_or counts (first + j) 0 ≤ length d
    reversing_fits = listing_fits I.listing given.listed h

    sized : (g : Face) → reversed_face t (face_at s o (get_or counts (first + j) 0)) ≡ Ok g → length g.points ≡ get_or counts (first + j) 0
    sized g e = reversed_corners t (face_at s o (get_or counts (first + j) 0)) g e ∙ length_points_at s (o + 13) (get_or counts (first + j) 0)

    pub reversing_step : (d' : List Float) (ns' : List ℕ) (v : Outcome Unit) → FaceMoved (reversed_face t (face_at s o (get_or counts (first + j) 0))) q d d' v → v ≡ Ok tt → ns' ≡ set ns (k + j) (get_or counts (first + j) 0) →
        Reversing t s from counts first n d₀ to n₀ k d' ns' (o + 13 + 3 * get_or counts (first + j) 0) (q + 13 + 3 * get_or counts (first + j) 0) (j + 1)
    reversing_step d' ns' v m e u = record {
      ahead = ahead_next s counts first n o j given.listed h I.ahead;
      listing = listing_step I.listing given.listed h (face_at s o (get_or counts (first + j) 0)) _ d' ns' v (ahead_face s counts first n o j given.listed h I.ahead) m e sized u;
    }

    pub reversing_stop : (d' : List Float) (v v' : Outcome Unit) (r : Refusal) → FaceMoved (reversed_face t (face_at s o (get_or counts (first + j) 0))) q d d' v → v ≡ Err r → v' ≡ Err r →
        CellMoved (each (reversed_face t) [] (cell_at s from (counts_at counts first n))) n d₀ to n₀ k d' ns v'
    reversing_stop d' v v' r m e e' = listing_stop I.listing given.listed h (face_at s o (get_or counts (first + j) 0)) _ d' v v' r (ahead_face s counts first n o j given.listed h I.ahead) m e e'

  pub reversing_end : (v : Outcome Unit) → n ≤ j → v ≡ Ok tt → CellMoved (each (reversed_face t) [] (cell_at s from (counts_at counts first n))) n d₀ to n₀ k d ns v
  reversing_end v h e = listing_end I.listing v h I.ahead.upto (ahead_done s counts first n o j h) e

-- ---- how many corners

pub record Counting (s : List Float) (from : ℕ) (counts : List ℕ) (first n held j : ℕ) : Type 0 where
  pub o : ℕ
  pub ahead : Ahead s counts first n o j
  pub few : 3 * held ≤ o
  pub left : held + corners 0 (cell_at s o (drop j (counts_at counts first n))) ≡ corners 0 (cell_at s from (counts_at counts first n))

pub counting_start : {s : List Float} {from : ℕ} {counts : List ℕ} {first n : ℕ} → Lies s from counts first n → Counting s from counts first n 0 0
counting_start {from = from} g = record { o = from; ahead = record { upto = omega arith; within = g.within }; few = omega arith; left = omega arith }

module _ {s : List Float} {from : ℕ} {counts : List ℕ} {first n held j : ℕ} (I : Counting s from counts first n held j) (given : Lies s from counts first n) where
  pub counting_few : j < n → 3 * (held + get_or counts (first + j) 0) ≤ length s
  counting_few h = omega (arith, I.few, ahead_inside s counts first n I.o j given.listed h I.ahead)

  pub counting_step : j < n → Counting s from counts first n (held + get_or counts (first + j) 0) (j + 1)
  counting_step h =
      let c = get_or counts (first + j) 0 in
      let e = ahead_face s counts first n I.o j given.listed h I.ahead in
      record {
        o = I.o + 13 + 3 * get_or counts (first + j) 0;
        ahead = ahead_next s counts first n I.o j given.listed h I.ahead;
        few = omega (arith, I.few);
        left = omega (arith, I.left, ap (corners 0) e, corners_cons (face_at s I.o c) (cell_at s (I.o + 13 + 3 * c) (drop (j + 1) (counts_at counts first n))), length_points_at s (I.o + 13) c);
      }

  pub counting_end : n ≤ j → held ≡ corners 0 (cell_at s from (counts_at counts first n))
  counting_end h = omega (arith, I.left, ap (corners 0) (ahead_done s counts first n I.o j h), corners_none)

  pub counting_all : 3 * held ≤ length s
  counting_all = omega (arith, I.few, within_le (drop j (counts_at counts first n)) I.o (length s) I.ahead.within)

-- ---- the shells

abbrev hollowed : Cell → Cell → Hollow
hollowed a b = record { outer = a; inner = b }

-- the place behind the outer cell, by its number of corners
pub place_at : (counts : List ℕ) (first n : ℕ) (d : List Float) (to faces : ℕ) (c : Cell) (sizes : List ℕ) (k x : ℕ) → x ≡ corners 0 c → Place counts first n d (behind to faces c) sizes k →
    Place counts first n d (to + 13 * faces + 3 * x) sizes k
place_at counts first n d to faces c sizes k x e p = subst (λ y. Place counts first n d (to + 13 * faces + 3 * y) sizes k) (sym e) p

pub moved_at : (o : Outcome Cell) (n : ℕ) (d₀ : List Float) (to faces : ℕ) (n₀ : List ℕ) (k : ℕ) (d : List Float) (ns : List ℕ) (v : Outcome Unit) (c : Cell) (x : ℕ) → x ≡ corners 0 c →
    CellMoved o n d₀ (to + 13 * faces + 3 * x) n₀ k d ns v → CellMoved o n d₀ (behind to faces c) n₀ k d ns v
moved_at o n d₀ to faces n₀ k d ns v c x e m = subst (λ y. CellMoved o n d₀ (to + 13 * faces + 3 * y) n₀ k d ns v) e m

-- 12, or not
pub room_full : (room n : ℕ) (r : Refusal) → room < n → r ≡ refusal_of 12 → Err r ≡ room_for room n
unfolding room_for
room_full room n r h e = ap Err e ∙ cond_yes (Ok tt) (lt-ltb room n h)

pub room_left : (room n : ℕ) → n ≤ room → (Ok tt) ≡ room_for room n
unfolding room_for
room_left room n h = cond_no (Err (refusal_of 12)) (le-ltb room n h)

-- a reversed cell has as many corners
reversed_count : (t : Precision) (l before c : Cell) → each (reversed_face t) before l ≡ Ok c → corners 0 c ≡ corners 0 before + corners 0 l
unfolding each
reversed_count t [] before c e = ap (corners 0) (sym (same_ok e)) ∙ omega (arith, corners_none)
reversed_count t (f ∷ l) before c e =
    let g = then_ok (reversed_face t f) (λ y. each (reversed_face t) (before ++ (y ∷ [])) l) c e in
    omega (arith, reversed_count t l (before ++ (g.0 ∷ [])) c g.2, corners_snoc before g.0, corners_cons f l, reversed_corners t f g.0 g.1)

module _ (t : Precision) (room : ℕ) (outer moved built : Cell) (d₀ : List Float) (to : ℕ) (n₀ : List ℕ) (k : ℕ) (v : Outcome Unit) (a : v ≡ against true t outer moved) where
  pub not_inside : (r : Refusal) → v ≡ Err r → Walled (hollow_in t room outer moved built) d₀ to n₀ k d₀ n₀ v
  unfolding hollow_in heard Walled
  not_inside r e =
      let z : hollow_in t room outer moved built ≡ Err r = ap (λ y. then (heard y built) (hollow_of t room outer)) (sym a ∙ e) in
      subst (λ o. Walled o d₀ to n₀ k d₀ n₀ v) (sym z) (e, refl, refl)

  module _ (n : ℕ) (d : List Float) (ns : List ℕ) (w : Outcome Unit) (e : v ≡ Ok tt) (F : CellMoved (each (reversed_face t) [] built) n d₀ to n₀ k d ns w) where
    onward : hollow_in t room outer moved built ≡ hollow_of t room outer built
    unfolding hollow_in heard
    onward = ap (λ y. then (heard y built) (hollow_of t room outer)) (sym a ∙ e)

    pub not_reversed : (r : Refusal) → w ≡ Err r → Walled (hollow_in t room outer moved built) d₀ to n₀ k d ns w
    unfolding hollow_of Walled
    not_reversed r x =
        let z : hollow_in t room outer moved built ≡ Err r = onward ∙ stop (each (reversed_face t) [] built) _ r (cell_not n d₀ to n₀ k d ns (each (reversed_face t) [] built) w r F x) in
        let s = cell_size n d₀ to n₀ k d ns (each (reversed_face t) [] built) w F in
        subst (λ o. Walled o d₀ to n₀ k d ns w) (sym z) (x, s.0, s.1)

    walled : (c : Cell) (u : Outcome Unit) → CellMoved (Ok c) n d₀ to n₀ k d ns w → Walled (heard u (record { outer = outer; inner = c })) d₀ to n₀ k d ns u
    unfolding CellMoved Walled heard
    walled c (Ok tt) h = (refl, h.1, h.2)
    walled c (Err r) h = (refl, ap length h.1 ∙ length-sets d₀ to (cell_floats c), ap length h.2 ∙ length-sets n₀ k (cell_counts c))

    pub all_walled : (p q : ℕ) (u : Outcome Unit) → w ≡ Ok tt → p ≡ corners 0 outer → q ≡ corners 0 built → u ≡ room_for room (p + q) → Walled (hollow_in t room outer moved built) d₀ to n₀ k d ns u
    unfolding hollow_of hollow_room
    all_walled p q u x ep eq eu =
        let g = cell_made n d₀ to n₀ k d ns (each (reversed_face t) [] built) w F x in
        let m : corners 0 outer + corners 0 g.0 ≡ p + q = omega (arith, ep, eq, reversed_count t built [] g.0 g.1, corners_none) in
        let z : hollow_in t room outer moved built ≡ heard u (record { outer = outer; inner = g.0 }) =
        onward ∙ go (each (reversed_face t) [] built) _ g.0 g.1 ∙ ap (λ y. heard y (hollowed outer g.0)) (ap (room_for room) m ∙ sym eu) in
        subst (λ o. Walled o d₀ to n₀ k d ns u) (sym z) (walled g.0 u g.2)
