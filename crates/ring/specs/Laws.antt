-- Laws of the steps of a cut, in the words of the code.
use Rattle.std.specs.Result.{IfOk}
use Rattle.std.specs.Prelude.{◌≡◌, refl, Bool, true, false, leb, List, [], ◌∷◌, ◌++◌, ℕ, zero, suc, ◌+◌, ◌*◌, ◌%◌, ◌≤◌, ◌<◌, drop, Float, Ok, Err}
use Rattle.std.proofs.Common.{sym, ◌∙◌, arith, le-leb}
use Rattle.std.proofs.Math.Path.{ap, subst}
use Rattle.std.proofs.Math.ListN.{length}
use Rattle.std.proofs.lemmas.List.Edits.{sets}
use Rattle.std.proofs.lemmas.Bool.{lt-leb}
use Rattle.refusal.specs.declared.Refusal.{Refusal}
use Rattle.refusal.specs.Outcome.{Outcome, refusal_of, then, unless, walk}
use Rattle.refusal.specs.Laws.{walk_go, walk_stop, walk_end}
use Rattle.lists.specs.Walks.{cyclic}
use Rattle.space.specs.declared.Point3.{Point3}
use Rattle.space.specs.declared.Plane.{Plane}
use Rattle.space.specs.declared.Precision.{Precision}
use Rattle.side.specs.declared.Side.{Side}
use Rattle.side.specs.Sides.{side_of}
use Rattle.polygon.specs.Memory.{floats, point_at, points_at}
use Rattle.polygon.specs.MemoryLaws.{length_points_at}
use Rattle.edge.specs.declared.Seen.{Seen}
use Rattle.edge.specs.declared.Meet.{Meet}
use Rattle.edge.specs.declared.Meet.TheVariants as M
use Rattle.edge.specs.Meets.{noted, corner_meet, edge_meet}
use Rattle.room.specs.Laws.{points_put, next_point, points_done, next_corner, round_done}
use Rattle.room.specs.Steps.{then_then, onward, onward_next, onward_end}
use Rattle.ring.specs.declared.Ringed.{Ringed}
use Rattle.ring.specs.Rings.{sign_one, Ring, push_face, push_cap, push_both, pushed, cut_by, cut_edge, cut_ring, ring_of, Roomy, Bounded, Added, Step, FaceStep, CapStep, Rung}

-- two steps one after the other
pub twice : (f g : Ring → Outcome Ring) (o p q : Outcome Ring) → p ≡ then o f → q ≡ then p g → q ≡ then o (λ x. then (f x) g)
twice f g o p q a b = b ∙ ap (λ x. then x g) a ∙ then_then o f g

-- a refusal of the first is the answer
pub halted : (f g : Ring → Outcome Ring) (o p : Outcome Ring) (k : Refusal) → p ≡ then o f → p ≡ Err k → Err k ≡ then o (λ x. then (f x) g)
halted f g o p k a e = ap (λ x. then x g) (sym e ∙ a) ∙ then_then o f g

-- ---- the loop over the corners' sides

pub record Signing (t : Precision) (w : Plane) (src : List Float) (at n : ℕ) (s out : Seen) (i : ℕ) : Type 0 where
  pub upto : i ≤ n
  pub is : walk (sign_one t w) out (drop i (points_at src at n)) ≡ walk (sign_one t w) s (points_at src at n)

pub signing_start : (t : Precision) (w : Plane) (src : List Float) (at n : ℕ) (s : Seen) → Signing t w src at n s s 0
signing_start t w src at n s = record { upto = omega arith; is = refl }

module _ (t : Precision) (w : Plane) (src : List Float) (at n : ℕ) (s out : Seen) (i : ℕ) (q : Point3) (d : Outcome Side) (o : Outcome Seen) (h : i < n)
    (eq : q ≡ point_at src (at + 3 * i)) (ed : d ≡ side_of t w q) (e : o ≡ noted out d) (g : Signing t w src at n s out i) where
  signing_one : sign_one t w out (point_at src (at + 3 * i)) ≡ o
  unfolding sign_one
  signing_one = sym (e ∙ ap (noted out) (ed ∙ ap (side_of t w) eq))

  signing_onward : walk (sign_one t w) out (point_at src (at + 3 * i) ∷ drop (i + 1) (points_at src at n)) ≡ walk (sign_one t w) s (points_at src at n)
  signing_onward = ap (walk (sign_one t w) out) (sym (next_point src at n i h)) ∙ g.is

  pub signing_step : (out' : Seen) → o ≡ Ok out' → Signing t w src at n s out' (i + 1)
  signing_step out' x = record {
    upto = omega arith;
    is = sym (walk_go (sign_one t w) out (point_at src (at + 3 * i)) (drop (i + 1) (points_at src at n)) out' (signing_one ∙ x)) ∙ signing_onward;
  }

  -- a refusal ends the loop
  pub signing_stop : (r : Refusal) → o ≡ Err r → Err r ≡ walk (sign_one t w) s (points_at src at n)
  signing_stop r x = sym (walk_stop (sign_one t w) out (point_at src (at + 3 * i)) (drop (i + 1) (points_at src at n)) r (signing_one ∙ x)) ∙ signing_onward

pub signing_end : (t : Precision) (w : Plane) (src : List Float) (at n : ℕ) (s out : Seen) (i : ℕ) → n ≤ i →
    Signing t w src at n s out i → Ok out ≡ walk (sign_one t w) s (points_at src at n)
signing_end t w src at n s out i h g =
    sym (walk_end (sign_one t w) out) ∙ ap (walk (sign_one t w) out) (sym (points_done src at n i h)) ∙ g.is

-- ---- the pushes

pub added_full : (limit n : ℕ) (q : Point3) (s : List Float) (k : Refusal) → limit ≤ n → k ≡ refusal_of 12 → Added limit q n (Err k) s s
added_full limit n q s k h e = record {
  is = ap {B = Outcome (List Point3)} Err e ∙ ap (λ b. unless b 12 (Ok (points_at s 0 n ++ (q ∷ [])))) (sym (le-leb _ _ h));
  few = tt;
}

pub added_one : (limit n : ℕ) (q : Point3) (s s' : List Float) → n < limit → 3 * limit ≤ length s → s' ≡ sets s (3 * n) (floats q) → Added limit q n (Ok (n + 1)) s s'
added_one limit n q s s' h k e = record {
  is = ap {B = Outcome (List Point3)} (λ x. Ok (points_at x 0 (n + 1))) e
      ∙ ap {B = Outcome (List Point3)} Ok (points_put s n q (omega arith))
      ∙ ap (λ b. unless b 12 (Ok (points_at s 0 n ++ (q ∷ [])))) (sym (lt-leb _ _ h));
  few = omega arith;
}

under : (b : Bool) (l : List Point3) (g : List Point3 → Ring) → then (unless b 12 (Ok l)) (λ x. Ok (g x)) ≡ unless b 12 (Ok (g l))
under true l g = refl
under false l g = refl

module _ (q : Point3) (s : Ringed) where
  face_stored : (o : Outcome ℕ) (face cap : List Float) →
      ring_of (then o (λ m. Ok (record { corners = m; caps = s.caps }))) face cap ≡ then (then o (λ m. Ok (points_at face 0 m))) (λ l. Ok (record { face = l; cap = points_at cap 0 s.caps }))
  unfolding ring_of
  face_stored (Ok m) face cap = refl
  face_stored (Err r) face cap = refl

  cap_stored : (o : Outcome ℕ) (face cap : List Float) →
      ring_of (then o (λ m. Ok (record { corners = s.corners; caps = m }))) face cap ≡ then (then o (λ m. Ok (points_at cap 0 m))) (λ l. Ok (record { face = points_at face 0 s.corners; cap = l }))
  unfolding ring_of
  cap_stored (Ok m) face cap = refl
  cap_stored (Err r) face cap = refl

  face_few : (o : Outcome ℕ) → s.caps ≤ 1024 → IfOk o (λ m. m ≤ 128) → Bounded (then o (λ m. Ok (record { corners = m; caps = s.caps })))
  face_few (Ok m) h f = (f, h)
  face_few (Err r) h f = tt

  cap_few : (o : Outcome ℕ) → s.corners ≤ 128 → IfOk o (λ m. m ≤ 1024) → Bounded (then o (λ m. Ok (record { corners = s.corners; caps = m })))
  cap_few (Ok m) h f = (h, f)
  cap_few (Err r) h f = tt

  face_done : (o : Outcome ℕ) (r : Outcome Ringed) (face face' : List Float) → s.caps ≤ 1024 → Added 128 q s.corners o face face' →
      r ≡ then o (λ m. Ok (record { corners = m; caps = s.caps })) → FaceStep q s r face face'
  unfolding ring_of push_face
  face_done o r face face' h a e = record {
    is = λ cap.
        let l = points_at face 0 s.corners ++ (q ∷ []) in
        ap (λ x. ring_of x face' cap) e
        ∙ face_stored o face' cap
        ∙ ap (λ x. then x (λ l. Ok (record { face = l; cap = points_at cap 0 s.caps }))) a.is
        ∙ under (leb 128 s.corners) (points_at face 0 s.corners ++ (q ∷ [])) (λ l. record { face = l; cap = points_at cap 0 s.caps })
        ∙ ap (λ n. unless (leb 128 n) 12 (Ok (record { face = points_at face 0 s.corners ++ (q ∷ []); cap = points_at cap 0 s.caps }))) (sym (length_points_at face 0 s.corners));
    few = subst Bounded (sym e) (face_few o h a.few);
  }

  cap_done : (o : Outcome ℕ) (r : Outcome Ringed) (cap cap' : List Float) → s.corners ≤ 128 → Added 1024 q s.caps o cap cap' →
      r ≡ then o (λ m. Ok (record { corners = s.corners; caps = m })) → CapStep q s r cap cap'
  unfolding ring_of push_cap
  cap_done o r cap cap' h a e = record {
    is = λ face.
        ap (λ x. ring_of x face cap') e
        ∙ cap_stored o face cap'
        ∙ ap (λ x. then x (λ l. Ok (record { face = points_at face 0 s.corners; cap = l }))) a.is
        ∙ under (leb 1024 s.caps) (points_at cap 0 s.caps ++ (q ∷ [])) (λ l. record { face = points_at face 0 s.corners; cap = l })
        ∙ ap (λ n. unless (leb 1024 n) 12 (Ok (record { face = points_at face 0 s.corners; cap = points_at cap 0 s.caps ++ (q ∷ []) }))) (sym (length_points_at cap 0 s.caps));
    few = subst Bounded (sym e) (cap_few o h a.few);
  }

  pub face_refused : (o : Outcome ℕ) (r : Outcome Ringed) (k : Refusal) (face face' : List Float) → s.caps ≤ 1024 → Added 128 q s.corners o face face' → o ≡ Err k → r ≡ Err k → FaceStep q s r face face'
  face_refused o r k face face' h a e g = face_done o r face face' h a (g ∙ ap (λ x. then x (λ m. Ok (record { corners = m; caps = s.caps }))) (sym e))

  pub face_pushed : (o : Outcome ℕ) (m : ℕ) (face face' : List Float) → s.caps ≤ 1024 → Added 128 q s.corners o face face' → o ≡ Ok m → FaceStep q s (Ok (record { corners = m; caps = s.caps })) face face'
  face_pushed o m face face' h a e = face_done o (Ok (record { corners = m; caps = s.caps })) face face' h a (ap (λ x. then x (λ m. Ok (record { corners = m; caps = s.caps }))) (sym e))

  pub cap_refused : (o : Outcome ℕ) (r : Outcome Ringed) (k : Refusal) (cap cap' : List Float) → s.corners ≤ 128 → Added 1024 q s.caps o cap cap' → o ≡ Err k → r ≡ Err k → CapStep q s r cap cap'
  cap_refused o r k cap cap' h a e g = cap_done o r cap cap' h a (g ∙ ap (λ x. then x (λ m. Ok (record { corners = s.corners; caps = m }))) (sym e))

  pub cap_pushed : (o : Outcome ℕ) (m : ℕ) (cap cap' : List Float) → s.corners ≤ 128 → Added 1024 q s.caps o cap cap' → o ≡ Ok m → CapStep q s (Ok (record { corners = s.corners; caps = m })) cap cap'
  cap_pushed o m cap cap' h a e = cap_done o (Ok (record { corners = s.corners; caps = m })) cap cap' h a (ap (λ x. then x (λ m. Ok (record { corners = s.corners; caps = m }))) (sym e))

pub both_pushed : (q : Point3) (s m : Ringed) (o r : Outcome Ringed) (face cap face' cap' : List Float) → FaceStep q s o face face' → o ≡ Ok m → CapStep q m r cap cap' → Step (λ x. push_both x q) s r face cap face' cap'
unfolding push_both
both_pushed q s m o r face cap face' cap' f e g = record {
  is = twice (λ x. push_face x q) (λ x. push_cap x q) (ring_of (Ok s) face cap) (ring_of (Ok m) face' cap) (ring_of r face' cap') (ap (λ x. ring_of x face' cap) (sym e) ∙ f.is cap) (g.is face');
  few = g.few;
}

pub both_refused : (q : Point3) (s : Ringed) (o r : Outcome Ringed) (k : Refusal) (face cap face' : List Float) → FaceStep q s o face face' → o ≡ Err k → r ≡ Err k → Step (λ x. push_both x q) s r face cap face' cap
unfolding push_both ring_of
both_refused q s o r k face cap face' f e h = record {
  is = ap (λ x. ring_of x face' cap) h ∙ halted (λ x. push_face x q) (λ x. push_cap x q) (ring_of (Ok s) face cap) (ring_of o face' cap) k (f.is cap) (ap (λ x. ring_of x face' cap) e);
  few = subst Bounded (sym h) tt;
}

-- ---- by what the edge gives

module _ (a : Point3) (m : Outcome Meet) (s : Ringed) (r : Outcome Ringed) (face cap face' cap' : List Float) where
  pub push_keep : m ≡ Ok M.Keep → cap' ≡ cap → FaceStep a s r face face' → Step (λ x. pushed x a m) s r face cap face' cap'
  unfolding pushed
  push_keep e h f = subst (λ z. Step (λ x. pushed x a z) s r face cap face' cap') (sym e) (subst (λ z. Step (λ x. push_face x a) s r face cap face' z) (sym h) (record { is = f.is cap; few = f.few }))

  pub push_touch : m ≡ Ok M.Touch → Step (λ x. push_both x a) s r face cap face' cap' → Step (λ x. pushed x a m) s r face cap face' cap'
  unfolding pushed
  push_touch e f = subst (λ z. Step (λ x. pushed x a z) s r face cap face' cap') (sym e) f

  pub push_cut : (x y z : Float) → m ≡ Ok (M.Cut x y z) → Step (λ u. push_both u (record { x = x; y = y; z = z })) s r face cap face' cap' → Step (λ u. pushed u a m) s r face cap face' cap'
  unfolding pushed
  push_cut x y z e f = subst (λ k. Step (λ u. pushed u a k) s r face cap face' cap') (sym e) f

module _ (a : Point3) (m : Outcome Meet) (s : Ringed) (face cap : List Float) (h : Roomy s face cap) where
  pub push_drop : m ≡ Ok M.Drop → Step (λ x. pushed x a m) s (Ok s) face cap face cap
  unfolding pushed ring_of
  push_drop e = subst (λ z. Step (λ x. pushed x a z) s (Ok s) face cap face cap) (sym e) (record { is = refl; few = (h.few, h.few_caps) })

  pub push_refused : (k : Refusal) (r : Outcome Ringed) → m ≡ Err k → r ≡ Err k → Step (λ x. pushed x a m) s r face cap face cap
  unfolding pushed ring_of
  push_refused k r e q =
      subst (λ z. Step (λ x. pushed x a z) s r face cap face cap) (sym e)
      (record { is = ap (λ z. ring_of z face cap) q; few = subst Bounded (sym q) tt })

-- ---- an edge

module _ (t : Precision) (w : Plane) (a b : Point3) (sa sb : Outcome Side) (m n : Outcome Meet) (s : Ringed) (face cap face' cap' face'' cap'' : List Float)
    (ea : sa ≡ side_of t w a) (eb : sb ≡ side_of t w b) (em : m ≡ corner_meet sa sb) where
  pub edge_done : (o r : Outcome Ringed) (u : Ringed) → n ≡ edge_meet t w a b sa sb →
      Step (λ x. pushed x a m) s o face cap face' cap' → o ≡ Ok u → Step (λ x. pushed x a n) u r face' cap' face'' cap'' →
      Step (λ x. cut_edge t w x (record { from = a; to = b })) s r face cap face'' cap''
  unfolding cut_edge cut_by
  edge_done o r u en f eo g =
      let e = twice (λ x. pushed x a m) (λ x. pushed x a n) (ring_of (Ok s) face cap) (ring_of (Ok u) face' cap') (ring_of r face'' cap'') (ap (λ x. ring_of x face' cap') (sym eo) ∙ f.is) g.is in
      let em' : m ≡ corner_meet (side_of t w a) (side_of t w b) = cc in
      let en' : n ≡ edge_meet t w a b (side_of t w a) (side_of t w b) = cc in
      record {
        is = e
            ∙ ap (λ z. then (ring_of (Ok s) face cap) (λ x. then (pushed x a z) (λ y. pushed y a n))) em'
            ∙ ap (λ z. then (ring_of (Ok s) face cap) (λ x. then (pushed x a (corner_meet (side_of t w a) (side_of t w b))) (λ y. pushed y a z))) en';
        few = g.few;
      }

  pub edge_refused : (o r : Outcome Ringed) (k : Refusal) → Step (λ x. pushed x a m) s o face cap face' cap' → o ≡ Err k → r ≡ Err k →
      Step (λ x. cut_edge t w x (record { from = a; to = b })) s r face cap face' cap'
  unfolding cut_edge cut_by ring_of
  edge_refused o r k f eo er =
      let em' : m ≡ corner_meet (side_of t w a) (side_of t w b) = cc in
      record {
        is = ap (λ z. ring_of z face' cap') er
            ∙ halted (λ x. pushed x a m) (λ y. pushed y a (edge_meet t w a b (side_of t w a) (side_of t w b))) (ring_of (Ok s) face cap) (ring_of o face' cap') k f.is (ap (λ z. ring_of z face' cap') eo)
            ∙ ap (λ z. then (ring_of (Ok s) face cap) (λ x. then (pushed x a z) (λ y. pushed y a (edge_meet t w a b (side_of t w a) (side_of t w b))))) em';
        few = subst Bounded (sym er) tt;
      }

-- ---- the loop round a face

pub record Ringing (t : Precision) (w : Plane) (src : List Float) (at n : ℕ) (face₀ cap₀ : List Float) (caps : ℕ) (s : Ringed) (face cap : List Float) (i : ℕ) : Type 0 where
  pub upto : i ≤ n
  pub few : s.corners ≤ 128
  pub few_caps : s.caps ≤ 1024
  pub face_size : length face ≡ length face₀
  pub cap_size : length cap ≡ length cap₀
  pub is : onward (cut_edge t w) (ring_of (Ok s) face cap) (drop i (cyclic (points_at src at n))) ≡ cut_ring t w (points_at cap₀ 0 caps) (points_at src at n)

pub ringing_start : (t : Precision) (w : Plane) (src : List Float) (at n : ℕ) (face cap : List Float) (caps : ℕ) → caps ≤ 1024 →
    Ringing t w src at n face cap caps (record { corners = 0; caps = caps }) face cap 0
unfolding ring_of points_at cut_ring
ringing_start t w src at n face cap caps h = record { upto = omega arith; few = omega arith; few_caps = h; face_size = refl; cap_size = refl; is = refl }

module _ (t : Precision) (w : Plane) (src : List Float) (at n : ℕ) (face₀ cap₀ : List Float) (caps : ℕ) (s : Ringed) (o : Outcome Ringed) (face cap face' cap' : List Float) (i : ℕ) (a b : Point3)
    (h : i < n) (ea : a ≡ point_at src (at + 3 * i)) (eb : b ≡ point_at src (at + 3 * ((i + 1) % n))) (g : Step (λ x. cut_edge t w x (record { from = a; to = b })) s o face cap face' cap')
    (k : Ringing t w src at n face₀ cap₀ caps s face cap i) where
  ringing_onward : onward (cut_edge t w) (ring_of o face' cap') (drop (i + 1) (cyclic (points_at src at n))) ≡ cut_ring t w (points_at cap₀ 0 caps) (points_at src at n)
  ringing_onward =
      let f = cut_edge t w in
      let l = drop (i + 1) (cyclic (points_at src at n)) in
      let e : ring_of o face' cap' ≡ then (ring_of (Ok s) face cap) (λ x. cut_edge t w x (record { from = point_at src (at + 3 * i); to = point_at src (at + 3 * ((i + 1) % n)) })) =
      g.is ∙ ap (λ p. then (ring_of (Ok s) face cap) (λ x. cut_edge t w x (record { from = p; to = b }))) ea
      ∙ ap (λ q. then (ring_of (Ok s) face cap) (λ x. cut_edge t w x (record { from = point_at src (at + 3 * i); to = q }))) eb in
      ap (λ o. onward (cut_edge t w) o l) e
      ∙ onward_next (cut_edge t w) (ring_of (Ok s) face cap) (record { from = point_at src (at + 3 * i); to = point_at src (at + 3 * ((i + 1) % n)) }) l
      ∙ ap (λ m. onward (cut_edge t w) (ring_of (Ok s) face cap) m) (sym (next_corner src at n i h))
      ∙ k.is

  pub ringing_step : (r : Ringed) → o ≡ Ok r → length face' ≡ length face → length cap' ≡ length cap → Ringing t w src at n face₀ cap₀ caps r face' cap' (i + 1)
  ringing_step r e lf lc =
      let b : Bounded (Ok r) = subst Bounded e g.few in
      record {
        upto = omega arith;
        few = b.0;
        few_caps = b.1;
        face_size = lf ∙ k.face_size;
        cap_size = lc ∙ k.cap_size;
        is = ap (λ x. onward (cut_edge t w) (ring_of x face' cap') (drop (i + 1) (cyclic (points_at src at n)))) (sym e) ∙ ringing_onward;
      }

  -- a refusal ends the loop
  pub ringing_stop : (k : Refusal) (r : Outcome Ringed) → o ≡ Err k → r ≡ Err k → Rung (cut_ring t w (points_at cap₀ 0 caps) (points_at src at n)) r face' cap'
  unfolding ring_of
  ringing_stop k r e er = record {
    is = ap (λ x. ring_of x face' cap') er ∙ ap (λ x. onward (cut_edge t w) (ring_of x face' cap') (drop (i + 1) (cyclic (points_at src at n)))) (sym e) ∙ ringing_onward;
    few = subst Bounded (sym er) tt;
  }

pub ringing_end : (t : Precision) (w : Plane) (src : List Float) (at n : ℕ) (face₀ cap₀ : List Float) (caps : ℕ) (s : Ringed) (face cap : List Float) (i : ℕ) → n ≤ i →
    Ringing t w src at n face₀ cap₀ caps s face cap i → Rung (cut_ring t w (points_at cap₀ 0 caps) (points_at src at n)) (Ok s) face cap
ringing_end t w src at n face₀ cap₀ caps s face cap i h k = record {
  is = sym (onward_end (cut_edge t w) (ring_of (Ok s) face cap)) ∙ ap (λ m. onward (cut_edge t w) (ring_of (Ok s) face cap) m) (sym (round_done src at n i h)) ∙ k.is;
  few = (k.few, k.few_caps);
}
