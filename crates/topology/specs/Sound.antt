-- Laws of the whole test, in the words of the code.
use Rattle.std.specs.Prelude.{◌≡◌, refl, Bool, ◌&&◌, cond, length}
use Rattle.std.proofs.Math.Path.{sym, ap, ap₂}
use Rattle.std.proofs.Common.{◌∙◌, subst, arith, length-take}
use Rattle.std.proofs.Math.Bool.{true, false}
use mathlib.Core.List.{List, [], ◌∷◌, ◌++◌, map}
use Prim.Native.Nat.{ℕ, zero, suc, ◌+◌, ◌≤◌, ◌<◌}
use Rattle.std.proofs.Math.Dec.{eqb}
use Rattle.lists.specs.Walks.{Pair, cyclic, all}
use Rattle.sums.specs.Sum.{Each}
use Rattle.sums.specs.Components.{components}
use Rattle.groups.specs.Chain.{up_from}
use Rattle.groups.specs.Groups.{joins_of, Within}
use Rattle.room.specs.Rooms.{counts_at}
use Rattle.solids.specs.Sides.{has}
use Rattle.solids.specs.Frames.{faces_at}
use Rattle.solids.specs.Faces.{length_faces_at}
use Rattle.topology.specs.Topology.{Corner, corner_of, corners_of, fits, used_all, face_with, joins, connected, rounded, sound_by, sound}
use Rattle.topology.specs.Corners.{corners_at}
use Rattle.topology.specs.Laws.{length_corners_at, points_are}

-- ---- every face that is named is one of n

module _ (n : ℕ) where
  abbrev pub Below : Corner → Type 0
  Below c = c.face < n

  each_both : (a b : List Corner) → Each Below a → Each Below b → Each Below (a ++ b)
  each_both [] b p q = q
  each_both (c ∷ a) b p q = (p.0, each_both a b p.1 q)

  each_edge : (k : ℕ) (l : List (Pair ℕ)) → k < n → Each Below (map (corner_of k) l)
  each_edge k [] h = tt
  each_edge k (e ∷ l) h = (h, each_edge k l h)

  pub corners_below : (k : ℕ) (fs : List (List ℕ)) → k + length fs ≤ n → Each Below (corners_of k fs)
  unfolding corners_of
  corners_below k [] h = tt
  corners_below k (f ∷ fs) h = each_both (map (corner_of k) (cyclic f)) (corners_of (suc k) fs) (each_edge k (cyclic f) (omega arith)) (corners_below (suc k) fs (omega arith))

  either : (b : Bool) (x y : ℕ) → x < n → y < n → cond b x y < n
  either true x y h g = h
  either false x y h g = g

  pub face_below : (a b f : ℕ) (cs : List Corner) → f < n → Each Below cs → face_with a b f cs < n
  unfolding face_with
  face_below a b f [] h e = h
  face_below a b f (c ∷ cs) h e = face_below a b (cond (eqb c.point a && eqb c.next b) c.face f) cs (either (eqb c.point a && eqb c.next b) c.face f e.0 h) e.1

  joins_below : (cs l : List Corner) → Each Below cs → Each Below l → Within (joins cs l) n
  unfolding joins
  joins_below cs [] e g k h = absurd (omega arith)
  joins_below cs (c ∷ l) e g zero h = g.0
  joins_below cs (c ∷ l) e g (suc zero) h = face_below c.next c.point c.face cs g.0 e
  joins_below cs (c ∷ l) e g (suc (suc k)) h = joins_below cs l e g.1 k (omega arith)

pub faces_many : (l counts : List ℕ) (n : ℕ) → n ≤ length counts → length (faces_at l 0 (counts_at counts 0 n)) ≡ n
faces_many l counts n h = length_faces_at l 0 (counts_at counts 0 n) ∙ length-take n counts ∙ omega arith

-- ---- the faces of a solid in slices, whose c corners are laid

module _ (ps counts ns fs : List ℕ) (n c m : ℕ) (room : n ≤ length counts) (laid : corners_at ps ns fs 0 c ≡ corners_of 0 (faces_at ps 0 (counts_at counts 0 n))) where
  pub ends_within : (e : List ℕ) → e ≡ joins (corners_at ps ns fs 0 c) (corners_at ps ns fs 0 c) → Within e n
  ends_within e h =
      let k : 0 + length (faces_at ps 0 (counts_at counts 0 n)) ≤ n = omega (arith, faces_many ps counts n room) in
      let b = subst (Each (Below n)) (sym laid) (corners_below n 0 (faces_at ps 0 (counts_at counts 0 n)) k) in
      subst (λ l. Within l n) (sym h) (joins_below n (corners_at ps ns fs 0 c) (corners_at ps ns fs 0 c) b b)

  is_sound : sound m (faces_at ps 0 (counts_at counts 0 n)) ≡ sound_by m n (corners_at ps ns fs 0 c)
  unfolding sound
  is_sound = ap₂ (sound_by m) (faces_many ps counts n room) (sym laid)

  is_rounded : rounded m n (length (corners_at ps ns fs 0 c)) ≡ rounded m n c
  is_rounded = ap (rounded m n) (length_corners_at ps ns fs 0 c)

  no : (b : Bool) → b && false ≡ false
  no true = refl
  no false = refl

  yes : (b : Bool) → b && true ≡ b
  yes true = refl
  yes false = refl

  pub sound_not : rounded m n c ≡ false → false ≡ sound m (faces_at ps 0 (counts_at counts 0 n))
  unfolding sound_by
  sound_not r =
      let b = (all (fits m (corners_at ps ns fs 0 c)) true (corners_at ps ns fs 0 c) && used_all m (corners_at ps ns fs 0 c)) && connected n (corners_at ps ns fs 0 c) in
      sym (is_sound ∙ ap (λ z. ((all (fits m (corners_at ps ns fs 0 c)) true (corners_at ps ns fs 0 c) && used_all m (corners_at ps ns fs 0 c)) && connected n (corners_at ps ns fs 0 c)) && z) (is_rounded ∙ r) ∙ no b)

  pub sound_is : (fit used one : Bool) (e : List ℕ) → c ≤ length ps → rounded m n c ≡ true → fit ≡ all (fits m (corners_at ps ns fs 0 c)) true (corners_at ps ns fs 0 c) →
      used ≡ all (λ x. has x false (counts_at ps 0 c)) true (up_from 0 m) → e ≡ joins (corners_at ps ns fs 0 c) (corners_at ps ns fs 0 c) →
      one ≡ eqb (length (components n (joins_of e))) 1 → (fit && used) && one ≡ sound m (faces_at ps 0 (counts_at counts 0 n))
  unfolding sound_by used_all connected
  sound_is fit used one e h r a b g d =
      let cs = corners_at ps ns fs 0 c in
      sym (is_sound
      ∙ ap (λ z. ((all (fits m cs) true cs && used_all m cs) && connected n cs) && z) (is_rounded ∙ r)
      ∙ yes ((all (fits m cs) true cs && used_all m cs) && connected n cs)
      ∙ ap (λ z. (z && used_all m cs) && connected n cs) (sym a)
      ∙ ap (λ z. (fit && z) && connected n cs) (ap (λ l. all (λ x. has x false l) true (up_from 0 m)) (points_are ps ns fs c h) ∙ sym b)
      ∙ ap (λ z. (fit && used) && z) (ap (λ l. eqb (length (components n (joins_of l))) 1) (sym g) ∙ sym d))
