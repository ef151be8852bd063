-- Laws of the turns of a face, in the words of the code.
use Rattle.refusal.specs.Outcome.{Outcome}
use Rattle.std.specs.Prelude.{◌≡◌, Bool, true, false, List, length, get_or, Ok, Err}
use Rattle.std.proofs.Math.Path.{sym, ap}
use Rattle.std.proofs.Common.{◌∙◌, mod-lt}
use Prim.Native.Nat.{ℕ, suc, ◌+◌, ◌-◌, ◌%◌, ◌≤◌, ◌<◌}
use native.Mathlib.Omega.{arith}
use Rattle.refusal.specs.declared.Refusal.{Refusal}
use Rattle.space.specs.declared.Point3.{Point3}
use Rattle.space.specs.declared.Plane.{Plane}
use Rattle.space.specs.declared.Precision.{Precision}
use Rattle.room.specs.Rooms.{counts_at}
use Rattle.turns.specs.declared.Projected.{Projected}
use Rattle.turns.specs.declared.Turn.{Turn}
use Rattle.turns.specs.Turns.{orientation_of}
use Rattle.solids.specs.Apart.{first_of}
use Rattle.solids.specs.Dents.{flat_of, flat_at, turn_at, not_dented, turns_from, face_turns, turns_if}
use Rattle.solids.specs.Frames.{point_of}
use Rattle.solids.specs.Laws.{first_go, first_stop}
use Rattle.solids.specs.Faces.{length_face, place_at}

-- the corner as it is read
pub flat_read : (w : Plane) (l : List ℕ) (ps : List Point3) (at n i : ℕ) {q : Point3} {r : Projected} → 0 < n → at + n ≤ length l →
    q ≡ point_of ps (get_or l (at + i % n) 0) → r ≡ flat_of w.frame q → r ≡ flat_at w (counts_at l at n) ps i
unfolding flat_at
flat_read w l ps at n i h k e g =
    g
    ∙ ap (flat_of w.frame)
    (e ∙ ap (point_of ps) (sym (place_at l at n (i % n) (mod-lt i h)) ∙ ap (λ m. get_or (counts_at l at n) (i % m) 0) (sym (length_face l at n k))))

-- of n turns, i are fine; a and b are the next two corners
pub record Turning (t : Precision) (w : Plane) (f : List ℕ) (ps : List Point3) (n i : ℕ) (a b : Projected) : Type 0 where
  pub upto : i ≤ n
  pub one : a ≡ flat_at w f ps i
  pub two : b ≡ flat_at w f ps (i + 1)
  pub rest : turns_from t w f ps (n - i) i ≡ turns_from t w f ps n 0

pub turning_start : (t : Precision) (w : Plane) (f : List ℕ) (ps : List Point3) (n : ℕ) {a b : Projected} → a ≡ flat_at w f ps 0 → b ≡ flat_at w f ps 1 → Turning t w f ps n 0 a b
turning_start t w f ps n p q =
    let z : n - 0 ≡ n = omega arith in
    record { upto = omega arith; one = p; two = q; rest = ap (λ k. turns_from t w f ps k 0) z }

module _ {t : Precision} {w : Plane} {f : List ℕ} {ps : List Point3} {n i : ℕ} {a b : Projected} (I : Turning t w f ps n i a b) where
  onward : i < n → first_of (not_dented (turn_at t w f ps i)) (turns_from t w f ps (n - (i + 1)) (i + 1)) ≡ turns_from t w f ps n 0
  unfolding turns_from
  onward h = let z : n - i ≡ suc (n - (i + 1)) = omega arith in ap (λ k. turns_from t w f ps k i) (sym z) ∙ I.rest

  -- the turn as it is worked out
  turn_is : {c : Projected} {s : Outcome Turn} {v u : Outcome Unit} → c ≡ flat_at w f ps (i + 2) → s ≡ orientation_of t a b c → v ≡ not_dented s → v ≡ u → not_dented (turn_at t w f ps i) ≡ u
  turn_is {c} e p q g =
      ap not_dented
      (ap (λ z. orientation_of t z (flat_at w f ps (i + 1)) (flat_at w f ps (i + 2))) (sym I.one) ∙ ap (λ z. orientation_of t a z (flat_at w f ps (i + 2))) (sym I.two) ∙ ap (orientation_of t a b) (sym e) ∙ sym p)
      ∙ sym q ∙ g

  pub turning_go : {c : Projected} {s : Outcome Turn} {v : Outcome Unit} → i < n → c ≡ flat_at w f ps (i + 2) → s ≡ orientation_of t a b c → v ≡ not_dented s → v ≡ Ok tt → Turning t w f ps n (i + 1) b c
  turning_go h e p q g =
      let z : i + 2 ≡ (i + 1) + 1 = omega arith in
      record {
        upto = omega arith;
        one = I.two;
        two = e ∙ ap (flat_at w f ps) z;
        rest = sym (first_go _ _ (turn_is e p q g)) ∙ onward h;
      }

  pub turning_stop : (r : Refusal) {c : Projected} {s : Outcome Turn} {v : Outcome Unit} → i < n → c ≡ flat_at w f ps (i + 2) → s ≡ orientation_of t a b c → v ≡ not_dented s → v ≡ Err r →
      turns_from t w f ps n 0 ≡ Err r
  turning_stop r h e p q g = sym (onward h) ∙ first_stop _ _ r (turn_is e p q g)

  pub turning_end : n ≤ i → turns_from t w f ps n 0 ≡ Ok tt
  unfolding turns_from
  turning_end h = let z : n - i ≡ 0 = omega arith in sym I.rest ∙ ap (λ k. turns_from t w f ps k i) z

pub turns_long : (t : Precision) (w : Plane) (l : List ℕ) (ps : List Point3) (at n : ℕ) → at + n ≤ length l → turns_from t w (counts_at l at n) ps n 0 ≡ face_turns t w (counts_at l at n) ps
unfolding face_turns
turns_long t w l ps at n h = ap (λ k. turns_from t w (counts_at l at n) ps k 0) (sym (length_face l at n h))

pub turns_none : (t : Precision) (w : Plane) (l : List ℕ) (ps : List Point3) (at n : ℕ) → at + n ≤ length l → n ≡ 0 → face_turns t w (counts_at l at n) ps ≡ Ok tt
unfolding turns_from
turns_none t w l ps at n h e = sym (turns_long t w l ps at n h) ∙ ap (λ k. turns_from t w (counts_at l at n) ps k 0) e

pub turns_given : (b : Bool) (t : Precision) (w : Plane) (f : List ℕ) (ps : List Point3) → b ≡ true → turns_if b t w f ps ≡ face_turns t w f ps
unfolding turns_if
turns_given b t w f ps h = ap (λ z. turns_if z t w f ps) h

pub turns_not : (b : Bool) (t : Precision) (w : Plane) (f : List ℕ) (ps : List Point3) → b ≡ false → turns_if b t w f ps ≡ Ok tt
unfolding turns_if
turns_not b t w f ps h = ap (λ z. turns_if z t w f ps) h
