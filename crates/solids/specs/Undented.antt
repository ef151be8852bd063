-- What a fine shape of a given solid says of its faces: at no corner does one turn right, and at none is the turn unresolved.
use Rattle.std.specs.Prelude.{◌≡◌, refl, true, List, [], ◌∷◌, length, Ok, Err}
use Rattle.std.proofs.Math.Path.{subst}
use Prim.Native.Nat.{ℕ, zero, suc, ◌+◌, ◌<◌}
use native.Mathlib.Omega.{arith}
use Rattle.refusal.specs.declared.Refusal.{Refusal}
use Rattle.refusal.specs.Outcome.{Outcome}
use Rattle.refusal.specs.Laws.{never_fine}
use Rattle.space.specs.declared.Point3.{Point3}
use Rattle.space.specs.declared.Plane.{Plane}
use Rattle.space.specs.declared.Precision.{Precision}
use Rattle.polygon.specs.Members.{All}
use Rattle.turns.specs.declared.Turn.{Turn}
use Rattle.turns.specs.declared.Turn.TheVariants as T
use Rattle.solids.specs.Apart.{each_in, apart_all}
use Rattle.solids.specs.Sides.{face_sides}
use Rattle.solids.specs.Dents.{not_dented, turn_at, turns_from, face_turns, turns_if}
use Rattle.solids.specs.Frames.{plane_for, framed_all, sides_by, sides_all}
use Rattle.solids.specs.Order.{shaped}
use Rattle.solids.specs.Laws.{first_fine}

-- of each three consecutive corners of a face, round it, in the coordinates of its own plane: none is certified to turn right, and none is
-- unresolved
pub record Undented (t : Precision) (ps : List Point3) (f : List ℕ) : Type 0 where
  pub plane : Plane
  pub own : plane_for t ps f ≡ Ok plane
  pub not_right : (i : ℕ) → i < length f → turn_at t plane f ps i ≡ Ok T.Negative → ⊥
  pub resolved : (i : ℕ) → i < length f → (r : Refusal) → turn_at t plane f ps i ≡ Err r → ⊥

never_right : (s : Outcome Turn) → not_dented s ≡ Ok tt → s ≡ Ok T.Negative → ⊥
unfolding not_dented
never_right s h e = never_fine (subst (λ x. not_dented x ≡ Ok tt) e h)

never_open : (s : Outcome Turn) → not_dented s ≡ Ok tt → (r : Refusal) → s ≡ Err r → ⊥
unfolding not_dented
never_open s h r e = never_fine (subst (λ x. not_dented x ≡ Ok tt) e h)

-- ---- each of the turns that are fine together

module _ (t : Precision) (w : Plane) (f : List ℕ) (ps : List Point3) where
  turn_fine : (k i j : ℕ) → turns_from t w f ps k i ≡ Ok tt → j < k → not_dented (turn_at t w f ps (i + j)) ≡ Ok tt
  unfolding turns_from
  turn_fine zero i j h l = absurd (omega arith)
  turn_fine (suc k) i zero h l =
      let p : i ≡ i + 0 = omega arith in
      subst (λ x. not_dented (turn_at t w f ps x) ≡ Ok tt) p (first_fine _ _ h).0
  turn_fine (suc k) i (suc j) h l =
      let p : (i + 1) + j ≡ i + suc j = omega arith in
      let m : j < k = omega arith in
      subst (λ x. not_dented (turn_at t w f ps x) ≡ Ok tt) p (turn_fine k (i + 1) j (first_fine _ _ h).1 m)

  turns_fine : (i : ℕ) → face_turns t w f ps ≡ Ok tt → i < length f → not_dented (turn_at t w f ps i) ≡ Ok tt
  unfolding face_turns
  turns_fine i h l = let p : 0 + i ≡ i = omega arith in subst (λ x. not_dented (turn_at t w f ps x) ≡ Ok tt) p (turn_fine (length f) 0 i h l)

-- ---- one face, and all of them

face_undented : (t : Precision) (ps : List Point3) (f : List ℕ) (o : Outcome Plane) → plane_for t ps f ≡ o → sides_by true t o f ps ≡ Ok tt → Undented t ps f
unfolding sides_by turns_if
face_undented t ps f (Ok w) e h =
    let g = (first_fine (face_sides t w f ps) (turns_if true t w f ps) h).1 in
    record {
      plane = w;
      own = e;
      not_right = λ i l. never_right _ (turns_fine t w f ps i g l);
      resolved = λ i l. never_open _ (turns_fine t w f ps i g l);
    }
face_undented t ps f (Err r) e h = never_fine h

all_undented : (t : Precision) (ps : List Point3) (fs : List (List ℕ)) → sides_all true t ps fs ≡ Ok tt → All (Undented t ps) fs
unfolding sides_all each_in All
all_undented t ps [] h = tt
all_undented t ps (f ∷ fs) h =
    let p = first_fine (sides_by true t (plane_for t ps f) f ps) (sides_all true t ps fs) h in
    (face_undented t ps f (plane_for t ps f) refl p.0, all_undented t ps fs p.1)

pub shaped_undented : (t : Precision) (ps : List Point3) (fs : List (List ℕ)) → shaped true t ps fs ≡ Ok tt → All (Undented t ps) fs
unfolding shaped
shaped_undented t ps fs h = all_undented t ps fs (first_fine (apart_all t ps) _ (first_fine (framed_all t ps fs) _ h).1).1
