-- A stepped difference has two different ends, so that its sign is never Zero. Assumes nothing.
use Rattle.std.specs.Prelude.{◌≡◌, refl, Bool, true, false, not, ◌&&◌, cond, ℕ, ◌≤◌, Float}
use Rattle.std.proofs.Common.{sym, ap, ◌∙◌, subst, arith, eqb→eq}
use Rattle.std.proofs.Math.Dec.{T}
use Rattle.std.specs.Float.Ieee.{nan, binary64, is_nan, lt, eq, add}
use Rattle.std.specs.Float.{inf, fin}
use Rattle.std.specs.Float.Ieee.Fits.{add-fits}
use Rattle.refusal.specs.Tests.{and_true}
use Rattle.float.specs.Float.{sign_bit, next_up, next_down, finite}
use Rattle.float.proofs.Places.{place, Number, le_at, eq_is, within, up_number, up_place, down_number, down_place, zero_number, zero_place}
use Rattle.float.proofs.Sums.{add_mono}
use Rattle.interval.specs.declared.Interval.{Interval}
use Rattle.interval.specs.declared.Sign.TheVariants.{Positive, Negative, Zero, Unknown}
use Rattle.interval.specs.Ends.{zero, add_i, sub_i, sign_of}
use Rattle.interval.specs.Exact.{Bounded}
use Rattle.interval.proofs.Laws.{Ordered, opposite, minus_is, opposite_ordered}
use Rattle.interval.proofs.Sound.{Ended, ended}

zero_ends : (a : Interval) → sign_of a ≡ Zero → (eq a.lo zero ≡ true) × (eq a.hi zero ≡ true)
unfolding sign_of
zero_ends a h = and_true (eq a.lo zero) (eq a.hi zero) (go (lt zero a.lo) (lt a.hi zero) (eq a.lo zero && eq a.hi zero) h)
  where
    go : (p n z : Bool) → cond p Positive (cond n Negative (cond z Zero Unknown)) ≡ Zero → z ≡ true
    go true n z h = let q : ◌≡◌ {A = ℕ} 0 1 = cc in absurd (omega arith)
    go false true z h = let q : ◌≡◌ {A = ℕ} 0 1 = cc in absurd (omega arith)
    go false false true h = refl
    go false false false h = let q : ◌≡◌ {A = ℕ} 0 1 = cc in absurd (omega arith)

zero_at : {x : Float} → Number x → eq x zero ≡ true → place x ≡ sign_bit
zero_at {x} X e = eqb→eq (place x) (place zero) (subst T (sym e ∙ eq_is X zero_number) tt) ∙ zero_place

never_zero : {l h : Float} → Number l → Number h → place l ≤ place h → Ended l h → sign_of (record { lo = next_down l; hi = next_up h }) ≡ Zero
    → ⊥
never_zero {l} {h} L H o E e =
    let z = zero_ends (record { lo = next_down l; hi = next_up h }) e in
    let i = zero_at (down_number L) z.0 in
    let j = zero_at (up_number H) z.1 in
    let d = down_place L (within l L.held E.low).0 in
    let u = up_place H (within h H.held E.high).1 in
    omega arith

module _ (a c : Interval) (p : Ordered a) (r : Ordered c) where
  abbrev low : Float
  low = add binary64 a.lo c.lo

  abbrev high : Float
  high = add binary64 a.hi c.hi

  low_number : T (not (is_nan low)) → Number low
  low_number i = record { held = add-fits binary64 a.lo c.lo; real = i }

  high_number : T (not (is_nan high)) → Number high
  high_number j = record { held = add-fits binary64 a.hi c.hi; real = j }

  rise : T (not (is_nan low)) → T (not (is_nan high)) → place low ≤ place high
  rise i j =
      le_at (low_number i) (high_number j)
      (add_mono a.lo a.hi c.lo c.hi p.lo_held p.hi_held r.lo_held r.hi_held i j p.order r.order)

  add_never_zero : Bounded (add_i a c) → sign_of (add_i a c) ≡ Zero → ⊥
  unfolding add_i is_nan
  add_never_zero B z =
      let E = ended low high (add-fits binary64 a.lo c.lo) (add-fits binary64 a.hi c.hi) rise B in
      let i = real low E.low in
      let j = real high E.high in
      never_zero (low_number i) (high_number j) (rise i j) E (ap sign_of (sym E.is) ∙ z)
    where
      real : (x : Float) → T (finite x) → T (not (is_nan x))
      real nan k = absurd k
      real (inf s) k = absurd k
      real (fin s m e) k = tt

pub sub_never_zero : (a b : Interval) → Ordered a → Ordered b → Bounded (sub_i a b) → sign_of (sub_i a b) ≡ Zero → ⊥
sub_never_zero a b p q F e =
    add_never_zero a (opposite b) p (opposite_ordered b q) (subst Bounded (minus_is a b) F) (ap sign_of (sym (minus_is a b)) ∙ e)
