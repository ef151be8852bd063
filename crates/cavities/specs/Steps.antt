-- The search for the outward shell, in the words of the code.
use Rattle.std.specs.Prelude.{◌≡◌, List, [], ℕ, ◌+◌, ◌-◌, ◌≤◌, ◌<◌, Float, get_or, take, drop, Option, None, Some, Ok, Err}
use Rattle.std.proofs.Common.{sym, ap, ◌∙◌, take-add, drop_at, length-take-le, get_or-drop, get_or-take}
use Rattle.std.proofs.Math.Path.{subst}
use native.Mathlib.Omega.{arith}
use Rattle.std.proofs.Math.ListN.{length}
use Rattle.std.proofs.Math.Seq.{slice, length-slice}
use Rattle.refusal.specs.declared.Refusal.{Refusal}
use Rattle.refusal.specs.Outcome.{Outcome, refusal_of}
use Rattle.keys.specs.Rows.{Starts, rows, row_at, length_rows}
use Rattle.bodies.specs.Fusing.{Sense}
use Rattle.volume.specs.declared.Sensed.{Sensed}
use Rattle.volume.specs.declared.Sensed.TheVariants as W
use Rattle.volume.specs.Volume.{volume_sign, sensed}
use Rattle.volume.specs.Shell.{shell_points, Facets}
use Rattle.cavities.specs.Outer.{Ordered, Part, part_start, part_refused, part_first, part_second, part_inward, end_found, end_none}

-- The certified sense of a shell of facets.
abbrev pub volume_of : List Float → List ℕ → List ℕ → List ℕ → Outcome Sense
volume_of ps v starts g = volume_sign (shell_points ps v starts g)

-- The outward shell that is met so far, after shell k.
unfoldable pub placed_at : Sensed → ℕ → Option ℕ → Outcome (Option ℕ)
placed_at W.Outward k (Some o) = Err (refusal_of 22)
placed_at W.Outward k None = Ok (Some k)
placed_at W.Inward k s = Ok s

-- 23 where there is no outward shell.
unfoldable pub ended_at : Option ℕ → Outcome ℕ
ended_at (Some o) = Ok o
ended_at None = Err (refusal_of 23)

-- The shells in slices: each has a facet, and each facet has a vertex.
pub record Shelled (v starts : List ℕ) (f : ℕ) (d c : List ℕ) (g : ℕ) : Type 0 where
  pub fine : Starts v starts f
  pub some : (k : ℕ) → k < f → get_or starts k 0 < get_or starts (k + 1) 0
  pub groups : Starts d c g
  pub full : (k : ℕ) → k < g → get_or c k 0 < get_or c (k + 1) 0
  pub inn : (k : ℕ) → k < get_or c g 0 → get_or d k 0 < f
  pub upto : (k : ℕ) → k < g → get_or c (k + 1) 0 ≤ get_or c g 0

-- a part of a slice, as it is lent
pub part_slice : (a e : ℕ) (d : List ℕ) → a ≤ e → e ≤ length d → take (e - a) (drop a d) ≡ slice a e d
part_slice a e d h l =
    let z : a + (e - a) ≡ e = omega arith in
    sym (drop_at (take a d) (take (e - a) (drop a d)) a (length-take-le a d (omega arith))) ∙ ap (drop a) (sym (take-add a (e - a) d)) ∙ ap (λ n. drop a (take n d)) z

pub part_facets : (v starts : List ℕ) (a e : ℕ) (d : List ℕ) → a ≤ e → e ≤ length d → Facets v starts (slice a e d) → Facets v starts (take (e - a) (drop a d))
part_facets v starts a e d h l w = subst (Facets v starts) (sym (part_slice a e d h l)) w

pub part_sense : (ps : List Float) (v starts : List ℕ) (a e : ℕ) (d : List ℕ) (r : Outcome Sensed) → a ≤ e → e ≤ length d → sensed r ≡ volume_of ps v starts (take (e - a) (drop a d)) → sensed r ≡ volume_of ps v starts (slice a e d)
part_sense ps v starts a e d r h l q = q ∙ ap (volume_of ps v starts) (part_slice a e d h l)

module _ (v starts : List ℕ) (f : ℕ) (d c : List ℕ) (g : ℕ) (s : Shelled v starts f d c g) where
  pub shell_start : (k : ℕ) → k < g → k < length c
  shell_start k h = omega (arith, s.groups.many)

  pub shell_next : (k : ℕ) → k < g → k + 1 < length c
  shell_next k h = omega (arith, s.groups.many)

  pub shell_up : (k : ℕ) → k < g → get_or c k 0 ≤ get_or c (k + 1) 0
  shell_up k h = s.groups.up k h

  pub shell_end : (k : ℕ) → k < g → get_or c (k + 1) 0 ≤ length d
  shell_end k h = s.groups.inn k h

  pub shell_facets : (k : ℕ) → k < g → Facets v starts (slice (get_or c k 0) (get_or c (k + 1) 0) d)
  shell_facets k h = record {
    f = f;
    starts_fine = s.fine;
    inn = λ j l. inside j l;
    some = λ j l. s.some (get_or (slice (get_or c k 0) (get_or c (k + 1) 0) d) j 0) (inside j l);
    first = omega (arith, len, s.full k h);
  }
    where
      len : length (slice (get_or c k 0) (get_or c (k + 1) 0) d) ≡ get_or c (k + 1) 0 - get_or c k 0
      len = length-slice (get_or c k 0) (get_or c (k + 1) 0) d (s.groups.inn k h)

      inside : (j : ℕ) → j < length (slice (get_or c k 0) (get_or c (k + 1) 0) d) → get_or (slice (get_or c k 0) (get_or c (k + 1) 0) d) j 0 < f
      inside j l = omega (arith, get_or-drop (get_or c k 0) (take (get_or c (k + 1) 0) d) j 0, get_or-take (get_or c (k + 1) 0) d (get_or c k 0 + j) 0 (omega (arith, len)), s.inn (get_or c k 0 + j) (omega (arith, len, s.upto k h)))

-- The loop.
abbrev pub Seeking : List Float → List ℕ → List ℕ → List ℕ → List ℕ → ℕ → Option ℕ → ℕ → Type 0
Seeking ps v starts d c g s k = Part (volume_of ps v starts) (rows d c g) s k

module _ (ps : List Float) (v starts d c : List ℕ) (g : ℕ) where
  pub seeking_start : Seeking ps v starts d c g None 0
  seeking_start = part_start (volume_of ps v starts) (rows d c g)

  module _ (s : Option ℕ) (k : ℕ) (h : k < g) (w : Seeking ps v starts d c g s k) (r : Outcome Sensed) (e : sensed r ≡ volume_of ps v starts (slice (get_or c k 0) (get_or c (k + 1) 0) d)) where
    inn : k < length (rows d c g)
    inn = omega (arith, length_rows d c g)

    vol : volume_of ps v starts (get_or (rows d c g) k []) ≡ sensed r
    vol = ap (volume_of ps v starts) (row_at d c g k h) ∙ sym e

    -- a shell that is neither outward nor inward
    pub seeking_stopped : (y : Refusal) (u : Outcome ℕ) → r ≡ Err y → u ≡ Err y → Ordered (volume_of ps v starts) (rows d c g) u
    unfolding sensed
    seeking_stopped y u z q = subst (Ordered (volume_of ps v starts) (rows d c g)) (sym q) (part_refused (volume_of ps v starts) (rows d c g) s k inn w y (vol ∙ ap sensed z))

    -- what one shell leaves
    Left : Outcome (Option ℕ) → Type 0
    Left (Ok t) = Part (volume_of ps v starts) (rows d c g) t (k + 1)
    Left (Err y) = Ordered (volume_of ps v starts) (rows d c g) (Err y)

    turn : (x : Sensed) (s : Option ℕ) → Part (volume_of ps v starts) (rows d c g) s k → volume_of ps v starts (get_or (rows d c g) k []) ≡ sensed (Ok x) → Left (placed_at x k s)
    unfolding placed_at sensed Left
    turn W.Outward (Some o) w e = part_second (volume_of ps v starts) (rows d c g) k inn o w e
    turn W.Outward None w e = part_first (volume_of ps v starts) (rows d c g) k inn w e
    turn W.Inward s w e = part_inward (volume_of ps v starts) (rows d c g) k inn s w e

    module _ (x : Sensed) (z : r ≡ Ok x) (o : Outcome (Option ℕ)) (q : o ≡ placed_at x k s) where
      left : Left o
      left = subst Left (sym q) (turn x s w (vol ∙ ap sensed z))

      pub seeking_step : (t : Option ℕ) → o ≡ Ok t → Seeking ps v starts d c g t (k + 1)
      unfolding Left
      seeking_step t a = subst Left a left

      pub seeking_refused : (y : Refusal) (u : Outcome ℕ) → o ≡ Err y → u ≡ Err y → Ordered (volume_of ps v starts) (rows d c g) u
      unfolding Left
      seeking_refused y u a b = subst (Ordered (volume_of ps v starts) (rows d c g)) (sym b) (subst Left a left)

  pub seeking_end : (s : Option ℕ) (k : ℕ) (u : Outcome ℕ) → g ≤ k → Seeking ps v starts d c g s k → u ≡ ended_at s → Ordered (volume_of ps v starts) (rows d c g) u
  unfolding ended_at
  seeking_end s k u h w q = subst (Ordered (volume_of ps v starts) (rows d c g)) (sym q) (turn s w)
    where
      many : length (rows d c g) ≤ k
      many = omega (arith, length_rows d c g)

      turn : (s : Option ℕ) → Part (volume_of ps v starts) (rows d c g) s k → Ordered (volume_of ps v starts) (rows d c g) (ended_at s)
      turn (Some o) w = end_found (volume_of ps v starts) (rows d c g) k many o w
      turn None w = end_none (volume_of ps v starts) (rows d c g) k many w
