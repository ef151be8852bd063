-- The two ways through each function that looks whether a slice is long enough.
use mathlib.Core.Path.{◌≡◌, sym, ap, ◌∙◌}
use mathlib.Core.Bool.{cond}
use mathlib.Core.List.{List, [], ◌∷◌}
use Prim.Native.Nat.{◌≤◌, ◌<◌}
use lib.ListN.{length}
use lib.Seq.{sets}
use lib.Ieee.{Float}
use borrow.Author.Tests.{lt-leb, le-leb, lt-ltb, le-ltb}
use Rattle.interval.specs.declared.Interval.{Interval}
use Rattle.interval.specs.Ends.{zero, point_i}
use Rattle.interval.specs.Box.{at}
use Rattle.vector_leaves.specs.Boxes.{ends_at, box_by, box_floats, box_stored}

abbrev none : List Interval
none = point_i zero ∷ point_i zero ∷ point_i zero ∷ []

abbrev front : List Float → List Interval
front s = ends_at s 0 1 ∷ ends_at s 2 3 ∷ ends_at s 4 5 ∷ []

pub box_none : (s : List Float) (o : Interval) → length s < 6 → o ≡ point_i zero → (o ∷ o ∷ o ∷ []) ≡ box_by s
unfolding box_by
box_none s o h e = ap (λ i. i ∷ i ∷ i ∷ []) e ∙ sym (ap (λ b. cond b none (front s)) (lt-ltb _ _ h))

pub box_read : (s : List Float) → 6 ≤ length s → front s ≡ box_by s
unfolding box_by
box_read s h = sym (ap (λ b. cond b none (front s)) (le-ltb _ _ h))

pub box_fits : (s s₁ s₂ : List Float) (b : List Interval) → 6 ≤ length s → s₁ ≡ sets s 0 ((at b 0).lo ∷ (at b 0).hi ∷ (at b 1).lo ∷ []) →
    s₂ ≡ sets s₁ 3 ((at b 1).hi ∷ (at b 2).lo ∷ (at b 2).hi ∷ []) → s₂ ≡ box_stored s b
unfolding box_stored
box_fits s s₁ s₂ b h e f =
    f ∙ ap (λ l. sets l 3 ((at b 1).hi ∷ (at b 2).lo ∷ (at b 2).hi ∷ [])) e ∙ sym (ap (λ t. cond t (sets s 0 (box_floats b)) s) (le-leb _ _ h))

pub box_short : (s : List Float) (b : List Interval) → length s < 6 → s ≡ box_stored s b
unfolding box_stored
box_short s b h = sym (ap (λ t. cond t (sets s 0 (box_floats b)) s) (lt-leb _ _ h))
