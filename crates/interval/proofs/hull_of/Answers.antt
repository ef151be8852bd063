use mathlib.Core.Path.{◌≡◌, sym, ap, ◌∙◌}
use mathlib.Core.Bool.{Bool, ◌||◌}
use Rattle.interval.specs.Ends.{hull_of}
use Rattle.interval.proofs.hull_of.Goals as goal

-- what was told of either pair is told of all four
tested : (x y a b : Bool) → x ≡ a → y ≡ b → (x || y) ≡ (a || b)
tested x y a b h k = ap (λ u. u || y) h ∙ ap (λ u. a || u) k

pub returns-then-either_nan : goal.returns-then-either_nan
unfolding hull_of
returns-then-either_nan c = simp (c.whole.ensures, sym (tested _ _ _ _ c.either_nan.ensures c.either_nan-2.ensures) ∙ c.if-either_nan.true)

pub returns : goal.returns
unfolding hull_of
returns c = let b = c in
    simp (
      c.outward.ensures,
      c.greater-3.ensures,
      c.greater-2.ensures,
      c.greater.ensures,
      c.lesser-3.ensures,
      c.lesser-2.ensures,
      c.lesser.ensures,
      sym (tested _ _ _ _ b.either_nan.ensures b.either_nan-2.ensures) ∙ b.if-either_nan.false,
    )
