-- An arrangement: up to 17; fusing: up to 23.
use Rattle.interval.specs.declared.Interval.{Interval}
use Rattle.refusal.specs.Outcome.{Outcome}
use Rattle.std.specs.Prelude.{ℕ, Ok, Err, Some, None, Option}
use mathlib.Core.List.{List, [], ◌∷◌}
use Rattle.bodies.specs.Fusing.{outer_first}
use Rattle.numbered.specs.Numbered.{Among, Numbered, answer, numbered_at}

-- ---- a point against an edge

-- an incidence that refuses has a number up to 16
abbrev pub Incident : Outcome (Option Interval) → Type 0
Incident (Ok None) = Unit {0}
Incident (Ok (Some w)) = Unit {0}
Incident (Err r) = Among 16 r

-- ---- shells and bodies

pub first_numbered : (outer inner : List (List ℕ)) → Numbered 23 (outer_first outer inner)
unfolding outer_first
first_numbered [] inner = numbered_at 23 tt tt
first_numbered (o ∷ os) inner = answer _
