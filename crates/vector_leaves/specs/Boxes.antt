-- An array of three intervals at the front of a slice of any length. Definitions only.
use Rattle.std.specs.Prelude.{ℕ, cond, List, [], ◌∷◌, length, get_or, leb, ltb, Float}
use Rattle.std.proofs.lemmas.List.Edits.{sets}
use Rattle.std.specs.Float.{nan}
use Rattle.interval.specs.declared.Interval.{Interval}
use Rattle.interval.specs.Ends.{zero, point_i}
use Rattle.interval.specs.Box.{at}

-- the three intervals that a slice begins with; zeros where it is too short
abbrev pub ends_at : List Float → ℕ → ℕ → Interval
ends_at s i j = record { lo = get_or s i nan; hi = get_or s j nan }

unfoldable pub box_by : List Float → List Interval
box_by s = cond (ltb (length s) 6) (point_i zero ∷ point_i zero ∷ point_i zero ∷ []) (ends_at s 0 1 ∷ ends_at s 2 3 ∷ ends_at s 4 5 ∷ [])

-- the six ends of an array of three, where there is room for them
abbrev pub box_floats : List Interval → List Float
box_floats b = (at b 0).lo ∷ (at b 0).hi ∷ (at b 1).lo ∷ (at b 1).hi ∷ (at b 2).lo ∷ (at b 2).hi ∷ []

unfoldable pub box_stored : List Float → List Interval → List Float
box_stored s b = cond (leb 6 (length s)) (sets s 0 (box_floats b)) s
