-- The places of the corners that are left. Definitions only.
use Rattle.std.specs.Prelude.{ℕ, zero, suc, ◌+◌, ◌-◌, ◌%◌, cond, List, [], ◌∷◌, ◌++◌, length, take, get_or, replicate, ltb}
use Rattle.ears.specs.declared.Active.{Active}
use Rattle.ears.specs.declared.Triangle.{Triangle}

-- ---- how a list of at most 128 places lies in an Active

abbrev pub places_of : Active → List ℕ
places_of a = take a.n a.at

abbrev pub padded : List ℕ → List ℕ
padded l = l ++ replicate (128 - length l) 0

abbrev pub active : List ℕ → Active
active l = record { at = padded l; n = length l }

-- ---- lists of places

-- k places from i on
unfoldable pub up_from : ℕ → ℕ → List ℕ
up_from i zero = []
up_from i (suc k) = i ∷ up_from (suc i) k

-- a list without its place i
unfoldable pub without : ℕ → List ℕ → List ℕ
without zero [] = []
without zero (x ∷ l) = l
without (suc i) [] = []
without (suc i) (x ∷ l) = x ∷ without i l

-- where place j of a list without its place i was
abbrev pub past_of : ℕ → ℕ → ℕ
past_of i j = cond (ltb j i) j (j + 1)

-- the corner at i of n between its neighbours, round
abbrev pub window_in : List ℕ → ℕ → ℕ → Triangle
window_in l n i = record { a = get_or l ((i + n - 1) % n) 0; b = get_or l i 0; c = get_or l ((i + 1) % n) 0 }

unfoldable pub window_at : List ℕ → ℕ → Triangle
window_at l i = window_in l (length l) i
