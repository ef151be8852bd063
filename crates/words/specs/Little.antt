-- Numbers as bytes, the lowest first (01, "Job file": little-endian). Definitions only.
use Rattle.std.specs.Prelude.{ℕ, zero, suc, ◌+◌, ◌*◌, ◌/◌, ◌%◌, List, [], ◌∷◌, take, drop, Float}
use Rattle.std.specs.Float.{binary64}
use Rattle.std.specs.Float.Ieee.{to_bits, of_bits}

-- the number that bytes stand for
unfoldable pub little : List ℕ → ℕ
little [] = 0
little (b ∷ l) = b + 256 * little l

-- the n lowest bytes of a number
unfoldable pub digits : ℕ → ℕ → List ℕ
digits zero x = []
digits (suc n) x = x % 256 ∷ digits n (x / 256)

-- the number, and the f64, that stands in a list from a place on; bytes past its end count as 0
unfoldable pub index_at : List ℕ → ℕ → ℕ
index_at l at = little (take 2 (drop at l))

unfoldable pub word_at : List ℕ → ℕ → ℕ
word_at l at = little (take 8 (drop at l))

unfoldable pub float_at : List ℕ → ℕ → Float
float_at l at = of_bits binary64 (word_at l at)

-- the bytes of an f64; those of a NaN are always the quiet one's
unfoldable pub float_bytes : Float → List ℕ
float_bytes x = digits 8 (to_bits binary64 x)
