-- Zeroed slices.
use Rattle.std.specs.Prelude.{◌≡◌, List, ℕ, length, replicate, Float}
use Rattle.std.proofs.Common.{ap}
use Rattle.std.specs.Float.Ieee.{of_bits}
use Rattle.std.specs.Float.{binary64}

unfoldable pub zeros : List ℕ → List ℕ
zeros l = replicate (length l) 0

unfoldable pub zero_floats : List Float → List Float
zero_floats l = replicate (length l) (of_bits binary64 0)

-- of a slice that was lent before: its length is what it was
pub zeros_same : (a b : List ℕ) → length a ≡ length b → zeros a ≡ zeros b
unfolding zeros
zeros_same a b e = ap (λ n. replicate n 0) e

pub floats_same : (a b : List Float) → length a ≡ length b → zero_floats a ≡ zero_floats b
unfolding zero_floats
floats_same a b e = ap (λ n. replicate n (of_bits binary64 0)) e
