-- Neighbours through a key that two places share.
use Rattle.std.specs.Prelude.{◌≡◌, ◌≢◌, ℕ, ◌≤◌, ◌<◌, length}
use mathlib.Core.List.{List}
use Rattle.sums.specs.Keys.{key, users}

-- Two places share a key, and have the owners c and d.
pub record Meet (ks : List (List ℕ)) (g : ℕ → ℕ) (c d : ℕ) : Type 0 where
  pub x : ℕ
  pub y : ℕ
  pub x_in : x < length ks
  pub y_in : y < length ks
  pub apart : x ≢ y
  pub alike : key ks x ≡ key ks y
  pub x_of : g x ≡ c
  pub y_of : g y ≡ d

-- No key has more than two places.
abbrev pub Two : List (List ℕ) → Type 0
Two ks = (i : ℕ) → i < length ks → length (users ks i) ≤ 2

abbrev pub owners : (ℕ → ℕ) → ℕ × ℕ → ℕ × ℕ
owners g p = (g p.0, g p.1)
