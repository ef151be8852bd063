-- How a facet's new cycle lies in a lent slice. Definitions only.
use Rattle.std.specs.Prelude.{◌≡◌, ℕ, ◌+◌, ◌≤◌, ◌<◌, List, ◌∷◌, length, get_or, Float, Ok, Err}
use Rattle.std.proofs.lemmas.List.Edits.{sets}
use Rattle.refusal.specs.Outcome.{Outcome}
use Rattle.inside.specs.Slices.{Same}

-- a cycle of c vertices from a place on, each one of n points; a face has at most 128 corners
pub record Among (n : ℕ) (l : List ℕ) (first c : ℕ) : Type 0 where
  pub fits : first + c ≤ length l
  pub small : c ≤ 128
  pub below : (x : ℕ) → x < c → get_or l (first + x) 0 < n

-- after an edge: its start and the vertices inside it; a refusal leaves the lengths alone
unfoldable pub Spliced : Outcome (List ℕ) → ℕ → ℕ → ℕ → List Float → List Float → List ℕ → List ℕ → List Float → List Float → List ℕ → List ℕ → Outcome ℕ → Type 0
Spliced (Ok l) i n at a₀ b₀ k₀ o₀ a b k o r = (r ≡ Ok (length l + 1)) × (length l ≤ n) × (o ≡ sets o₀ at (i ∷ l)) × Same a₀ b₀ k₀ a b k
Spliced (Err x) i n at a₀ b₀ k₀ o₀ a b k o r = (r ≡ Err x) × (length o ≡ length o₀) × Same a₀ b₀ k₀ a b k

-- after a facet: its new cycle, of at most 4,097 vertices for each of 128 edges
unfoldable pub Conformed : Outcome (List ℕ) → ℕ → List Float → List Float → List ℕ → List ℕ → List Float → List Float → List ℕ → List ℕ → Outcome ℕ → Type 0
Conformed (Ok f) at a₀ b₀ k₀ o₀ a b k o r = (r ≡ Ok (length f)) × (length f ≤ 524416) × (o ≡ sets o₀ at f) × Same a₀ b₀ k₀ a b k
Conformed (Err x) at a₀ b₀ k₀ o₀ a b k o r = (r ≡ Err x) × (length o ≡ length o₀) × Same a₀ b₀ k₀ a b k
