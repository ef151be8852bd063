-- Pairs one after another.
use Rattle.std.specs.Prelude.{◌≡◌, refl, List, [], ◌∷◌, ℕ, zero, suc, ◌*◌, ◌/◌, ◌<◌, length}
use Rattle.std.proofs.Common.{ap, ◌∙◌, arith}
use Rattle.sums.specs.Sum.{Each}
use Rattle.sums.specs.Keys.{nbrs}
use Rattle.groups.specs.Chain.{pairs_of}
use Rattle.groups.specs.Groups.{Within, joins_of}

unfoldable pub ends_of : List (ℕ × ℕ) → List ℕ
ends_of [] = []
ends_of (p ∷ ps) = p.0 ∷ p.1 ∷ ends_of ps

pub length_ends : (ps : List (ℕ × ℕ)) → length (ends_of ps) ≡ 2 * length ps
unfolding ends_of
length_ends [] = refl
length_ends (p ∷ ps) = omega (arith, length_ends ps)

pairs_ends : (ps : List (ℕ × ℕ)) → pairs_of (length ps) (ends_of ps) ≡ ps
unfolding ends_of pairs_of
pairs_ends [] = refl
pairs_ends (p ∷ ps) = ap (λ l. p ∷ l) (pairs_ends ps)

-- the neighbours by the ends of pairs are those by the pairs
pub joins_ends : (ps : List (ℕ × ℕ)) → joins_of (ends_of ps) ≡ nbrs ps
unfolding joins_of
joins_ends ps =
    let z : length (ends_of ps) / 2 ≡ length ps = omega (arith, length_ends ps) in
    ap (λ l i. nbrs l i) (ap (λ n. pairs_of n (ends_of ps)) z ∙ pairs_ends ps)

pub within_ends : (n : ℕ) (ps : List (ℕ × ℕ)) → Each (λ p. (p.0 < n) × (p.1 < n)) ps → Within (ends_of ps) n
unfolding ends_of
within_ends n [] e k h = absurd (omega arith)
within_ends n (p ∷ ps) e zero h = e.0.0
within_ends n (p ∷ ps) e (suc zero) h = e.0.1
within_ends n (p ∷ ps) e (suc (suc k)) h = within_ends n ps e.1 k (omega arith)
