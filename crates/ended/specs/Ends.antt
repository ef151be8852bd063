-- How a call ends: "A refusal hands back its number and no bodies", "Answer memory past the answer is untouched". Definitions only.
use Rattle.std.specs.Prelude.{◌≡◌, List, ℕ, ◌*◌, length, ltb, Ok, Err}
use Rattle.std.proofs.lemmas.List.Edits.{sets}
use Rattle.refusal.specs.declared.Refusal.{Refusal}
use Rattle.refusal.specs.Outcome.{Outcome, then, unless}
use Rattle.ended.specs.declared.Ended.{Ended}

-- 12 where the answer's bytes are more than the memory lent for them
unfoldable pub fitted : ℕ → Outcome (List ℕ) → Outcome (List ℕ)
fitted room o = then o (λ l. unless (ltb room (length l)) 12 (Ok l))

abbrev pub answered : ℕ → Ended
answered n = record { verdict = Ok tt; bytes = n }

abbrev pub stopped : Refusal → Ended
stopped r = record { verdict = Err r; bytes = 0 }

-- the answer stands at the front of its memory; a refusal leaves it as it came
unfoldable pub Handed : Outcome (List ℕ) → List ℕ → List ℕ → Ended → Type 0
Handed (Ok l) a₀ a r = (r ≡ answered (length l)) × (a ≡ sets a₀ 0 l)
Handed (Err x) a₀ a r = (r ≡ stopped x) × (a ≡ a₀)

-- the end of an outcome, and the answer's memory behind it
unfoldable pub ended_of : Outcome (List ℕ) → Ended
ended_of (Ok l) = answered (length l)
ended_of (Err r) = stopped r

unfoldable pub written : Outcome (List ℕ) → List ℕ → List ℕ
written (Ok l) a = sets a 0 l
written (Err r) a = a

-- what an entry point hands back: the number, and 256 times how many bytes the answer has
unfoldable pub told_by : Outcome Unit → ℕ → ℕ
told_by (Ok tt) n = 256 * n
told_by (Err r) n = r.number

unfoldable pub told_of : Outcome (List ℕ) → ℕ
told_of (Ok l) = 256 * length l
told_of (Err r) = r.number
