-- Each call's refusals have numbers of 01's, and what it tells can be read back: the number, how many bytes, and whether it answered.
use Rattle.std.specs.Prelude.{◌≡◌, refl, List, ℕ, ◌%◌, ◌/◌, Ok}
use Rattle.std.proofs.Common.{arith}
use Rattle.refusal.specs.Outcome.{Outcome, number_of}
use Rattle.ended.specs.Ends.{ended_of, told_of}
use Rattle.numbered.specs.Numbered.{Numbered, answer, number}

-- ---- what is told

-- no refusal has the number 0
pub told_answer : {A : Type 0} {n : ℕ} {o : Outcome A} → Numbered n o → number_of o ≡ 0 → (a : A) × (o ≡ Ok a)
unfolding number_of
told_answer (answer a) e = (a, refl)
told_answer (number r w) e = absurd (omega arith)

-- what is told of an outcome is read back
pub record Told (o : Outcome (List ℕ)) : Type 0 where
  pub number_is : told_of o % 256 ≡ number_of o
  pub bytes_are : told_of o / 256 ≡ (ended_of o).bytes
  pub zero_answers : told_of o % 256 ≡ 0 → (l : List ℕ) × (o ≡ Ok l)
