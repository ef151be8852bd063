-- A refusal's number is one of 01's, and so it stays however outcomes and verdicts are put together.
use Rattle.std.specs.Prelude.{ℕ, T, leb}
use Rattle.refusal.specs.Outcome.{Outcome}
use Rattle.numbered.specs.Numbered.{Numbered, answer, number, Judged, fine, ruled, among_more}

-- ---- outcomes

pub numbered_more : {A : Type 0} {n m : ℕ} {o : Outcome A} → T (leb n m) → Numbered n o → Numbered m o
numbered_more h (answer a) = answer a
numbered_more {n = n} {m} h (number r w) = number r (among_more n m r h w)

-- ---- verdicts

pub judged_more : {n m : ℕ} {v : Outcome Unit} → T (leb n m) → Judged n v → Judged m v
judged_more h fine = fine
judged_more {n} {m} h (ruled r w) = ruled r (among_more n m r h w)
