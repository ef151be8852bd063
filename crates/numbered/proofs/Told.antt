-- What is told of an outcome is its number and its bytes.
use Rattle.std.specs.Prelude.{◌≡◌, List, ℕ, ◌%◌, ◌/◌, ◌≤◌}
use Rattle.std.proofs.Common.{arith}
use Rattle.refusal.specs.Outcome.{Outcome, number_of}
use Rattle.ended.specs.Ends.{ended_of, told_of}
use Rattle.numbered.specs.Numbered.{Numbered, answer, number, among_byte}

-- ---- what is told

pub told_number : {n : ℕ} {o : Outcome (List ℕ)} → Numbered n o → n ≤ 255 → told_of o % 256 ≡ number_of o
unfolding told_of number_of
told_number (answer l) h = omega arith
told_number {n} (number r w) h = omega (arith, among_byte n r h w)

-- a refusal has no bytes
pub told_bytes : {n : ℕ} {o : Outcome (List ℕ)} → Numbered n o → n ≤ 255 → told_of o / 256 ≡ (ended_of o).bytes
unfolding told_of ended_of
told_bytes (answer l) h = omega arith
told_bytes {n} (number r w) h = omega (arith, among_byte n r h w)
