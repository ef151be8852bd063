-- The call of an offset, from the checked cell to the bytes of its answer. Definitions only.
use Rattle.std.specs.Prelude.{List, ℕ, length, ltb, Float, Ok}
use Rattle.refusal.specs.Outcome.{Outcome, then, unless}
use Rattle.space.specs.declared.Precision.{Precision}
use Rattle.space.specs.Shapes.{Cell, Solid}
use Rattle.indexed.specs.Stored.{flat}
use Rattle.offset.specs.Offsets.{offset_cell}
use Rattle.offset.specs.Stored.{Ready}
use Rattle.built.specs.Built.{built, Bench}
use Rattle.answer.specs.Answers.{solid_answer}

-- 12: "last of all when the finished answer of an offset … has more" corners than the room
unfoldable pub offset_answer : ℕ → Solid → Outcome (List ℕ)
offset_answer limit s = unless (ltb limit (length (flat s.faces))) 12 (Ok (solid_answer s))

-- "the solid that an offset gives" passes "`indexed` and this check, without the counts, and the indexed points and faces are the answer"
unfoldable pub built_answer : Precision → ℕ → Cell → Outcome (List ℕ)
built_answer t limit c = then (built t c) (offset_answer limit)

unfoldable pub offset_call : Precision → ℕ → Float → Cell → Outcome (List ℕ)
offset_call t limit d c = then (offset_cell t d c) (built_answer t limit)

-- the cell of n faces at the front of two slices, all that its offset works in, and the bench of the check
pub record Shop (s : List Float) (counts : List ℕ) (n : ℕ) (by points : List Float) (places : List ℕ) (moved dst : List Float) (sizes ends head next seen work nodes cuts : List ℕ) : Type 0 where
  pub ready : Ready s 0 counts 0 n by points places moved dst 0 sizes 0
  pub bench : Bench (length places) n ends head next seen work nodes cuts
