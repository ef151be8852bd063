-- The bytes of a list of solids. Definitions only.
use Rattle.std.specs.Prelude.{ℕ, List, Ok}
use Rattle.refusal.specs.Outcome.{Outcome}
use Rattle.space.specs.Shapes.{Solid}
use Rattle.writer.specs.Rows.{row}
use Rattle.answer.specs.Answers.{solid_answer}

-- "for each cell u32 points, …": no leading count, the cells end with the bytes
unfoldable pub solids_answer : List Solid → Outcome (List ℕ)
solids_answer ss = Ok (row solid_answer ss)
