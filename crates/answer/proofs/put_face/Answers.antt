use Rattle.answer.specs.Laws.{face_stored}
use borrow.Author.Rules.{rules}
use Rattle.answer.proofs.put_face.Goals as goal

pub returns : goal.returns
returns c = search (rules, face_stored)
