use Rattle.words.specs.Little.{digits}
use Rattle.writer.specs.Rows.{numbers_turn}
use Rattle.answer.specs.Laws.{length_count}
use borrow.Author.Rules.{rules}
use Rattle.answer.proofs.put_places.Goals as goal

pub loop-i-preserved : goal.loop-i-preserved
loop-i-preserved c = search (rules, numbers_turn (digits 4) 4 length_count)
