use borrow.Author.Rules.{rules}
use Rattle.pack.specs.Flat.{corner_record}
use Rattle.writer.specs.Rows.{numbers_turn}
use Rattle.writer.specs.Laws.{length_corner_record}
use Rattle.writer.proofs.write_corners.Goals as goal

pub loop-i-preserved : goal.loop-i-preserved
loop-i-preserved c = search (rules, numbers_turn corner_record 3 length_corner_record)
