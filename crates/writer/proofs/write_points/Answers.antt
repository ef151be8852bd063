use borrow.Author.Rules.{rules}
use Rattle.pack.specs.Flat.{point_record}
use Rattle.writer.specs.Rows.{front_turn}
use Rattle.writer.specs.Laws.{length_point_record}
use Rattle.writer.proofs.write_points.Goals as goal

pub loop-i-preserved : goal.loop-i-preserved
loop-i-preserved c = search (rules, front_turn point_record 25 length_point_record)
