use Rattle.job.specs.Written.{point_bytes, length_point}
use Rattle.writer.specs.Rows.{points_turn}
use borrow.Author.Rules.{rules}
use Rattle.answer.proofs.put_points.Goals as goal

pub loop-i-preserved : goal.loop-i-preserved
loop-i-preserved c = search (rules, points_turn point_bytes 24 length_point)
