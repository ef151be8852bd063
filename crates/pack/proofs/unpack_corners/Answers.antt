use borrow.Author.Rules.{rules}
use Rattle.pack.proofs.Turns.{index_turn}
use Rattle.pack.proofs.unpack_corners.Goals as goal

pub loop-j-preserved : goal.loop-j-preserved
loop-j-preserved c = search (rules, index_turn)
