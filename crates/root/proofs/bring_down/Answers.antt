use native.Mathlib.Omega.{arith}
use Rattle.root.proofs.Turns.{root_small, down_turn}
use Rattle.root.proofs.bring_down.Goals as goal

pub turn-so_far-requires : goal.turn-so_far-requires
turn-so_far-requires c = let d = c.loop.invariant in (root_small _ _ _ _ _ d _ c.loop-test.true c.requires.1, d.so_far.small, omega (arith, d.room))

pub loop-preserved : goal.loop-preserved
loop-preserved c = down_turn _ _ _ _ _ c.loop.invariant _ c.turn-so_far.ensures
