use Rattle.root.proofs.Turns.{Down}
use Rattle.root.proofs.bring_down.Given as goal

-- `root::bring_down` meets its contract. Its loop keeps `Down` of `proofs/Turns.antt`. Assumes nothing.
abbrev pub invariant-loop : goal.invariant-loop
invariant-loop l = Down l.initial.so_far l.digits l.ahead l.so_far l.counter
