use lib.ListN.{length-set}
use Rattle.lent.specs.Laws.{fine_number, fine_kept}
use Rattle.lent.specs.Lent.{number_by, where_fine}
use native.Mathlib.Omega.{arith}
use borrow.Author.Rules.{rules}
use Rattle.split_leaf.proofs.put_stack.Goals as goal

pub bounds-told-1 : goal.bounds-told-1
bounds-told-1 c = simp length-set (omega arith)

pub bounds-told-2 : goal.bounds-told-2
bounds-told-2 c = simp length-set (omega arith)

pub returns-in-Err : goal.returns-in-Err
unfolding number_by where_fine
returns-in-Err c = record { value = cc; told_after = cc }

pub returns-in-Ok : goal.returns-in-Ok
returns-in-Ok c = search (rules, fine_number, fine_kept)
