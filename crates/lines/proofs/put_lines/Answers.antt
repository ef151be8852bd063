use Rattle.lines.specs.Turns.{printing_start, printing_turn, printing_end}
use borrow.Author.Rules.{rules}
use Rattle.lines.proofs.put_lines.Goals as goal

pub loop-s-init : goal.loop-s-init
loop-s-init c = printing_start _ _ _

pub loop-s-preserved : goal.loop-s-preserved
loop-s-preserved c = search (rules, printing_turn)

pub returns : goal.returns
returns c = let P = c.put_answer-end.ensures in
    record { value = (printing_end c.loop-s.invariant c.args.number c.args.out.now c.loop-s-test.false P.value P.out_after c.requires).0; out_after = (printing_end c.loop-s.invariant c.args.number c.args.out.now c.loop-s-test.false P.value P.out_after c.requires).1 }
