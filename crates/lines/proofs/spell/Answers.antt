use Rattle.lines.specs.Turns.{spelling_start, spelling_turn, spelling_end}
use borrow.Author.Rules.{rules}
use Rattle.lines.proofs.spell.Goals as goal

pub loop-rest-init : goal.loop-rest-init
loop-rest-init c = search (rules, spelling_start)

pub loop-rest-preserved : goal.loop-rest-preserved
loop-rest-preserved c = search (rules, spelling_turn)

pub returns : goal.returns
returns c = spelling_end _ c.loop-rest.invariant c.loop-rest-test.false c.digit-2.ensures
