use Rattle.std.specs.Prelude.{◌≡◌, Err}
use Rattle.interfaces.specs.Steps.{walking_start, walking_step, walking_on, walking_refused, walking_end}
use borrow.Author.Rules.{rules}
use Rattle.interfaces.proofs.meet_facets.Goals as goal

pub loop-m-init : goal.loop-m-init
loop-m-init c = search (rules, walking_start)

pub loop-m-smaller : goal.loop-m-smaller
loop-m-smaller c = search (rules, walking_on)

pub loop-m-preserved : goal.loop-m-preserved
loop-m-preserved c = walking_step _ _ _ _ _ _ _ _ _ _ _ _ _ _ c.loop-m.invariant c.meet_run.auto.ext c.meet_run.auto.ends c.meet_run.ensures c.in_ok-m.was

pub returns : goal.returns
returns c = search (rules, walking_end)

pub returns-in_err-m : goal.returns-in_err-m
returns-in_err-m c = let told : c.from_residual.result ≡ Err c.in_err-m.field-0.0 = search rules in
    walking_refused _ _ _ _ _ c.args.ext.now c.args.ends.now _ _ _ _ _ _ c.requires.f_value.0 c.meet_run.ensures c.in_err-m.was told
