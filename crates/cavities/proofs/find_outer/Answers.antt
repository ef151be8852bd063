use Rattle.std.specs.Prelude.{◌≡◌, Err}
use Rattle.cavities.specs.Steps.{seeking_start, shell_start, shell_next, shell_up, shell_end, shell_facets, seeking_stopped, seeking_step, seeking_refused, seeking_end}
use borrow.Author.Rules.{rules}
use Rattle.cavities.proofs.find_outer.Goals as goal

pub loop-k-init : goal.loop-k-init
loop-k-init c = search (rules, seeking_start)

pub bounds-c-k : goal.bounds-c-k
bounds-c-k c = search (rules, shell_start)

pub bounds-c-k-in-loop-k : goal.bounds-c-k-in-loop-k
bounds-c-k-in-loop-k c = search (rules, shell_next)

pub shell_sense-requires : goal.shell_sense-requires
shell_sense-requires c = (search rules, search (rules, shell_up), search (rules, shell_end), search (rules, shell_facets))

pub returns-in_err-sense : goal.returns-in_err-sense
returns-in_err-sense c =
    let told : c.from_residual.result ≡ Err c.in_err-sense.field-0.0 = search rules in
    seeking_stopped _ _ _ _ _ _ _ _ c.loop-k-test.true c.loop-k.invariant _ c.shell_sense.ensures _ _ c.in_err-sense.was told

pub returns-in_err-outer : goal.returns-in_err-outer
returns-in_err-outer c =
    let told : c.from_residual-in_err-outer.result ≡ Err c.in_err-outer.field-0.0 = search rules in
    seeking_refused _ _ _ _ _ _ _ _ c.loop-k-test.true c.loop-k.invariant _ c.shell_sense.ensures _ c.in_ok-sense.was _ c.place_shell.ensures _ _ c.in_err-outer.was told

pub loop-k-preserved : goal.loop-k-preserved
loop-k-preserved c = seeking_step _ _ _ _ _ _ _ _ c.loop-k-test.true c.loop-k.invariant _ c.shell_sense.ensures _ c.in_ok-sense.was _ c.place_shell.ensures _ c.in_ok-outer.was

pub returns : goal.returns
returns c = search (rules, seeking_end)
