use Rattle.std.specs.Prelude.{◌≡◌, Err}
use Rattle.edges.specs.Pairing.{walking_start, walking_step, walking_on, walking_refused, walking_end}
use borrow.Author.Rules.{rules}
use Rattle.edges.proofs.walk_edges.Goals as goal

pub loop-m-init : goal.loop-m-init
loop-m-init c = search (rules, walking_start)

pub edge_run-requires : goal.edge_run-requires
edge_run-requires c = record { c_in_bounds = search rules; part = c.loop-m.invariant.part }

pub loop-m-smaller : goal.loop-m-smaller
loop-m-smaller c = walking_on _ _ _ _ c.args.ends.now _ c.loop-m.m _ c.edge_run.ensures _ c.loop-m-test.true c.in_ok-m.was

pub loop-m-preserved : goal.loop-m-preserved
loop-m-preserved c = walking_step _ _ _ _ _ _ _ _ c.edge_run.ensures _ _ c.loop-m.invariant c.edge_run.auto.ends c.in_ok-m.was

pub returns-in_err-m : goal.returns-in_err-m
returns-in_err-m c =
    let told : c.from_residual.result ≡ Err c.in_err-m.field-0.0 = search rules in
    walking_refused _ _ _ _ c.args.ends.now _ c.loop-m.m _ c.edge_run.ensures _ _ c.requires.c_value.0 c.in_err-m.was told

pub returns : goal.returns
returns c = search (rules, walking_end)
