use native.Mathlib.Omega.{arith}
use mathlib.Core.Path.{◌∙◌}
use borrow.Author.Tests.{not-true, not-false}
use Rattle.solid_offset.specs.Laws.{same_rooms, taken_given, hollow_not, hollow_done, hollow_thin}
use mathlib.Core.Path.{ap}
use mathlib.Core.Bool.{not}
use Rattle.solid_offset.proofs.hollow_laid.Goals as goal

pub returns-then-not-is_thick : goal.returns-then-not-is_thick
returns-then-not-is_thick c =
    hollow_thin c.args.cell.now c.args.y c.args.limit c.args.w _ c.args.answer.now _ _ c.is_thick.ensures (not-true _ (ap not c.if-not-is_thick.true)) c.refuse.ensures c.stop.ensures

pub take_solid-taken-requires : goal.take_solid-taken-requires
take_solid-taken-requires c =
    (c.requires.0, omega (arith, c.requires.1.floats), omega (arith, c.requires.1.counted))

pub hollow_here-requires : goal.hollow_here-requires
hollow_here-requires c =
    (taken_given c.take_solid-taken.ensures c.in-Ok.is, same_rooms c.requires.1 c.take_solid-taken.auto.s c.take_solid-taken.auto.counts)

pub shape_of-s-in-Err : goal.shape_of-s-in-Err
shape_of-s-in-Err c =
    c.take_solid-taken.auto.s

pub shape_of-counts-in-Err : goal.shape_of-counts-in-Err
shape_of-counts-in-Err c =
    c.take_solid-taken.auto.counts

pub returns-in-Err : goal.returns-in-Err
returns-in-Err c =
    hollow_not c.args.cell.now c.args.y c.args.limit c.args.w c.take_solid-taken.ensures _ c.is_thick.ensures (not-false _ (ap not c.if-not-is_thick.false)) c.args.answer.now _ _ c.in-Err.is c.stop-in-Err.ensures

pub shape_of-s-in-Ok : goal.shape_of-s-in-Ok
shape_of-s-in-Ok c =
    c.hollow_here.auto.s ∙ c.take_solid-taken.auto.s

pub shape_of-counts-in-Ok : goal.shape_of-counts-in-Ok
shape_of-counts-in-Ok c =
    c.hollow_here.auto.counts ∙ c.take_solid-taken.auto.counts

pub shape_of-dst : goal.shape_of-dst
shape_of-dst c =
    c.hollow_here.auto.dst

pub shape_of-sizes : goal.shape_of-sizes
shape_of-sizes c =
    c.hollow_here.auto.sizes

pub shape_of-answer : goal.shape_of-answer
shape_of-answer c =
    c.hollow_here.auto.answer

pub returns-in-Ok : goal.returns-in-Ok
returns-in-Ok c =
    hollow_done c.args.cell.now c.args.y c.args.limit c.args.w c.take_solid-taken.ensures _ c.is_thick.ensures (not-false _ (ap not c.if-not-is_thick.false)) c.args.answer.now _ _ c.in-Ok.is c.hollow_here.ensures
