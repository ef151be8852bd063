use native.Mathlib.Omega.{arith}
use Rattle.solid_offset.specs.Laws.{taken_given, offset_not, offset_done}
use Rattle.solid_offset.proofs.offset_laid.Goals as goal

pub take_solid-taken-requires : goal.take_solid-taken-requires
take_solid-taken-requires c =
    (c.requires.0, omega (arith, c.requires.1.floats), omega (arith, c.requires.1.counted))

pub offset_here-requires : goal.offset_here-requires
offset_here-requires c =
    (taken_given c.take_solid-taken.ensures c.in-Ok.is, c.requires.1.place, c.requires.1.slots)

pub shape_of-s-in-Err : goal.shape_of-s-in-Err
shape_of-s-in-Err c =
    c.take_solid-taken.auto.s

pub shape_of-counts-in-Err : goal.shape_of-counts-in-Err
shape_of-counts-in-Err c =
    c.take_solid-taken.auto.counts

pub returns-in-Err : goal.returns-in-Err
returns-in-Err c =
    offset_not c.args.cell.now c.args.y c.args.limit c.args.d c.take_solid-taken.ensures c.args.answer.now _ _ c.in-Err.is c.stop.ensures

pub shape_of-s-in-Ok : goal.shape_of-s-in-Ok
shape_of-s-in-Ok c =
    c.take_solid-taken.auto.s

pub shape_of-counts-in-Ok : goal.shape_of-counts-in-Ok
shape_of-counts-in-Ok c =
    c.take_solid-taken.auto.counts

pub shape_of-dst : goal.shape_of-dst
shape_of-dst c =
    c.offset_here.auto.dst

pub shape_of-sizes : goal.shape_of-sizes
shape_of-sizes c =
    c.offset_here.auto.sizes

pub shape_of-answer : goal.shape_of-answer
shape_of-answer c =
    c.offset_here.auto.answer

pub returns-in-Ok : goal.returns-in-Ok
returns-in-Ok c =
    offset_done c.args.cell.now c.args.y c.args.limit c.args.d c.take_solid-taken.ensures c.args.answer.now _ _ c.in-Ok.is c.offset_here.ensures
