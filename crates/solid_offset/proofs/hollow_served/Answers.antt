use Rattle.solid_offset.specs.Laws.{open_lends, open_stood, hollow_shut, hollow_open}
use Rattle.solid_offset.proofs.hollow_served.Goals as goal

pub hollow_laid-requires : goal.hollow_laid-requires
hollow_laid-requires c =
    (open_stood c.args.lends c.args.cell.now _ c.open_cell-read.ensures _ c.in-Ok.is, c.requires.rooms (open_lends c.args.lends c.args.cell.now _ c.open_cell-read.ensures _ c.in-Ok.is))

pub returns-in-Err : goal.returns-in-Err
returns-in-Err c =
    hollow_shut c.args.lends c.args.cell.now _ c.open_cell-read.ensures c.args.limit c.args.w c.args.answer.now _ _ c.in-Err.is c.stop.ensures

pub shape_of-s : goal.shape_of-s
shape_of-s c =
    c.hollow_laid.auto.s

pub shape_of-counts : goal.shape_of-counts
shape_of-counts c =
    c.hollow_laid.auto.counts

pub shape_of-dst : goal.shape_of-dst
shape_of-dst c =
    c.hollow_laid.auto.dst

pub shape_of-sizes : goal.shape_of-sizes
shape_of-sizes c =
    c.hollow_laid.auto.sizes

pub shape_of-answer : goal.shape_of-answer
shape_of-answer c =
    c.hollow_laid.auto.answer

pub returns-in-Ok : goal.returns-in-Ok
returns-in-Ok c =
    hollow_open c.args.lends c.args.cell.now _ c.open_cell-read.ensures c.args.limit c.args.w _ c.args.answer.now _ _ c.in-Ok.is c.hollow_laid.ensures
