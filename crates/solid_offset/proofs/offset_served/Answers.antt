use Rattle.solid_offset.specs.Laws.{open_lends, open_stood, offset_shut, offset_open}
use Rattle.solid_offset.proofs.offset_served.Goals as goal

pub offset_laid-requires : goal.offset_laid-requires
offset_laid-requires c =
    (open_stood c.args.lends c.args.cell.now _ c.open_cell-read.ensures _ c.in-Ok.is, c.requires.rooms (open_lends c.args.lends c.args.cell.now _ c.open_cell-read.ensures _ c.in-Ok.is))

pub returns-in-Err : goal.returns-in-Err
returns-in-Err c =
    offset_shut c.args.lends c.args.cell.now _ c.open_cell-read.ensures c.args.limit c.args.d c.args.answer.now _ _ c.in-Err.is c.stop.ensures

pub shape_of-s : goal.shape_of-s
shape_of-s c =
    c.offset_laid.auto.s

pub shape_of-counts : goal.shape_of-counts
shape_of-counts c =
    c.offset_laid.auto.counts

pub shape_of-dst : goal.shape_of-dst
shape_of-dst c =
    c.offset_laid.auto.dst

pub shape_of-sizes : goal.shape_of-sizes
shape_of-sizes c =
    c.offset_laid.auto.sizes

pub shape_of-answer : goal.shape_of-answer
shape_of-answer c =
    c.offset_laid.auto.answer

pub returns-in-Ok : goal.returns-in-Ok
returns-in-Ok c =
    offset_open c.args.lends c.args.cell.now _ c.open_cell-read.ensures c.args.limit c.args.d _ c.args.answer.now _ _ c.in-Ok.is c.offset_laid.ensures
