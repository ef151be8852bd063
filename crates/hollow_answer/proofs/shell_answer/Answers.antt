use mathlib.Core.List.{[]}
use native.Mathlib.Omega.{arith}
use Rattle.offset_answer.specs.Laws.{built_few, built_lent}
use Rattle.hollow_answer.specs.Stages.{shell_stops, shell_lies, shell_walls, shell_ends}
use Rattle.hollow_answer.proofs.shell_answer.Goals as goal

pub build-found-requires : goal.build-found-requires
build-found-requires c = record { fits = c.requires.fits; bench = c.requires.bench }

pub put_faces-requires : goal.put_faces-requires
put_faces-requires c =
    (built_few _ c.args.limit _ _ _ _ _ c.requires.fits _ _ _ c.build-found.ensures _ c.in-Ok.is, (built_lent _ c.args.limit _ _ _ _ _ c.requires.fits _ _ _ c.build-found.ensures _ c.in-Ok.is).few, (built_lent _ c.args.limit _ _ _ _ _ c.requires.fits _ _ _ c.build-found.ensures _ c.in-Ok.is).placing, omega (arith, c.build-found.auto.places, c.requires.floats))

pub wall_answer-requires : goal.wall_answer-requires
wall_answer-requires c =
    shell_walls c.requires _ (shell_lies _ c.args.limit [] _ _ _ _ _ c.requires.fits _ _ _ c.build-found.ensures _ c.in-Ok.is _ _ c.requires.floats c.put_faces.ensures)

pub shape_of-points-in-Err : goal.shape_of-points-in-Err
shape_of-points-in-Err c =
    c.build-found.auto.points

pub shape_of-places-in-Err : goal.shape_of-places-in-Err
shape_of-places-in-Err c =
    c.build-found.auto.places

pub shape_of-ends-in-Err : goal.shape_of-ends-in-Err
shape_of-ends-in-Err c =
    c.build-found.auto.ends

pub shape_of-head-in-Err : goal.shape_of-head-in-Err
shape_of-head-in-Err c =
    c.build-found.auto.head

pub shape_of-next-in-Err : goal.shape_of-next-in-Err
shape_of-next-in-Err c =
    c.build-found.auto.next

pub shape_of-seen-in-Err : goal.shape_of-seen-in-Err
shape_of-seen-in-Err c =
    c.build-found.auto.seen

pub shape_of-work-in-Err : goal.shape_of-work-in-Err
shape_of-work-in-Err c =
    c.build-found.auto.work

pub shape_of-nodes-in-Err : goal.shape_of-nodes-in-Err
shape_of-nodes-in-Err c =
    c.build-found.auto.nodes

pub shape_of-cuts-in-Err : goal.shape_of-cuts-in-Err
shape_of-cuts-in-Err c =
    c.build-found.auto.cuts

pub returns-in-Err : goal.returns-in-Err
returns-in-Err c =
    shell_stops _ c.args.limit _ _ _ _ _ _ c.requires.fits _ _ _ c.build-found.ensures c.args.answer.now _ _ c.in-Err.is c.stop.ensures

pub shape_of-s : goal.shape_of-s
shape_of-s c =
    c.wall_answer.auto.s

pub shape_of-counts : goal.shape_of-counts
shape_of-counts c =
    c.wall_answer.auto.counts

pub shape_of-points-in-Ok : goal.shape_of-points-in-Ok
shape_of-points-in-Ok c =
    c.build-found.auto.points

pub shape_of-places-in-Ok : goal.shape_of-places-in-Ok
shape_of-places-in-Ok c =
    c.build-found.auto.places

pub shape_of-faces : goal.shape_of-faces
shape_of-faces c =
    c.put_faces.auto.s

pub shape_of-ends-in-Ok : goal.shape_of-ends-in-Ok
shape_of-ends-in-Ok c =
    c.build-found.auto.ends

pub shape_of-head-in-Ok : goal.shape_of-head-in-Ok
shape_of-head-in-Ok c =
    c.build-found.auto.head

pub shape_of-next-in-Ok : goal.shape_of-next-in-Ok
shape_of-next-in-Ok c =
    c.build-found.auto.next

pub shape_of-seen-in-Ok : goal.shape_of-seen-in-Ok
shape_of-seen-in-Ok c =
    c.build-found.auto.seen

pub shape_of-work-in-Ok : goal.shape_of-work-in-Ok
shape_of-work-in-Ok c =
    c.build-found.auto.work

pub shape_of-nodes-in-Ok : goal.shape_of-nodes-in-Ok
shape_of-nodes-in-Ok c =
    c.build-found.auto.nodes

pub shape_of-cuts-in-Ok : goal.shape_of-cuts-in-Ok
shape_of-cuts-in-Ok c =
    c.build-found.auto.cuts

pub shape_of-answer : goal.shape_of-answer
shape_of-answer c =
    c.wall_answer.auto.answer

pub returns-in-Ok : goal.returns-in-Ok
returns-in-Ok c =
    shell_ends _ c.args.limit _ _ _ _ _ _ c.requires.fits _ _ _ c.build-found.ensures _ c.in-Ok.is _ _ c.requires.floats c.put_faces.ensures c.args.answer.now _ _ c.wall_answer.ensures
