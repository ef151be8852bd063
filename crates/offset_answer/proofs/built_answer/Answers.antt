use Rattle.offset_answer.specs.Laws.{built_stops, built_few, built_lent, built_corners, built_held, built_ends}
use Rattle.offset_answer.proofs.built_answer.Goals as goal

pub build-found-requires : goal.build-found-requires
build-found-requires c = record { fits = c.requires.0; bench = c.requires.1 }

pub corners_of-k-requires : goal.corners_of-k-requires
corners_of-k-requires c =
    record { listed = c.requires.0.faces; within = c.requires.0.floats }

pub put_answer-requires : goal.put_answer-requires
put_answer-requires c =
    (built_few _ c.args.limit _ _ _ _ _ c.requires.0 _ _ _ c.build-found.ensures _ c.in-Ok.is, built_lent _ c.args.limit _ _ _ _ _ c.requires.0 _ _ _ c.build-found.ensures _ c.in-Ok.is, built_held _ c.args.limit _ _ _ _ _ c.requires.0 _ _ _ c.build-found.ensures _ c.in-Ok.is _ c.corners_of-k.ensures.0, built_corners _ c.args.limit _ _ _ _ _ c.requires.0 _ _ _ c.build-found.ensures _ c.in-Ok.is _ c.corners_of-k.ensures.0)

pub shape_of-points-in-Err : goal.shape_of-points-in-Err
shape_of-points-in-Err c =
    c.build-found.auto.points

pub shape_of-places-in-Err : goal.shape_of-places-in-Err
shape_of-places-in-Err c =
    c.build-found.auto.places

pub shape_of-ends-in-Err : goal.shape_of-ends-in-Err
shape_of-ends-in-Err c =
    c.build-found.auto.ends

pub shape_of-head-in-Err : goal.shape_of-head-in-Err
shape_of-head-in-Err c =
    c.build-found.auto.head

pub shape_of-next-in-Err : goal.shape_of-next-in-Err
shape_of-next-in-Err c =
    c.build-found.auto.next

pub shape_of-seen-in-Err : goal.shape_of-seen-in-Err
shape_of-seen-in-Err c =
    c.build-found.auto.seen

pub shape_of-work-in-Err : goal.shape_of-work-in-Err
shape_of-work-in-Err c =
    c.build-found.auto.work

pub shape_of-nodes-in-Err : goal.shape_of-nodes-in-Err
shape_of-nodes-in-Err c =
    c.build-found.auto.nodes

pub shape_of-cuts-in-Err : goal.shape_of-cuts-in-Err
shape_of-cuts-in-Err c =
    c.build-found.auto.cuts

pub returns-in-Err : goal.returns-in-Err
returns-in-Err c =
    built_stops _ c.args.limit _ _ _ _ _ c.requires.0 _ _ _ c.build-found.ensures c.args.answer.now _ _ c.in-Err.is c.stop.ensures

pub shape_of-points-in-Ok : goal.shape_of-points-in-Ok
shape_of-points-in-Ok c =
    c.build-found.auto.points

pub shape_of-places-in-Ok : goal.shape_of-places-in-Ok
shape_of-places-in-Ok c =
    c.build-found.auto.places

pub shape_of-ends-in-Ok : goal.shape_of-ends-in-Ok
shape_of-ends-in-Ok c =
    c.build-found.auto.ends

pub shape_of-head-in-Ok : goal.shape_of-head-in-Ok
shape_of-head-in-Ok c =
    c.build-found.auto.head

pub shape_of-next-in-Ok : goal.shape_of-next-in-Ok
shape_of-next-in-Ok c =
    c.build-found.auto.next

pub shape_of-seen-in-Ok : goal.shape_of-seen-in-Ok
shape_of-seen-in-Ok c =
    c.build-found.auto.seen

pub shape_of-work-in-Ok : goal.shape_of-work-in-Ok
shape_of-work-in-Ok c =
    c.build-found.auto.work

pub shape_of-nodes-in-Ok : goal.shape_of-nodes-in-Ok
shape_of-nodes-in-Ok c =
    c.build-found.auto.nodes

pub shape_of-cuts-in-Ok : goal.shape_of-cuts-in-Ok
shape_of-cuts-in-Ok c =
    c.build-found.auto.cuts

pub shape_of-answer : goal.shape_of-answer
shape_of-answer c =
    c.put_answer.auto.answer

pub returns-in-Ok : goal.returns-in-Ok
returns-in-Ok c =
    built_ends _ c.args.limit _ _ _ _ _ c.requires.0 _ _ _ c.build-found.ensures _ c.in-Ok.is c.args.answer.now _ _ c.put_answer.ensures
