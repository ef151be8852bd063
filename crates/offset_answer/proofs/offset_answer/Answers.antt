use mathlib.Core.Path.{◌∙◌}
use Rattle.offset_answer.specs.Laws.{offset_stops, same_bench, moved_fits, offset_ends}
use Rattle.offset_answer.proofs.offset_answer.Goals as goal

pub offset-v-requires : goal.offset-v-requires
offset-v-requires c =
    c.requires.ready

pub built_answer-requires : goal.built_answer-requires
built_answer-requires c =
    (moved_fits _ c.args.limit _ _ _ _ c.requires.ready _ _ _ c.offset-v.ensures c.in-Ok.is _ _ c.offset-v.auto.points c.offset-v.auto.places, same_bench c.offset-v.auto.places c.requires.bench)

pub shape_of-by-in-Err : goal.shape_of-by-in-Err
shape_of-by-in-Err c =
    c.offset-v.auto.by

pub shape_of-points-in-Err : goal.shape_of-points-in-Err
shape_of-points-in-Err c =
    c.offset-v.auto.points

pub shape_of-places-in-Err : goal.shape_of-places-in-Err
shape_of-places-in-Err c =
    c.offset-v.auto.places

pub shape_of-moved-in-Err : goal.shape_of-moved-in-Err
shape_of-moved-in-Err c =
    c.offset-v.auto.moved

pub shape_of-dst-in-Err : goal.shape_of-dst-in-Err
shape_of-dst-in-Err c =
    c.offset-v.auto.dst

pub shape_of-sizes-in-Err : goal.shape_of-sizes-in-Err
shape_of-sizes-in-Err c =
    c.offset-v.auto.sizes

pub returns-in-Err : goal.returns-in-Err
returns-in-Err c =
    offset_stops _ c.args.limit _ _ _ _ c.requires.ready _ _ _ c.offset-v.ensures c.args.answer.now _ _ c.in-Err.is c.stop.ensures

pub shape_of-by-in-Ok : goal.shape_of-by-in-Ok
shape_of-by-in-Ok c =
    c.offset-v.auto.by

pub shape_of-points-in-Ok : goal.shape_of-points-in-Ok
shape_of-points-in-Ok c =
    c.built_answer.auto.points ∙ c.offset-v.auto.points

pub shape_of-places-in-Ok : goal.shape_of-places-in-Ok
shape_of-places-in-Ok c =
    c.built_answer.auto.places ∙ c.offset-v.auto.places

pub shape_of-moved-in-Ok : goal.shape_of-moved-in-Ok
shape_of-moved-in-Ok c =
    c.offset-v.auto.moved

pub shape_of-dst-in-Ok : goal.shape_of-dst-in-Ok
shape_of-dst-in-Ok c =
    c.offset-v.auto.dst

pub shape_of-sizes-in-Ok : goal.shape_of-sizes-in-Ok
shape_of-sizes-in-Ok c =
    c.offset-v.auto.sizes

pub shape_of-ends : goal.shape_of-ends
shape_of-ends c =
    c.built_answer.auto.ends

pub shape_of-head : goal.shape_of-head
shape_of-head c =
    c.built_answer.auto.head

pub shape_of-next : goal.shape_of-next
shape_of-next c =
    c.built_answer.auto.next

pub shape_of-seen : goal.shape_of-seen
shape_of-seen c =
    c.built_answer.auto.seen

pub shape_of-work : goal.shape_of-work
shape_of-work c =
    c.built_answer.auto.work

pub shape_of-nodes : goal.shape_of-nodes
shape_of-nodes c =
    c.built_answer.auto.nodes

pub shape_of-cuts : goal.shape_of-cuts
shape_of-cuts c =
    c.built_answer.auto.cuts

pub shape_of-answer : goal.shape_of-answer
shape_of-answer c =
    c.built_answer.auto.answer

pub returns-in-Ok : goal.returns-in-Ok
returns-in-Ok c =
    offset_ends _ c.args.limit _ _ _ _ c.requires.ready _ _ _ c.offset-v.ensures c.in-Ok.is c.args.answer.now _ _ c.built_answer.ensures
