use Rattle.hollow_answer.specs.Laws.{wall_stops, wall_pair, wall_ends}
use Rattle.hollow_answer.proofs.wall_answer.Goals as goal

pub hollow_in-v-requires : goal.hollow_in-v-requires
hollow_in-v-requires c =
    c.requires

pub put_body-requires : goal.put_body-requires
put_body-requires c =
    wall_pair _ c.args.limit _ _ _ _ _ _ c.requires _ _ _ c.hollow_in-v.ensures c.in-Ok.is

pub shape_of-s-in-Err : goal.shape_of-s-in-Err
shape_of-s-in-Err c =
    c.hollow_in-v.auto.dst

pub shape_of-counts-in-Err : goal.shape_of-counts-in-Err
shape_of-counts-in-Err c =
    c.hollow_in-v.auto.sizes

pub returns-in-Err : goal.returns-in-Err
returns-in-Err c =
    wall_stops _ c.args.limit _ _ _ _ _ _ c.requires _ _ _ c.hollow_in-v.ensures c.args.answer.now _ _ c.in-Err.is c.stop.ensures

pub shape_of-s-in-Ok : goal.shape_of-s-in-Ok
shape_of-s-in-Ok c =
    c.hollow_in-v.auto.dst

pub shape_of-counts-in-Ok : goal.shape_of-counts-in-Ok
shape_of-counts-in-Ok c =
    c.hollow_in-v.auto.sizes

pub shape_of-answer : goal.shape_of-answer
shape_of-answer c =
    c.put_body.auto.answer

pub returns-in-Ok : goal.returns-in-Ok
returns-in-Ok c =
    wall_ends _ c.args.limit _ _ _ _ _ _ c.requires _ _ _ c.hollow_in-v.ensures c.in-Ok.is c.args.answer.now _ _ c.put_body.ensures
