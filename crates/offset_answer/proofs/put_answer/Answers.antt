use native.Mathlib.Omega.{arith}
use Rattle.offset_answer.specs.Laws.{put_over, put_full, put_fits, put_all}
use Rattle.offset_answer.proofs.put_answer.Goals as goal

pub returns-then-limit-k : goal.returns-then-limit-k
returns-then-limit-k c =
    put_over c.args.points.now c.args.m _ _ _ _ c.args.limit c.requires.1 c.requires.3 c.args.answer.now _ _ c.if-limit-k.true c.refuse.ensures c.stop.ensures

pub overflow_mul-m : goal.overflow_mul-m
overflow_mul-m c =
    omega (arith, c.requires.0, c.requires.1.few, c.requires.2, c.well_formed)

pub overflow_add-m : goal.overflow_add-m
overflow_add-m c =
    omega (arith, c.requires.0, c.requires.1.few, c.requires.2, c.well_formed)

pub overflow_mul-n : goal.overflow_mul-n
overflow_mul-n c =
    omega (arith, c.requires.0, c.requires.1.few, c.requires.2, c.well_formed)

pub overflow_add-m-2 : goal.overflow_add-m-2
overflow_add-m-2 c =
    omega (arith, c.requires.0, c.requires.1.few, c.requires.2, c.well_formed)

pub overflow_mul-k : goal.overflow_mul-k
overflow_mul-k c =
    omega (arith, c.requires.0, c.requires.1.few, c.requires.2, c.well_formed)

pub overflow_add-m-3 : goal.overflow_add-m-3
overflow_add-m-3 c =
    omega (arith, c.requires.0, c.requires.1.few, c.requires.2, c.well_formed)

pub returns-then-answer-m : goal.returns-then-answer-m
returns-then-answer-m c =
    put_full c.args.points.now c.args.m _ _ _ _ c.args.limit c.requires.1 c.requires.3 c.args.answer.now _ _ c.if-limit-k.false c.if-answer-m.true c.refuse-then-answer-m.ensures c.stop-then-answer-m.ensures

pub put_solid-end-requires : goal.put_solid-end-requires
put_solid-end-requires c =
    (c.requires.0, c.requires.1, put_fits c.args.points.now c.args.m _ _ _ _ c.args.limit c.requires.1 c.requires.3 c.args.answer.now c.if-answer-m.false)

pub returns : goal.returns
returns c =
    put_all c.args.points.now c.args.m _ _ _ _ c.args.limit c.requires.1 c.requires.3 c.args.answer.now _ _ _ c.if-limit-k.false c.if-answer-m.false c.put_solid-end.ensures.value c.answer.ensures c.put_solid-end.ensures.out_after
