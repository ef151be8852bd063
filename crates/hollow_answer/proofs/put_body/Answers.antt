use mathlib.Core.Path.{◌∙◌}
use Rattle.hollow_answer.specs.Laws.{body_within, body_inner, body_total, body_full, body_first, body_second, body_all}
use native.Mathlib.Omega.{arith}
use Rattle.hollow_answer.proofs.put_body.Goals as goal

pub corners_of-outer-requires : goal.corners_of-outer-requires
corners_of-outer-requires c =
    c.requires.outer

pub overflow_mul-at : goal.overflow_mul-at
overflow_mul-at c =
    omega (arith, body_within c.args.s.now c.args.counts.now c.args.n c.requires _ c.corners_of-outer.ensures.0, c.corners_of-outer.ensures.1, c.requires.inner.listed, c.well_formed)

pub overflow_mul-at-2 : goal.overflow_mul-at-2
overflow_mul-at-2 c =
    omega (arith, body_within c.args.s.now c.args.counts.now c.args.n c.requires _ c.corners_of-outer.ensures.0, c.corners_of-outer.ensures.1, c.requires.inner.listed, c.well_formed)

pub overflow_add-at : goal.overflow_add-at
overflow_add-at c =
    omega (arith, body_within c.args.s.now c.args.counts.now c.args.n c.requires _ c.corners_of-outer.ensures.0, c.corners_of-outer.ensures.1, c.requires.inner.listed, c.well_formed)

pub corners_of-inner-requires : goal.corners_of-inner-requires
corners_of-inner-requires c =
    body_inner c.args.s.now c.args.counts.now c.args.n c.requires _ c.corners_of-outer.ensures.0

pub overflow_mul-n : goal.overflow_mul-n
overflow_mul-n c =
    omega (arith, body_total c.args.s.now c.args.counts.now c.args.n c.requires _ c.corners_of-outer.ensures.0 _ c.corners_of-inner.ensures.0, c.well_formed)

pub overflow_add-n : goal.overflow_add-n
overflow_add-n c =
    omega (arith, body_total c.args.s.now c.args.counts.now c.args.n c.requires _ c.corners_of-outer.ensures.0 _ c.corners_of-inner.ensures.0, c.well_formed)

pub overflow_add-outer : goal.overflow_add-outer
overflow_add-outer c =
    omega (arith, body_total c.args.s.now c.args.counts.now c.args.n c.requires _ c.corners_of-outer.ensures.0 _ c.corners_of-inner.ensures.0, c.well_formed)

pub overflow_mul-outer : goal.overflow_mul-outer
overflow_mul-outer c =
    omega (arith, body_total c.args.s.now c.args.counts.now c.args.n c.requires _ c.corners_of-outer.ensures.0 _ c.corners_of-inner.ensures.0, c.well_formed)

pub overflow_add-n-2 : goal.overflow_add-n-2
overflow_add-n-2 c =
    omega (arith, body_total c.args.s.now c.args.counts.now c.args.n c.requires _ c.corners_of-outer.ensures.0 _ c.corners_of-inner.ensures.0, c.well_formed)

pub returns-then-answer-n : goal.returns-then-answer-n
returns-then-answer-n c =
    body_full c.args.s.now c.args.counts.now c.args.n c.requires _ c.corners_of-outer.ensures.0 _ c.corners_of-inner.ensures.0 c.args.answer.now _ _ c.if-answer-n.true c.refuse.ensures c.stop.ensures

pub put_count-requires : goal.put_count-requires
put_count-requires c =
    omega (arith, c.if-answer-n.false)

pub put_shell-middle-requires : goal.put_shell-middle-requires
put_shell-middle-requires c =
    (c.requires.outer.listed, c.requires.outer.within, body_first c.args.s.now c.args.counts.now c.args.n c.requires _ c.corners_of-outer.ensures.0 _ c.corners_of-inner.ensures.0 c.args.answer.now c.if-answer-n.false _ c.put_count.ensures)

pub put_shell-end-requires : goal.put_shell-end-requires
put_shell-end-requires c =
    ((body_inner c.args.s.now c.args.counts.now c.args.n c.requires _ c.corners_of-outer.ensures.0).listed, (body_inner c.args.s.now c.args.counts.now c.args.n c.requires _ c.corners_of-outer.ensures.0).within, body_second c.args.s.now c.args.counts.now c.args.n c.requires _ c.corners_of-outer.ensures.0 _ c.corners_of-inner.ensures.0 c.args.answer.now c.if-answer-n.false _ c.put_count.ensures _ c.put_shell-middle.ensures.value _ c.put_shell-middle.ensures.out_after)

pub shape_of-answer : goal.shape_of-answer
shape_of-answer c =
    c.put_shell-end.auto.out ∙ c.put_shell-middle.auto.out ∙ c.put_count.auto.out

pub returns : goal.returns
returns c =
    body_all c.args.s.now c.args.counts.now c.args.n c.requires _ c.corners_of-outer.ensures.0 _ c.corners_of-inner.ensures.0 c.args.answer.now c.if-answer-n.false _ c.put_count.ensures _ c.put_shell-middle.ensures.value _ c.put_shell-middle.ensures.out_after _ _ _ c.put_shell-end.ensures.value c.put_shell-end.ensures.out_after c.answer.ensures
