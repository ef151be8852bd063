use Rattle.solid_offset.specs.Laws.{given_shop, offset_brief}
use native.Mathlib.Omega.{arith}
use Rattle.solid_offset.proofs.offset_here.Goals as goal

pub offset_answer-requires : goal.offset_answer-requires
offset_answer-requires c =
    given_shop c.requires.0 (omega arith) (omega arith) (omega arith) (omega arith) c.requires.1 c.requires.2 (record { ends_fit = omega arith; next_fits = omega arith; corners_fit = omega arith; head_fits = omega (arith, c.requires.0.few); seen_fits = omega (arith, c.requires.0.few); work_fits = omega (arith, c.requires.0.few); nodes_fit = omega (arith, c.requires.0.few); cuts_fit = omega (arith, c.requires.0.few) })

pub shape_of-dst : goal.shape_of-dst
shape_of-dst c =
    c.offset_answer.auto.dst

pub shape_of-sizes : goal.shape_of-sizes
shape_of-sizes c =
    c.offset_answer.auto.sizes

pub shape_of-answer : goal.shape_of-answer
shape_of-answer c =
    c.offset_answer.auto.answer

pub returns : goal.returns
returns c =
    offset_brief c.requires.0 _ c.args.limit _ c.args.answer.now _ _ c.offset_answer.ensures
