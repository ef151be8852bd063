use Rattle.solid_offset.specs.Laws.{given_yard, hollow_brief}
use native.Mathlib.Omega.{arith}
use Rattle.solid_offset.proofs.hollow_here.Goals as goal

pub hollow_answer-requires : goal.hollow_answer-requires
hollow_answer-requires c =
    given_yard c.requires.0 (omega arith) (omega arith) (omega arith) (omega arith) c.requires.1 (record { ends_fit = omega arith; next_fits = omega arith; corners_fit = omega arith; head_fits = omega (arith, c.requires.0.few); seen_fits = omega (arith, c.requires.0.few); work_fits = omega (arith, c.requires.0.few); nodes_fit = omega (arith, c.requires.0.few); cuts_fit = omega (arith, c.requires.0.few) })

pub shape_of-s : goal.shape_of-s
shape_of-s c =
    c.hollow_answer.auto.s

pub shape_of-counts : goal.shape_of-counts
shape_of-counts c =
    c.hollow_answer.auto.counts

pub shape_of-dst : goal.shape_of-dst
shape_of-dst c =
    c.hollow_answer.auto.dst

pub shape_of-sizes : goal.shape_of-sizes
shape_of-sizes c =
    c.hollow_answer.auto.sizes

pub shape_of-answer : goal.shape_of-answer
shape_of-answer c =
    c.hollow_answer.auto.answer

pub returns : goal.returns
returns c =
    hollow_brief c.requires.0 _ c.args.limit _ c.args.answer.now _ _ c.hollow_answer.ensures
