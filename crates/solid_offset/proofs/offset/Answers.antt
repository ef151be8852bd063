use mathlib.Core.Path.{ap, ◌∙◌}
use lib.ListN.{replicate}
use lib.Ieee.{binary64, of_bits}
use Rattle.solid_offset.specs.Entries.{offset_entry}
use Rattle.solid_offset.specs.Laws.{lent_ample, told_with}
use native.Mathlib.Omega.{arith}
use Rattle.solid_offset.proofs.offset.Goals as goal

pub offset_served-e-requires : goal.offset_served-e-requires
offset_served-e-requires c =
    lent_ample _ _ _ _ _ _ _ c.is_lent-lends.ensures

pub told_by-requires : goal.told_by-requires
told_by-requires c = omega (arith, c.offset_served-e.ensures.few)

pub shape_of-s : goal.shape_of-s
shape_of-s c =
    c.zero.auto.s ∙ c.offset_served-e.auto.s

pub shape_of-counts : goal.shape_of-counts
shape_of-counts c =
    c.zero_counts.auto.s ∙ c.offset_served-e.auto.counts

pub shape_of-dst : goal.shape_of-dst
shape_of-dst c =
    c.zero-2.auto.s ∙ c.offset_served-e.auto.dst

pub shape_of-sizes : goal.shape_of-sizes
shape_of-sizes c =
    c.zero_counts-2.auto.s ∙ c.offset_served-e.auto.sizes

pub shape_of-answer : goal.shape_of-answer
shape_of-answer c =
    c.offset_served-e.auto.answer

pub returns : goal.returns
returns c = let t = told_with (λ b. offset_entry b c.args.corners c.args.distance c.args.cell.now) c.args.answer.now _ _ _ c.offset_served-e.ensures c.told_by.ensures c.is_lent-lends.ensures in
    record { value = t.0; answer_after = t.1; cleared = record { first = c.zero.ensures ∙ ap (λ n. replicate n (of_bits binary64 0)) c.offset_served-e.auto.s; held = c.zero_counts.ensures ∙ ap (λ n. replicate n 0) c.offset_served-e.auto.counts; second = c.zero-2.ensures ∙ ap (λ n. replicate n (of_bits binary64 0)) c.offset_served-e.auto.dst; sized = c.zero_counts-2.ensures ∙ ap (λ n. replicate n 0) c.offset_served-e.auto.sizes } }
