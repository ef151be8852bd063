use mathlib.Core.Path.{◌∙◌}
use Rattle.clear.specs.Clear.{zeros_same, floats_same}
use Rattle.solid_fuse.proofs.half_cleared.Goals as goal

pub shape_of-rest : goal.shape_of-rest
shape_of-rest c = c.zero3.auto.a ∙ c.served-ended.auto.rest

pub shape_of-spare : goal.shape_of-spare
shape_of-spare c = c.zero3.auto.b ∙ c.served-ended.auto.spare

pub shape_of-dst : goal.shape_of-dst
shape_of-dst c = c.zero3.auto.c ∙ c.served-ended.auto.dst

pub shape_of-held : goal.shape_of-held
shape_of-held c = c.zero_counts4.auto.a ∙ c.served-ended.auto.held

pub shape_of-slots : goal.shape_of-slots
shape_of-slots c = c.zero_counts4.auto.b ∙ c.served-ended.auto.slots

pub shape_of-counts : goal.shape_of-counts
shape_of-counts c = c.zero_counts4.auto.c ∙ c.served-ended.auto.counts

pub shape_of-sizes : goal.shape_of-sizes
shape_of-sizes c = c.zero_counts4.auto.d ∙ c.served-ended.auto.sizes

pub shape_of-seats : goal.shape_of-seats
shape_of-seats c = c.zero_counts4-2.auto.a ∙ c.served-ended.auto.seats

pub shape_of-lengths : goal.shape_of-lengths
shape_of-lengths c = c.zero_counts4-2.auto.b ∙ c.served-ended.auto.lengths

pub shape_of-owners : goal.shape_of-owners
shape_of-owners c = c.zero_counts4-2.auto.c ∙ c.served-ended.auto.owners

pub shape_of-cells : goal.shape_of-cells
shape_of-cells c = c.zero_counts4-2.auto.d ∙ c.served-ended.auto.cells

pub shape_of-cuts : goal.shape_of-cuts
shape_of-cuts c = c.served-ended.auto.cuts

pub shape_of-runs : goal.shape_of-runs
shape_of-runs c = c.served-ended.auto.runs

pub shape_of-keys : goal.shape_of-keys
shape_of-keys c = c.served-ended.auto.keys

pub shape_of-begins : goal.shape_of-begins
shape_of-begins c = c.served-ended.auto.begins

pub shape_of-ord : goal.shape_of-ord
shape_of-ord c = c.served-ended.auto.ord

pub shape_of-ends : goal.shape_of-ends
shape_of-ends c = c.served-ended.auto.ends

pub shape_of-marks : goal.shape_of-marks
shape_of-marks c = c.served-ended.auto.marks

pub shape_of-out : goal.shape_of-out
shape_of-out c = c.served-ended.auto.out

pub shape_of-many : goal.shape_of-many
shape_of-many c = c.served-ended.auto.many

pub shape_of-shells : goal.shape_of-shells
shape_of-shells c = c.served-ended.auto.shells

pub shape_of-answer : goal.shape_of-answer
shape_of-answer c = c.served-ended.auto.answer

pub returns : goal.returns
returns c = let S = c.served-ended in
    record {
      fuse_ended = S.ensures;
      half = record {
        z_rest = c.zero3.ensures.a_after ∙ floats_same _ _ S.auto.rest;
        z_spare = c.zero3.ensures.b_after ∙ floats_same _ _ S.auto.spare;
        z_dst = c.zero3.ensures.c_after ∙ floats_same _ _ S.auto.dst;
        z_held = c.zero_counts4.ensures.a_after ∙ zeros_same _ _ S.auto.held;
        z_slots = c.zero_counts4.ensures.b_after ∙ zeros_same _ _ S.auto.slots;
        z_counts = c.zero_counts4.ensures.c_after ∙ zeros_same _ _ S.auto.counts;
        z_sizes = c.zero_counts4.ensures.d_after ∙ zeros_same _ _ S.auto.sizes;
        z_seats = c.zero_counts4-2.ensures.a_after ∙ zeros_same _ _ S.auto.seats;
        z_lengths = c.zero_counts4-2.ensures.b_after ∙ zeros_same _ _ S.auto.lengths;
        z_owners = c.zero_counts4-2.ensures.c_after ∙ zeros_same _ _ S.auto.owners;
        z_cells = c.zero_counts4-2.ensures.d_after ∙ zeros_same _ _ S.auto.cells;
      };
    }
