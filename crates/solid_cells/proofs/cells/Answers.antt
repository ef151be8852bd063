use mathlib.Core.Path.{◌∙◌}
use Rattle.clear.specs.Clear.{zeros_same, floats_same}
use Rattle.solid_cells.specs.Laws.{entry_lent}
use Rattle.solid_cells.proofs.cells.Goals as goal

pub served-ended-requires : goal.served-ended-requires
served-ended-requires c = c.is_lent-enough.ensures

pub shape_of-rest : goal.shape_of-rest
shape_of-rest c = c.zero3.auto.a ∙ c.served-ended.auto.rest

pub shape_of-spare : goal.shape_of-spare
shape_of-spare c = c.zero3.auto.b ∙ c.served-ended.auto.spare

pub shape_of-dst : goal.shape_of-dst
shape_of-dst c = c.zero3.auto.c ∙ c.served-ended.auto.dst

pub shape_of-held : goal.shape_of-held
shape_of-held c = c.zero_counts4.auto.a ∙ c.served-ended.auto.held

pub shape_of-slots : goal.shape_of-slots
shape_of-slots c = c.zero_counts4.auto.b ∙ c.served-ended.auto.slots

pub shape_of-counts : goal.shape_of-counts
shape_of-counts c = c.zero_counts4.auto.c ∙ c.served-ended.auto.counts

pub shape_of-sizes : goal.shape_of-sizes
shape_of-sizes c = c.zero_counts4.auto.d ∙ c.served-ended.auto.sizes

pub shape_of-order : goal.shape_of-order
shape_of-order c = c.zero_counts4-2.auto.a ∙ c.served-ended.auto.order

pub shape_of-chain : goal.shape_of-chain
shape_of-chain c = c.zero_counts4-2.auto.b ∙ c.served-ended.auto.chain

pub shape_of-head : goal.shape_of-head
shape_of-head c = c.zero_counts4-2.auto.c ∙ c.served-ended.auto.head

pub shape_of-seen : goal.shape_of-seen
shape_of-seen c = c.zero_counts4-2.auto.d ∙ c.served-ended.auto.seen

pub shape_of-work : goal.shape_of-work
shape_of-work c = c.zero_counts3.auto.a ∙ c.served-ended.auto.work

pub shape_of-nodes : goal.shape_of-nodes
shape_of-nodes c = c.zero_counts3.auto.b ∙ c.served-ended.auto.nodes

pub shape_of-cuts : goal.shape_of-cuts
shape_of-cuts c = c.zero_counts3.auto.c ∙ c.served-ended.auto.cuts

pub shape_of-answer : goal.shape_of-answer
shape_of-answer c = c.served-ended.auto.answer

pub returns : goal.returns
returns c = let A = c.args in
    let K = c.served-ended.auto in
    let E = entry_lent _ _ A.corners A.job.now _ A.answer.now _ c.is_lent-enough.ensures (c.served-ended.ensures.value, c.served-ended.ensures.answer_after) in
    let z3 = c.zero3.ensures in
    let z4 = c.zero_counts4.ensures in
    let y4 = c.zero_counts4-2.ensures in
    let y3 = c.zero_counts3.ensures in
    record {
      value = E.0;
      answer_after = E.1;
      cleared = record {
        z_rest = z3.a_after ∙ floats_same _ _ K.rest;
        z_spare = z3.b_after ∙ floats_same _ _ K.spare;
        z_dst = z3.c_after ∙ floats_same _ _ K.dst;
        z_held = z4.a_after ∙ zeros_same _ _ K.held;
        z_slots = z4.b_after ∙ zeros_same _ _ K.slots;
        z_counts = z4.c_after ∙ zeros_same _ _ K.counts;
        z_sizes = z4.d_after ∙ zeros_same _ _ K.sizes;
        z_order = y4.a_after ∙ zeros_same _ _ K.order;
        z_chain = y4.b_after ∙ zeros_same _ _ K.chain;
        z_head = y4.c_after ∙ zeros_same _ _ K.head;
        z_seen = y4.d_after ∙ zeros_same _ _ K.seen;
        z_work = y3.a_after ∙ zeros_same _ _ K.work;
        z_nodes = y3.b_after ∙ zeros_same _ _ K.nodes;
        z_cuts = y3.c_after ∙ zeros_same _ _ K.cuts;
      };
    }
