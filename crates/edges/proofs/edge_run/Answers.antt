use Rattle.std.specs.Prelude.{◌≡◌, Err}
use Rattle.edges.specs.Pairing.{two_read, two_second, two_room, turn_two, turn_refused, turn_odd}
use Rattle.keys.specs.Sized.{place_in}
use borrow.Author.Rules.{rules}
use Rattle.edges.proofs.edge_run.Goals as goal

pub bounds-ord-p-then-size-eq2 : goal.bounds-ord-p-then-size-eq2
bounds-ord-p-then-size-eq2 c = search (rules, two_read)

pub edge_two-requires : goal.edge_two-requires
edge_two-requires c = (search rules, search (rules, place_in), search (rules, two_second), search (rules, two_room))

pub returns-in_err-edge_two : goal.returns-in_err-edge_two
returns-in_err-edge_two c =
    let r = c.requires in
    let told : c.from_residual.result ≡ Err c.in_err-edge_two.field-0.0 = search rules in
    turn_refused _ _ _ _ _ r.c_in_bounds.2 _ _ _ r.c_in_bounds.3 r.part _ _ _ c.run_size-size.ensures c.if-size-eq2.true c.edge_two.ensures.judged c.edge_two.ensures.stored _ _ c.in_err-edge_two.was told

pub returns-then-size-eq2 : goal.returns-then-size-eq2
returns-then-size-eq2 c = search (rules, turn_two)

pub returns : goal.returns
returns c = search (rules, turn_odd)
