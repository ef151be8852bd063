use Rattle.edges.specs.Whole.{room_runs, room_keys, room_begins, room_order, room_ends, edged, rims_fine, rims_ordered}
use borrow.Author.Rules.{rules}
use Rattle.edges.proofs.check_edges.Goals as goal

pub edge_keys-requires : goal.edge_keys-requires
edge_keys-requires c = (search (rules, room_runs), search (rules, room_keys), search (rules, room_begins))

pub sort_keys-requires : goal.sort_keys-requires
sort_keys-requires c = (search (rules, rims_fine), search (rules, room_order))

pub walk_edges-requires : goal.walk_edges-requires
walk_edges-requires c = let A = c in
    let R = c in
    let K = c in
    record { c_in_bounds = (search (rules, room_runs), K.edge_keys.ensures.fine, rims_ordered _ _ _ _ _ (room_order _ _ _ _ _ _ _ _ _ _ A.requires.room R.all_runs-c.ensures) c.sort_keys.ensures); c_value = (K.edge_keys.ensures.keys, search (rules, room_ends)) }

pub returns : goal.returns
returns c =
    let A = c in
    edged _ _ _ _ _ _ _ _ _ _ A.requires.room c.all_runs-c.ensures _ _ c.walk_edges.ensures
