use Rattle.std.specs.Prelude.{◌≡◌, Err}
use Rattle.fusing.specs.Body.{border_size, border_listed, border_room, bordered, border_refused}
use borrow.Author.Rules.{rules}
use Rattle.fusing.proofs.body_edges.Goals as goal

pub slice_bounds-check_edges-end-2 : goal.slice_bounds-check_edges-end-2
slice_bounds-check_edges-end-2 c = search (rules, border_size)

pub check_edges-requires : goal.check_edges-requires
check_edges-requires c = let B = c.body_faces-m.ensures in
    record { listed = border_listed _ _ _ _ _ _ _ c.requires.starts.1 B.faces c.requires.starts.0; room = border_room _ _ _ _ _ _ _ c.requires.starts.1 B.faces _ _ _ _ _ c.requires.room }

pub returns-in_err-p : goal.returns-in_err-p
returns-in_err-p c =
    let B = c.body_faces-m.ensures in
    let told : c.from_residual.result ≡ Err c.in_err-p.field-0.0 = search rules in
    border_refused _ _ _ _ _ _ _ _ _ _ B.faces B.few c.requires.starts.2 c.body_faces-m.auto.faces c.check_edges.ensures _ _ c.in_err-p.was told

pub returns : goal.returns
returns c =
    let B = c.body_faces-m.ensures in
    bordered _ _ _ _ _ _ _ _ _ _ B.faces B.few c.requires.starts.2 c.body_faces-m.auto.faces c.check_edges.ensures _ c.in_ok-p.was
