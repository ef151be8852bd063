use Rattle.std.specs.Prelude.{◌≡◌, Err}
use borrow.Author.Rules.{rules}
use Rattle.arrangement.specs.Laws.{faces_facing, few_faces, lent_work, faces_owned, starts_ask, list_refused, list_laid}
use native.Mathlib.Omega.{arith}
use Rattle.arrangement.proofs.arrange_list.Goals as goal

pub arrange_faces-requires : goal.arrange_faces-requires
arrange_faces-requires c = (faces_facing c.requires.0, lent_work c.requires.1 (few_faces c.requires.0))

pub returns-in_err-r : goal.returns-in_err-r
returns-in_err-r c =
    let told : c.from_residual.result ≡ Err c.in_err-r.field-0.0 = search rules in
    list_refused _ c.requires.0 c.arrange_faces.ensures _ _ _ _ _ _ c.in_err-r.was told

pub owners_of-requires : goal.owners_of-requires
owners_of-requires c = faces_owned c.requires.0 _ c.requires.1.owners

pub starts_of-requires : goal.starts_of-requires
starts_of-requires c = let A = starts_ask _ c.requires.0 c.arrange_faces.ensures c.requires.1.low c.requires.1.lengths _ c.in_ok-r.was in (A.0, omega (arith, A.1, c.requires.1.lengths, c.arrange_faces.auto.lengths), omega (arith, A.1, c.requires.1.starts))

pub shape_of-points : goal.shape_of-points
shape_of-points c = c.arrange_faces.auto.points

pub shape_of-corners : goal.shape_of-corners
shape_of-corners c = c.arrange_faces.auto.corners

pub shape_of-cycles : goal.shape_of-cycles
shape_of-cycles c = c.arrange_faces.auto.cycles

pub shape_of-lengths : goal.shape_of-lengths
shape_of-lengths c = c.arrange_faces.auto.lengths

pub shape_of-starts : goal.shape_of-starts
shape_of-starts c = c.starts_of.auto.starts

pub shape_of-owners : goal.shape_of-owners
shape_of-owners c = c.owners_of.auto.owners

pub returns : goal.returns
returns c = list_laid _ c.requires.0 c.arrange_faces.ensures c.requires.1.low c.requires.1.lengths _ c.in_ok-r.was _ _ _ _ c.owners_of.ensures c.starts_of.ensures
