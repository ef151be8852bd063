use Rattle.std.specs.Prelude.{◌≡◌, Err}
use borrow.Author.Rules.{rules}
use Rattle.arrangement.specs.Laws.{list_stands, list_arranged, list_gone}
use Rattle.arrangement.proofs.arrangement.Goals as goal

pub arrange_list-requires : goal.arrange_list-requires
arrange_list-requires c = (list_stands c.requires.0 c.in_ok-v.was, c.requires.1)

pub shape_of-points : goal.shape_of-points
shape_of-points c = c.arrange_list.auto.points

pub shape_of-corners : goal.shape_of-corners
shape_of-corners c = c.arrange_list.auto.corners

pub shape_of-cycles : goal.shape_of-cycles
shape_of-cycles c = c.arrange_list.auto.cycles

pub shape_of-lengths : goal.shape_of-lengths
shape_of-lengths c = c.arrange_list.auto.lengths

pub shape_of-starts : goal.shape_of-starts
shape_of-starts c = c.arrange_list.auto.starts

pub shape_of-owners : goal.shape_of-owners
shape_of-owners c = c.arrange_list.auto.owners

pub returns-in_err-v : goal.returns-in_err-v
returns-in_err-v c =
    let told : c.from_residual.result ≡ Err c.in_err-v.field-0.0 = search rules in
    list_gone _ _ _ _ _ _ _ c.in_err-v.was told

pub returns : goal.returns
returns c = list_arranged c.requires.0 _ c.in_ok-v.was c.arrange_list.ensures
