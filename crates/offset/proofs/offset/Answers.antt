use borrow.Author.Rules.{rules}
use mathlib.Core.List.{◌++◌}
use mathlib.Core.Path.{◌≡◌}
use lib.ListN.{length, drop, replicate}
use Rattle.offset.specs.Whole.{ready_for, same_distance}
use Rattle.offset.proofs.offset.Goals as goal

pub offset_distances-requires : goal.offset_distances-requires
offset_distances-requires c =
    let A = c.args in
    let long : length (c.fill.new.self ++ drop A.n A.by.now) ≡ length A.by.now = search rules in
    ready_for _ long c.requires

pub returns : goal.returns
returns c =
    let A = c.args in
    let long : length (c.fill.new.self ++ drop A.n A.by.now) ≡ length A.by.now = search rules in
    let same : c.fill.new.self ++ drop A.n A.by.now ≡ replicate A.n A.d ++ drop A.n A.by.now = search rules in
    same_distance (ready_for _ long c.requires) _ _ _ _ _ _ same c.offset_distances.ensures
