use native.Mathlib.Nat.{mod-lt}
use borrow.Author.Rules.{rules}
use Rattle.polygon.specs.Memory.{points_at}
use Rattle.solids.specs.Turning.{flat_read}
use Rattle.solids.proofs.flat_at.Goals as goal

pub overflow_add-at : goal.overflow_add-at
overflow_add-at c = let z = mod-lt c.args.i {m = c.args.n} c.requires.2 in search (rules, z)

pub offset_bounds-places-at : goal.offset_bounds-places-at
offset_bounds-places-at c = let z = mod-lt c.args.i {m = c.args.n} c.requires.2 in search (rules, z)

pub bounds-places-at : goal.bounds-places-at
bounds-places-at c = let z = mod-lt c.args.i {m = c.args.n} c.requires.2 in search (rules, z)

pub returns : goal.returns
returns c =
    let A = c.args in
    flat_read A.w A.places.now (points_at A.points.now 0 A.m) A.at A.n A.i c.requires.2 c.requires.0 c.point_of-q.ensures c.flat.ensures
