use mathlib.Core.Path.{◌∙◌}
use native.Mathlib.Omega.{arith}
use Rattle.fused_bytes.specs.Laws.{listing_printable, listing_answered}
use Rattle.fused_bytes.proofs.fused_bytes.Goals as goal

pub fuse_list-y-requires : goal.fuse_list-y-requires
fuse_list-y-requires c = let h = c.requires in (h.0, h.1, h.2)

pub put_listing-requires : goal.put_listing-requires
put_listing-requires c =
    let h = c.requires in
    let l = c.requires.1 in
    let g = c.fuse_list-y in
    λ m v. listing_printable h.0 _ g.ensures l.points l.cycles l.starts l.owners m v _ _ l.low (omega (arith, l.corners, g.auto.corners)) h.3

pub shape_of-sizes : goal.shape_of-sizes
shape_of-sizes c = c.fuse_list-y.auto.sizes

pub shape_of-points : goal.shape_of-points
shape_of-points c = c.fuse_list-y.auto.points

pub shape_of-corners : goal.shape_of-corners
shape_of-corners c = c.put_listing.auto.spots ∙ c.fuse_list-y.auto.corners

pub shape_of-cycles : goal.shape_of-cycles
shape_of-cycles c = c.fuse_list-y.auto.cycles

pub shape_of-lengths : goal.shape_of-lengths
shape_of-lengths c = c.fuse_list-y.auto.lengths

pub shape_of-starts : goal.shape_of-starts
shape_of-starts c = c.fuse_list-y.auto.starts

pub shape_of-owners : goal.shape_of-owners
shape_of-owners c = c.fuse_list-y.auto.owners

pub shape_of-cells : goal.shape_of-cells
shape_of-cells c = c.fuse_list-y.auto.cells

pub shape_of-cuts : goal.shape_of-cuts
shape_of-cuts c = c.fuse_list-y.auto.cuts

pub shape_of-runs : goal.shape_of-runs
shape_of-runs c = c.fuse_list-y.auto.runs

pub shape_of-k : goal.shape_of-k
shape_of-k c = c.fuse_list-y.auto.k

pub shape_of-s : goal.shape_of-s
shape_of-s c = c.fuse_list-y.auto.s

pub shape_of-ord : goal.shape_of-ord
shape_of-ord c = c.fuse_list-y.auto.ord

pub shape_of-ends : goal.shape_of-ends
shape_of-ends c = c.fuse_list-y.auto.ends

pub shape_of-marks : goal.shape_of-marks
shape_of-marks c = c.fuse_list-y.auto.marks

pub shape_of-out : goal.shape_of-out
shape_of-out c = c.fuse_list-y.auto.out

pub shape_of-many : goal.shape_of-many
shape_of-many c = c.fuse_list-y.auto.many

pub shape_of-shells : goal.shape_of-shells
shape_of-shells c = c.fuse_list-y.auto.shells

pub shape_of-answer : goal.shape_of-answer
shape_of-answer c = c.put_listing.auto.out

pub returns : goal.returns
returns c = let h = c.requires in
    let l = c.requires.1 in
    let g = c.fuse_list-y in
    let p = c.put_listing.ensures in
    record { value = (listing_answered h.0 _ g.ensures l.points l.cycles l.starts l.owners _ (omega (arith, l.corners, g.auto.corners)) _ _ _ p.value p.out_after).0; answer_after = (listing_answered h.0 _ g.ensures l.points l.cycles l.starts l.owners _ (omega (arith, l.corners, g.auto.corners)) _ _ _ p.value p.out_after).1 }
