use Rattle.std.specs.Prelude.{◌≡◌, Err}
use borrow.Author.Rules.{rules}
use mathlib.Core.Path.{◌∙◌}
use Rattle.fuse_list.specs.Laws.{list_ready, list_told, list_unfused, list_refused}
use Rattle.fuse_list.specs.Steps.{tools_on}
use Rattle.fuse_list.proofs.fuse_list.Goals as goal

pub arrangement-arranged-requires : goal.arrangement-arranged-requires
arrangement-arranged-requires c = (c.requires.0, c.requires.1)

pub fuse_laid-requires : goal.fuse_laid-requires
fuse_laid-requires c =
    let h = c.requires in
    let l = c.requires.1 in
    let g = c.arrangement-arranged in (
      λ x e. list_ready h.0 _ g.ensures l.points l.cycles l.starts l.owners x (c.in_ok-layout.was ∙ e),
      tools_on _ _ h.2 g.auto.corners g.auto.lengths,
    )

pub shape_of-sizes : goal.shape_of-sizes
shape_of-sizes c = c.fuse_laid.auto.nodes

pub shape_of-points : goal.shape_of-points
shape_of-points c = c.arrangement-arranged.auto.points

pub shape_of-corners : goal.shape_of-corners
shape_of-corners c = c.fuse_laid.auto.ext ∙ c.arrangement-arranged.auto.corners

pub shape_of-cycles : goal.shape_of-cycles
shape_of-cycles c = c.arrangement-arranged.auto.cycles

pub shape_of-lengths : goal.shape_of-lengths
shape_of-lengths c = c.fuse_laid.auto.faces ∙ c.arrangement-arranged.auto.lengths

pub shape_of-starts : goal.shape_of-starts
shape_of-starts c = c.arrangement-arranged.auto.starts

pub shape_of-owners : goal.shape_of-owners
shape_of-owners c = c.arrangement-arranged.auto.owners

pub shape_of-cells : goal.shape_of-cells
shape_of-cells c = c.fuse_laid.auto.cells

pub shape_of-cuts : goal.shape_of-cuts
shape_of-cuts c = c.fuse_laid.auto.cuts

pub shape_of-runs : goal.shape_of-runs
shape_of-runs c = c.fuse_laid.auto.d

pub shape_of-k : goal.shape_of-k
shape_of-k c = c.fuse_laid.auto.k

pub shape_of-s : goal.shape_of-s
shape_of-s c = c.fuse_laid.auto.s

pub shape_of-ord : goal.shape_of-ord
shape_of-ord c = c.fuse_laid.auto.ord

pub shape_of-ends : goal.shape_of-ends
shape_of-ends c = c.fuse_laid.auto.ends

pub shape_of-marks : goal.shape_of-marks
shape_of-marks c = c.fuse_laid.auto.marks

pub shape_of-out : goal.shape_of-out
shape_of-out c = c.fuse_laid.auto.out

pub shape_of-many : goal.shape_of-many
shape_of-many c = c.fuse_laid.auto.sizes

pub shape_of-shells : goal.shape_of-shells
shape_of-shells c = c.fuse_laid.auto.shells

pub returns-in_err-layout : goal.returns-in_err-layout
returns-in_err-layout c =
    let h = c.requires in
    let l = c.requires.1 in
    let g = c.arrangement-arranged in
    let told : c.from_residual.result ≡ Err c.in_err-layout.field-0.0 = search rules in
    list_refused h.0 _ g.ensures l.points l.cycles l.starts l.owners _ _ c.in_err-layout.was told

pub returns-in_err-fused : goal.returns-in_err-fused
returns-in_err-fused c =
    let h = c.requires in
    let l = c.requires.1 in
    let g = c.arrangement-arranged in
    let told : c.from_residual-in_err-fused.result ≡ Err c.in_err-fused.field-0.0 = search rules in
    list_unfused h.0 _ g.ensures l.points l.cycles l.starts l.owners _ c.in_ok-layout.was _ c.fuse_laid.ensures _ _ c.in_err-fused.was told

pub returns : goal.returns
returns c =
    let h = c.requires in
    let l = c.requires.1 in
    let g = c.arrangement-arranged in
    list_told h.0 _ g.ensures l.points l.cycles l.starts l.owners _ c.in_ok-layout.was _ c.fuse_laid.ensures _ c.in_ok-fused.was
