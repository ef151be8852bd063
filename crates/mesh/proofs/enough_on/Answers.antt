use Rattle.std.specs.Prelude.{Ok}
use Rattle.std.proofs.lemmas.Result.{err_from_is_err_and}
use mathlib.Core.Path.{◌≡◌, sym, ap, ◌∙◌}
use mathlib.Core.List.{List, []}
use Prim.Native.Nat.{◌/◌, ◌≤◌, ◌<◌}
use native.Mathlib.Omega.{arith}
use lib.ListN.{length}
use lib.Ieee.{Float}
use borrow.Author.Tests.{lt-ltb, le-ltb}
use Rattle.refusal.specs.Outcome.{Outcome, each}
use Rattle.refusal.specs.Laws.{stop, go}
use Rattle.space.specs.declared.Plane.{Plane}
use Rattle.turns.specs.declared.Projected.{Projected}
use Rattle.outline.specs.Project.{projected_of, facet_of}
use Rattle.mesh.specs.Mesh.{triangles_of, enough_on, meshed}
use Rattle.mesh.specs.Laws.{facet_size, unless_yes, unless_no, drawn, drawn_count, undrawn, each_count, meshed_stop}
use Rattle.mesh.proofs.enough_on.Goals as goal

abbrev shadows : Plane → List Float → Outcome (List Projected)
shadows w s = each (projected_of w) [] (facet_of s)

count : (w : Plane) (s : List Float) (l : List Projected) → shadows w s ≡ Ok l → length l ≡ length s / 3
count w s l e = each_count (projected_of w) [] (facet_of s) l e ∙ omega (arith, facet_size s)

pub returns-then-s-lt3 : goal.returns-then-s-lt3
unfolding enough_on
returns-then-s-lt3 c =
    let s = c.args.s.now in
    let h : length (facet_of s) < 3 = omega (arith, facet_size s, c.if-s-lt3.true) in
    unless_yes _ _ _ _ (lt-ltb _ _ h) c.refuse.ensures

pub triangles-requires : goal.triangles-requires
triangles-requires c =
    let s = c.args.s.now in
    let e = drawn_count (shadows c.args.plane s) c.outline_of.result _ (length s / 3) c.outline_of.ensures c.in_ok-o.was (count c.args.plane s) in
    (omega (arith, c.if-s-lt3.false), omega (arith, c.requires))

pub returns-in_err-o : goal.returns-in_err-o
unfolding enough_on
returns-in_err-o c =
    let s = c.args.s.now in
    let h : 3 ≤ length (facet_of s) = omega (arith, facet_size s, c.if-s-lt3.false) in
    let d = undrawn (shadows c.args.plane s) c.outline_of.result _ c.outline_of.ensures c.in_err-o.was in
    let p = err_from_is_err_and c.from_residual.result c.from_residual.ensures.1 in
    rw (p.1, p.2) (unless_no _ _ _ _ (le-ltb _ _ h) (meshed_stop _ _ (stop (shadows c.args.plane s) (triangles_of c.args.p) _ d)))

pub returns : goal.returns
unfolding enough_on
returns c =
    let s = c.args.s.now in
    let h : 3 ≤ length (facet_of s) = omega (arith, facet_size s, c.if-s-lt3.false) in
    let d = drawn (shadows c.args.plane s) c.outline_of.result _ c.outline_of.ensures c.in_ok-o.was in
    unless_no _ _ _ _ (le-ltb _ _ h) (c.triangles.ensures ∙ ap meshed (sym (go (shadows c.args.plane s) (triangles_of c.args.p) _ d)))
