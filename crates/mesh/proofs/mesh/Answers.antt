use mathlib.Core.Path.{sym, ap, ◌∙◌}
use mathlib.Core.Bool.{not}
use Prim.Native.Nat.{◌≤◌, ◌<◌}
use native.Mathlib.Omega.{arith}
use lib.ListN.{length}
use borrow.Author.Tests.{lt-ltb, le-ltb}
use Rattle.outline.specs.Project.{facet_of}
use Rattle.mesh.specs.Mesh.{mesh_of}
use Rattle.mesh.specs.Laws.{facet_size, unless_yes, unless_no}
use Rattle.mesh.proofs.mesh.Goals as goal

pub returns-then-s-gt128 : goal.returns-then-s-gt128
unfolding mesh_of
returns-then-s-gt128 c =
    let s = c.args.s.now in
    let h : 128 < length (facet_of s) = omega (arith, facet_size s, c.if-s-gt128.true) in
    unless_yes _ _ _ _ (lt-ltb _ _ h) c.refuse.ensures

pub returns-then-not-is_fair : goal.returns-then-not-is_fair
unfolding mesh_of
returns-then-not-is_fair c =
    let s = c.args.s.now in
    let h : length (facet_of s) ≤ 128 = omega (arith, facet_size s, c.if-s-gt128.false) in
    unless_no _ _ _ _ (le-ltb _ _ h) (unless_yes _ _ _ _ (sym (ap not c.is_fair.ensures) ∙ (ap not c.if-not-is_fair.true)) c.refuse-then-not-is_fair.ensures)

pub returns : goal.returns
unfolding mesh_of
returns c =
    let s = c.args.s.now in
    let h : length (facet_of s) ≤ 128 = omega (arith, facet_size s, c.if-s-gt128.false) in
    unless_no _ _ _ _ (le-ltb _ _ h) (unless_no _ _ _ _ (sym (ap not c.is_fair.ensures) ∙ (ap not c.if-not-is_fair.false)) c.mesh_on.ensures)
