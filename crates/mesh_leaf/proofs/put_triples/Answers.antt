use mathlib.Core.Path.{◌≡◌, sym, ◌∙◌}
use Prim.Native.Nat.{◌+◌, ◌*◌, ◌≤◌}
use lib.ListN.{length, drop, get_or}
use Rattle.lists.specs.Laws.{next, done}
use Rattle.mesh.specs.Mesh.{blank}
use Rattle.mesh_leaf.specs.Drawing.{triangles_in}
use Rattle.mesh_leaf.proofs.Answers.{places_next, places_none}
use borrow.Author.Rules.{rules}
use native.Mathlib.Omega.{arith}
use Rattle.mesh_leaf.proofs.put_triples.Goals as goal

pub loop-i-preserved : goal.loop-i-preserved
loop-i-preserved c =
    let k : length c.args.t.at ≡ 126 = c.well_formed.1.0.1.1.0.1.0.1 in
    let m : c.args.t.n ≤ length c.args.t.at = omega (arith, c.requires) in
    let e = next c.args.t.at c.args.t.n c.loop-i.i blank c.loop-i-test.true m in
    let o : 3 * (c.loop-i.i + 1) ≡ 3 * c.loop-i.i + 3 = omega arith in
    (search rules, rw (o, c.put_triangle.ensures) (sym (places_next c.loop-i.out (3 * c.loop-i.i) (get_or c.args.t.at c.loop-i.i blank) (drop (c.loop-i.i + 1) (triangles_in c.args.t))) ∙ (rw e at c.loop-i.invariant.1)))

pub returns : goal.returns
returns c = sym (places_none _ _) ∙ (rw (done c.args.t.at _ _ c.loop-i-test.false) at c.loop-i.invariant.1)
