use mathlib.Core.Path.{◌≡◌}
use lib.ListN.{length}
use Rattle.solid_mesh.specs.Laws.{drawing_start, drawing_turn, drawing_end, length_triples}
use native.Mathlib.Omega.{arith}
use Rattle.solid_mesh.proofs.put_triples.Goals as goal

pub loop-i-init : goal.loop-i-init
loop-i-init c = drawing_start _ _

pub loop-i-preserved : goal.loop-i-preserved
loop-i-preserved c =
    let k : length c.args.t.at ≡ 126 = c.well_formed.1.0.1.1.0.1.0.1 in
    drawing_turn c.args.t _ _ _ _ c.loop-i.invariant c.loop-i-test.true (omega (arith, c.requires, k)) c.put_triangle.ensures

pub returns : goal.returns
returns c = let k : length c.args.t.at ≡ 126 = c.well_formed.1.0.1.1.0.1.0.1 in
    let n = length_triples c.args.t (omega (arith, c.requires, k)) in
    record { value = (omega (arith, n), omega (arith, c.requires)); out_after = drawing_end c.args.t _ _ _ c.loop-i.invariant c.loop-i-test.false }
