use Prim.Native.Nat.{◌≤◌, ◌<◌}
use native.Mathlib.Omega.{arith}
use lib.ListN.{length}
use Rattle.polygon.specs.Polygons.{corners_of}
use Rattle.cell.specs.Laws.{turned_drop, turned_keep}
use Rattle.cell.proofs.keep_face.Goals as goal

pub returns-then-p-lt3 : goal.returns-then-p-lt3
returns-then-p-lt3 c =
    let h : length (corners_of c.args.p) < 3 = omega (arith, c.requires.n_bound.1, c.if-p-lt3.true) in
    turned_drop _ _ _ (record { plane = c.args.w; points = corners_of c.args.p }) _ _ _ c.requires.fits.few c.requires.fits.fit h

pub returns : goal.returns
returns c =
    let h : 3 ≤ length (corners_of c.args.p) = omega (arith, c.requires.n_bound.1, c.if-p-lt3.false) in
    turned_keep _ _ _ (record { plane = c.args.w; points = corners_of c.args.p }) _ _ _ _ _ _ h c.add_face.ensures
