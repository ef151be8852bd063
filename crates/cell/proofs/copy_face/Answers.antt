use mathlib.Core.Path.{sym, ◌∙◌}
use Prim.Native.Nat.{◌+◌, ◌≤◌, ◌<◌}
use native.Mathlib.Omega.{arith}
use Rattle.polygon.specs.MemoryLaws.{length_points_at}
use Rattle.cell.specs.Laws.{turned_full, turned_added, counted, not_full}
use Rattle.cell.proofs.copy_face.Goals as goal

pub returns-then-is_full : goal.returns-then-is_full
returns-then-is_full c =
    turned_full _ _ _ _ _ _ _ _
    (counted _ _ _ _ _ _ _ (sym (length_points_at c.args.src.now (c.args.o + 13) c.args.n)) c.is_full.ensures c.if-is_full.true) c.refuse.ensures

pub copy_face-requires : goal.copy_face-requires
copy_face-requires c = let space : let A = c.args in (A.s.faces < 128) × (A.s.corners + A.n ≤ A.limit) = not_full _ _ _ _ (sym c.is_full.ensures ∙ c.if-is_full.false) in
    let X = space in
    (c.requires.n_bound.1, omega (arith, X.0, X.1, c.requires.fits.place), omega (arith, X.0, c.requires.fits.slots))

pub returns : goal.returns
returns c =
    turned_added _ _ _ _ _ _ _ _ _ _ _ c.requires.n_bound.0 (sym (length_points_at c.args.src.now (c.args.o + 13) c.args.n)) c.is_full.ensures c.if-is_full.false
    c.copy_face.ensures.s_after c.copy_face.ensures.counts_after
