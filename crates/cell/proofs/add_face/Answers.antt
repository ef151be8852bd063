use Rattle.std.specs.Prelude.{◌≡◌, Err}
use Rattle.std.proofs.Common.{rules}
use mathlib.Core.Path.{sym, ◌∙◌}
use Prim.Native.Nat.{◌+◌, ◌≤◌, ◌<◌}
use native.Mathlib.Omega.{arith}
use Rattle.cell.specs.Cells.{is_full}
use Rattle.cell.specs.Laws.{turned_stays, turned_from, turned_full, turned_added, counted, not_full}
use Rattle.cell.proofs.add_face.Goals as goal

pub returns-in_err-kept : goal.returns-in_err-kept
returns-in_err-kept c =
    let told : c.from_residual.result ≡ Err c.in_err-kept.field-0.0 = search rules in
    turned_stays _ _ _ _ _ _ _ _ _ c.in_err-kept.was told

pub returns-then-is_full : goal.returns-then-is_full
returns-then-is_full c =
    turned_from _ _ _ _ _ _ _ _ _ _ _ c.in_ok-kept.was
    (turned_full _ _ _ _ _ _ _ _
    (counted _ _ _ _ _ _ _ c.requires.n_bound.1 c.is_full.ensures c.if-is_full.true) c.refuse.ensures)

pub put_face-requires : goal.put_face-requires
put_face-requires c = let space : let A = c.args in (c.in_ok-kept.kept.faces < 128) × (c.in_ok-kept.kept.corners + A.p.n ≤ A.limit) = not_full _ _ _ _ (sym c.is_full.ensures ∙ c.if-is_full.false) in
    let X = space in
    (c.requires.n_bound.0, omega (arith, X.0, X.1, c.requires.fits.place), omega (arith, X.0, c.requires.fits.slots))

pub returns : goal.returns
returns c =
    turned_from _ _ _ _ _ _ _ _ _ _ _ c.in_ok-kept.was
    (turned_added _ _ _ _ _ _ _ _ _ _ _ c.requires.n_bound.0 c.requires.n_bound.1 c.is_full.ensures c.if-is_full.false c.put_face.ensures.s_after c.put_face.ensures.counts_after)
