use native.Mathlib.Omega.{arith}
use mathlib.Core.Path.{◌≡◌, ◌∙◌, refl}
use Rattle.std.specs.Prelude.{Err}
use Rattle.intake.specs.Laws.{small_few, small_faces, small_placing, small_took, as_fine, as_refused}
use borrow.Author.Rules.{rules}
use Rattle.intake.proofs.take_small.Goals as goal

pub unpack_points-requires : goal.unpack_points-requires
unpack_points-requires c = let A = c.args in omega (arith, (small_few A.job.now A.a c.requires.0 c.requires.1).0)

pub unpack_faces-requires : goal.unpack_faces-requires
unpack_faces-requires c =
    let A = c.args in
    let f = small_faces A.job.now A.a c.requires.0 c.requires.1 in
    (omega (arith, f.0, c.requires.3), omega (arith, f.1))

pub checked_cell-requires : goal.checked_cell-requires
checked_cell-requires c = let A = c.args in
    let p = c.unpack_points.ensures in
    let f = c.unpack_faces.ensures in
    let w = small_few A.job.now A.a c.requires.0 c.requires.1 in
    let n = c.unpack_faces.auto.counts in
    record { m_in_bounds = (omega (arith, w.0), omega (arith, n, w.1, c.requires.3), small_placing A.job.now A.a c.requires.0 c.requires.1 _ _ A.counts.now _ _ _ (omega arith) c.requires.3 (omega arith) p f.counts_after f.indices_after); places_in_bounds = search rules; n_in_bounds = (omega (arith, w.1), omega (arith, w.1), omega (arith, w.1), omega (arith, w.1), omega (arith, w.1)); places_in_bounds_2 = omega (arith, w.1, c.requires.2) }

pub returns-in_err-checked_cell : goal.returns-in_err-checked_cell
returns-in_err-checked_cell c =
    let A = c.args in
    let p = c.unpack_points.ensures in
    let f = c.unpack_faces.ensures in
    let k = c.in_err-checked_cell.ensures in
    let told : c.from_residual.result ≡ Err c.in_err-checked_cell.field-0.0 = search rules in
    small_took A.job.now A.a c.requires.0 c.requires.1 _ _ A.counts.now _ _ _ (omega arith) c.requires.3 (omega arith) p f.counts_after f.indices_after _ A.s.now _ _ _ c.requires.2 k.value k.s_after (told ∙ as_refused _ _ _ refl)

pub returns : goal.returns
returns c =
    let A = c.args in
    let p = c.unpack_points.ensures in
    let f = c.unpack_faces.ensures in
    let k = c.in_ok-checked_cell.ensures in
    small_took A.job.now A.a c.requires.0 c.requires.1 _ _ A.counts.now _ _ _ (omega arith) c.requires.3 (omega arith) p f.counts_after f.indices_after _ A.s.now _ _ _ c.requires.2 k.value k.s_after (as_fine _ _ refl)
