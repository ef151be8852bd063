use borrow.Author.Rules.{rules}
use mathlib.Core.Path.{◌≡◌, sym, ap, ◌∙◌}
use Rattle.std.specs.Prelude.{Err}
use Rattle.refusal.specs.Outcome.{heard}
use Rattle.built.specs.Laws.{built_not, built_faces, built_many, built_placing, built_few, built_judged}
use native.Mathlib.Omega.{arith}
use Rattle.built.proofs.build.Goals as goal

pub returns-in_err-m : goal.returns-in_err-m
returns-in_err-m c =
    let told : c.from_residual.result ≡ Err c.in_err-m.field-0.0 = search rules in
    rw (told ∙ sym c.in_err-m.was) (built_not _ _ _ _ _ _ _ c.requires.fits _ _ _ c.indexed.ensures _ c.in_err-m.was)

pub check-requires : goal.check-requires
check-requires c = let I = c.indexed.ensures in
    let B = c.requires.bench in
    let k = built_placing _ _ _ _ _ _ _ c.requires.fits _ _ _ I in
    let f = built_few _ _ _ _ _ _ _ c.requires.fits _ _ _ I _ c.in_ok-m.was in
    let m = built_many _ _ _ _ _ _ _ c.requires.fits _ _ _ I in
    record { m_in_bounds = (f, built_faces _ _ _ _ _ _ _ c.requires.fits _ _ _ I, k); places_in_bounds = (omega (arith, m, B.ends_fit), omega (arith, m, B.next_fits), omega (arith, m, B.corners_fit)); n_in_bounds = (B.head_fits, B.seen_fits, B.work_fits, B.nodes_fit, B.cuts_fit) }

pub returns-in_err-check : goal.returns-in_err-check
unfolding heard
returns-in_err-check c =
    let told : c.from_residual-in_err-check.result ≡ Err c.in_err-check.field-0.0 = search rules in
    built_judged _ _ _ _ _ _ _ c.requires.fits _ _ _ c.indexed.ensures _ c.in_ok-m.was _ _ c.check.ensures (told ∙ sym (ap (λ v. heard v c.in_ok-m.m) c.in_err-check.was))

pub returns : goal.returns
unfolding heard
returns c =
    built_judged _ _ _ _ _ _ _ c.requires.fits _ _ _ c.indexed.ensures _ c.in_ok-m.was _ _ c.check.ensures (sym (ap (λ v. heard v c.in_ok-m.m) c.in_ok-check.was))
