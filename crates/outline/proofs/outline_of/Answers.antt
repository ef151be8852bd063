use Rattle.std.specs.Prelude.{Err}
use Rattle.std.proofs.lemmas.Result.{err_from_is_err_and}
use borrow.Author.Rules.{rules}
use mathlib.Core.Path.{◌≡◌, refl, sym, ap, ◌∙◌}
use mathlib.Core.List.{[], ◌∷◌, ◌++◌}
use Prim.Native.Nat.{◌/◌, ◌<◌}
use native.Mathlib.Omega.{arith}
use lib.ListN.{length, length-append}
use Rattle.outline.specs.Laws.{project_start, project_go, project_stop, project_end, stored, outlined_is, outlined_stop}
use Rattle.outline.proofs.outline_of.Goals as goal

pub loop-i-init : goal.loop-i-init
loop-i-init c =
    record { made = []; at_is = ap (λ o. o.at) c.empty-out.ensures; many = refl; low = search rules; rest = project_start c.args.plane c.args.s.now (length c.args.s.now / 3) }

pub returns-in_err-out : goal.returns-in_err-out
returns-in_err-out c =
    let A = c.args in
    let I = c.loop-i.invariant in
    let was : c.projected.result ≡ Err c.in_err-out.field-0.0 = c.in_err-out.was in
    let p = err_from_is_err_and c.from_residual.result c.from_residual.ensures.1 in
    rw (p.1, p.2) (outlined_stop _ _ (sym I.rest ∙ project_stop A.plane A.s.now (length A.s.now / 3) c.loop-i.i I.made _ _ _ c.loop-i-test.true c.corner.ensures c.projected.ensures was))

pub loop-i-preserved : goal.loop-i-preserved
loop-i-preserved c =
    let A = c.args in
    let I = c.loop-i.invariant in
    let h = c.loop-i-test.true in
    let few : c.loop-i.i < 128 = omega (arith, c.requires) in
    record {
      made = I.made ++ (_ ∷ []);
      at_is = stored c.loop-i.out.at I.made c.loop-i.i _ I.at_is I.many few;
      many = simp length-append (omega arith);
      low = search rules;
      rest = sym (project_go A.plane A.s.now (length A.s.now / 3) c.loop-i.i I.made _ _ _ h c.corner.ensures c.projected.ensures (c.in_ok-out.was)) ∙ I.rest;
    }

pub returns : goal.returns
returns c =
    let A = c.args in
    let I = c.loop-i.invariant in
    let k : length A.s.now / 3 ≡ length I.made = omega arith in
    outlined_is c.loop-i.out.at I.made (length A.s.now / 3) _ I.at_is k
    (sym I.rest ∙ project_end A.plane A.s.now (length A.s.now / 3) c.loop-i.i I.made c.loop-i-test.false)
