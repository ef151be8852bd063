use Rattle.std.specs.Prelude.{◌≤◌, ◌≡◌, Err}
use mathlib.Core.Path.{sym, ◌∙◌}
use Rattle.std.proofs.Common.{rules}
use Rattle.std.proofs.lemmas.Result.{IfOk-at_ok}
use native.Mathlib.Omega.{arith}
use Rattle.clip.specs.Laws.{closer_unmade, closer_added, made_drawn}
use Rattle.clip.proofs.close.Goals as goal

pub hull-requires : goal.hull-requires
hull-requires c =
    (omega (arith, c.requires.0, c.requires.4.few_caps), omega (arith, c.requires.1.flat_fits, c.requires.4.few_caps), omega (arith, c.requires.1.order_fits, c.requires.4.few_caps), omega (arith, c.requires.1.chain_fits, c.requires.4.few_caps))

pub returns-in_err-q : goal.returns-in_err-q
returns-in_err-q c =
    let told : c.from_residual.result ≡ Err c.in_err-q.field-0.0 = search rules in
    closer_unmade _ _ _ _ _ _ _ _ _ _ _ _ c.hull.ensures.value c.in_err-q.was told

pub add_face-requires : goal.add_face-requires
add_face-requires c = record {
  fits = record { few = c.requires.4.few; fit = c.requires.4.fit; place = c.requires.2; slots = c.requires.3 };
  n_bound = (IfOk-at_ok (λ p. p.n ≤ 128) c.in_ok-q.was c.hull.ensures.n_bound, made_drawn _ _ (sym c.in_ok-q.was ∙ c.hull.ensures.value));
}

pub returns : goal.returns
returns c = closer_added _ _ _ _ _ _ _ _ _ _ _ _ _ (sym c.in_ok-q.was ∙ c.hull.ensures.value) c.add_face.ensures
