-- Laws of what is told where a verdict is fine.
use Rattle.refusal.specs.Outcome.{Outcome}
use Rattle.std.specs.Prelude.{◌≡◌, Ok}
use Rattle.std.proofs.Common.{sym, ap, ◌∙◌}
use Rattle.lent.specs.Lent.{number_by, where_fine}

-- what is stored where the verdict is fine
pub fine_number : (v : Outcome Unit) → v ≡ Ok tt → 0 ≡ number_by v
unfolding number_by
fine_number v e = sym (ap number_by e)

pub fine_kept : {A : Type 0} (v : Outcome Unit) (x a b : A) → v ≡ Ok tt → x ≡ a → x ≡ where_fine v a b
unfolding where_fine
fine_kept v x a b e f = f ∙ sym (ap (λ z. where_fine z a b) e)
