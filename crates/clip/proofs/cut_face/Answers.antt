use Rattle.std.specs.Prelude.{◌≤◌, ◌≡◌, Ok, Err}
use Rattle.ring.specs.Rings.{Bounded}
use mathlib.Core.Path.{sym, subst, ◌∙◌}
use Rattle.std.proofs.Common.{rules}
use Rattle.std.proofs.lemmas.Result.{IfOk-at_ok}
use native.Mathlib.Omega.{arith}
use Rattle.clip.specs.Laws.{cutter_refused, cutter_unmade, cutter_full, cutter_kept, made_drawn}
use Rattle.clip.proofs.cut_face.Goals as goal

pub returns-in_err-ring : goal.returns-in_err-ring
returns-in_err-ring c =
    let told : c.from_residual.result ≡ Err c.in_err-ring.field-0.0 = search rules in
    cutter_refused _ _ _ _ _ _ _ _ _ _ _ _ _ c.cut_ring.ensures _ _ c.in_err-ring.was told

pub unique-requires : goal.unique-requires
unique-requires c =
    let b : Bounded (Ok c.in_ok-ring.ring) = subst Bounded c.in_ok-ring.was c.cut_ring.ensures.few in
    (b.0, omega (arith, b.0, c.cut_ring.auto.face, c.requires.1.face_fits))

pub returns-in_err-q : goal.returns-in_err-q
returns-in_err-q c =
    let told : c.from_residual-in_err-q.result ≡ Err c.in_err-q.field-0.0 = search rules in
    cutter_unmade _ _ _ _ _ _ _ _ _ _ _ _ _ c.cut_ring.ensures _ c.in_ok-ring.was _ _ _ c.unique.ensures.value c.in_err-q.was told

pub keep_face-requires : goal.keep_face-requires
keep_face-requires c = record {
  fits = record { few = c.requires.2.few; fit = c.requires.2.fit; place = c.requires.1.place; slots = c.requires.1.slots };
  n_bound = (IfOk-at_ok (λ p. p.n ≤ 128) c.in_ok-q.was c.unique.ensures.n_bound, made_drawn _ _ (sym c.in_ok-q.was ∙ c.unique.ensures.value));
}

pub returns-in_err-r : goal.returns-in_err-r
returns-in_err-r c =
    let told : c.from_residual-in_err-r.result ≡ Err c.in_err-r.field-0.0 = search rules in
    cutter_full _ _ _ _ _ _ _ _ _ _ _ _ _ c.cut_ring.ensures _ c.in_ok-ring.was _ _ _ _ _ c.get_plane-w.ensures (sym c.in_ok-q.was ∙ c.unique.ensures.value) c.keep_face.ensures _ _ c.in_err-r.was told

pub returns : goal.returns
returns c =
    cutter_kept _ _ _ _ _ _ _ _ _ _ _ _ _ c.cut_ring.ensures _ c.in_ok-ring.was _ _ _ _ _ c.get_plane-w.ensures (sym c.in_ok-q.was ∙ c.unique.ensures.value) c.keep_face.ensures _ c.in_ok-r.was
