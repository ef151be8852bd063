-- Where each corner's reverse edge stands once, each edge stands once: it is the reverse of its reverse.
use Rattle.std.specs.Prelude.{◌≡◌, refl, Bool, true, false, List, [], ◌∷◌, ℕ, ltb}
use Rattle.std.proofs.Common.{sym, ◌∙◌, inl, inr, arith}
use Rattle.std.proofs.Math.Path.{ap₂}
use Rattle.std.proofs.Math.Bool.{◌&&◌}
use borrow.Author.Tests.{eqb-true}
use Rattle.refusal.specs.Tests.{and_true}
use Rattle.lists.specs.Walks.{all}
use Rattle.room.specs.Rooms.{In}
use Rattle.topology.specs.Topology.{Corner, count, is_point, is_edge, once, fits}
use Rattle.topology.specs.Corners.{paired}
use Rattle.topology.specs.Chains.{all_in, count_find}

all_of : {A : Type 0} (g : A → Bool) (l : List A) (b : Bool) → b ≡ true → ((x : A) → In x l → g x ≡ true) → all g b l ≡ true
unfolding all In
all_of g [] b e h = e
all_of g (y ∷ l) b e h = all_of g l (b && g y) (ap₂ ◌&&◌ e (h y (inl refl))) (λ x i. h x (inr i))

same_truth : (a b : Bool) → (a ≡ true → b ≡ true) → (b ≡ true → a ≡ true) → a ≡ b
same_truth true b f g = sym (f refl)
same_truth false true f g = g refl
same_truth false false f g = refl

module _ (m : ℕ) (cs : List Corner) where
  -- a corner's edge is the reverse of its reverse's edge
  own_edge : ((x : Corner) → In x cs → paired m cs x ≡ true) → (c : Corner) → In c cs → once (is_edge c.point c.next) cs ≡ true
  unfolding paired
  own_edge h c i =
      let p = and_true (ltb c.point m && once (is_point c.face c.point) cs) (once (is_edge c.next c.point) cs) (h c i) in
      let one = eqb-true (count (is_edge c.next c.point) 0 cs) 1 p.1 in
      let d = count_find (is_edge c.next c.point) cs (omega (arith, one)) in
      let r = d.0 in
      let q = and_true (ltb r.point m && once (is_point r.face r.point) cs) (once (is_edge r.next r.point) cs) (h r d.1) in
      let s = and_true _ _ d.2 in
      ap₂ (λ a b. once (is_edge a b) cs) (sym (eqb-true r.next c.point s.1)) (sym (eqb-true r.point c.next s.0)) ∙ q.1

  fits_paired : (c : Corner) → fits m cs c ≡ true → paired m cs c ≡ true
  unfolding fits paired
  fits_paired c e =
      let p = and_true ((ltb c.point m && once (is_point c.face c.point) cs) && once (is_edge c.point c.next) cs) (once (is_edge c.next c.point) cs) e in
      let q = and_true (ltb c.point m && once (is_point c.face c.point) cs) (once (is_edge c.point c.next) cs) p.0 in
      ap₂ ◌&&◌ q.0 p.1

  paired_fits : (c : Corner) → paired m cs c ≡ true → once (is_edge c.point c.next) cs ≡ true → fits m cs c ≡ true
  unfolding fits paired
  paired_fits c e own =
      let p = and_true (ltb c.point m && once (is_point c.face c.point) cs) (once (is_edge c.next c.point) cs) e in
      ap₂ ◌&&◌ (ap₂ ◌&&◌ p.0 own) p.1

  pub all_paired : all (paired m cs) true cs ≡ all (fits m cs) true cs
  all_paired =
      same_truth (all (paired m cs) true cs) (all (fits m cs) true cs)
      (λ e. let h = all_in (paired m cs) cs true e in all_of (fits m cs) cs true refl (λ c i. paired_fits c (h.1 c i) (own_edge h.1 c i)))
      (λ e. let h = all_in (fits m cs) cs true e in all_of (paired m cs) cs true refl (λ c i. fits_paired c (h.1 c i)))
