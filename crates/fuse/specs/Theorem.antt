-- What an answer of `fuse` tells: demand 3 of its bodies, and that its slices name facets of the arrangement.
use Rattle.std.proofs.Math.Path.{◌≡◌}
use Rattle.std.specs.Prelude.{refl, List, [], ◌∷◌, map, ℕ, ◌<◌, Ok, Err}
use Rattle.std.proofs.Common.{sym, ◌∙◌, subst}
use Rattle.std.proofs.Math.ListN.{length}
use Rattle.refusal.specs.Outcome.{Outcome}
use Rattle.refusal.specs.Laws.{same_ok, never_ok}
use Rattle.sums.specs.Sum.{Each}
use Rattle.sums.proofs.KeyLaws.{each_append}
use Rattle.groups.specs.Groups.{joined}
use Rattle.bodies.specs.Fusing.{Facet, Sense, Bodies, fuse}
use Rattle.bodies.specs.ListLaws.{Valid}
use Rattle.bodies.specs.Demand.{Demand}
use Rattle.bodies.proofs.Demand.{demand}
use Rattle.listing.specs.Appended.{appended}
use Rattle.listing.specs.Listed.{joined_both}
use Rattle.assembly.specs.declared.Fused.{Fused}
use Rattle.assembly.specs.Answer.{shells_in, Laid}

-- The bodies of an answer, as they lie in its slices.
pub record Sound (volume : List ℕ → Outcome Sense) (fs : List Facet) (n : ℕ) (x₀ s₀ b₀ x s b : List ℕ) (r : Fused) : Type 0 where
  pub bodies : Bodies
  pub fused : fuse volume fs n ≡ Ok bodies
  pub demands : Demand volume fs n bodies
  pub result : r ≡ record { bodies = length bodies; shells = length (shells_in bodies); facets = length (joined (shells_in bodies)) }
  pub facets : x ≡ appended x₀ 0 (joined (shells_in bodies))
  pub sizes : s ≡ appended s₀ 0 (map length (shells_in bodies))
  pub counts : b ≡ appended b₀ 0 (map length bodies)
  -- each listed facet is one of the arrangement
  pub inside : Each (λ i. i < length fs) (joined (shells_in bodies))

-- what holds of each facet of bodies holds of each in their slice
each_joined : (P : ℕ → Type 0) (b : List (List ℕ)) → Each (Each P) b → Each P (joined b)
unfolding joined
each_joined P [] e = tt
each_joined P (g ∷ b) e = each_append P g (joined b) e.0 (each_joined P b e.1)

pub each_shells : (P : ℕ → Type 0) (bs : Bodies) → Each (Each (Each P)) bs → Each P (joined (shells_in bs))
unfolding shells_in
each_shells P [] e = unfold joined in tt
each_shells P (b ∷ bs) e = subst (Each P) (sym (joined_both b (shells_in bs))) (each_append P (joined b) (joined (shells_in bs)) (each_joined P b e.0) (each_shells P bs e.1))

module _ (volume : List ℕ → Outcome Sense) (fs : List Facet) (n : ℕ) (valid : Valid fs n) (x₀ s₀ b₀ x s b : List ℕ) (m : Outcome Fused) (r : Fused) where
  by : (o : Outcome Bodies) → fuse volume fs n ≡ o → Laid o x₀ s₀ b₀ x s b m → m ≡ Ok r → Sound volume fs n x₀ s₀ b₀ x s b r
  unfolding Laid
  by (Ok bs) e w v = record {
    bodies = bs;
    fused = e;
    demands = demand volume fs n valid bs e;
    result = same_ok (sym v ∙ w.0);
    facets = w.1;
    sizes = w.2;
    counts = w.3;
    inside = each_shells (λ i. i < length fs) bs (demand volume fs n valid bs e).inside;
  }
  by (Err y) e w v = never_ok (sym w ∙ v)

  pub fuse_sound : Laid (fuse volume fs n) x₀ s₀ b₀ x s b m → m ≡ Ok r → Sound volume fs n x₀ s₀ b₀ x s b r
  fuse_sound w v = by (fuse volume fs n) refl w v
