-- The walk over the bodies: each is written behind those before it.
use Rattle.std.specs.Prelude.{◌≡◌, refl, ℕ, ◌+◌, ◌-◌, ◌≤◌, ◌<◌, get_or, drop, Ok, Err}
use Rattle.std.proofs.Math.Path.{sym, ap, ap₂, subst}
use Rattle.std.proofs.Common.{◌∙◌, arith, add-one, length-append, drop_of_length-le, drop-cons}
use mathlib.Core.List.{List, [], ◌∷◌, ◌++◌, map, map-append, append_assoc, append-nil}
use Rattle.std.proofs.Math.ListN.{length, set}
use Rattle.std.proofs.lemmas.List.{length-map}
use Rattle.refusal.specs.declared.Refusal.{Refusal}
use Rattle.refusal.specs.Outcome.{Outcome, each}
use Rattle.refusal.specs.Laws.{each_stop, each_go, each_end, same_ok, never_ok}
use Rattle.sums.specs.Sum.{sum}
use Rattle.groups.specs.Groups.{joined}
use Rattle.bodies.specs.Fusing.{Facet, Sense, Bodies, faces_of, body_of}
use Rattle.listing.specs.Appended.{appended, append_none, append_one, append_more, length_appended}
use Rattle.listing.specs.Listed.{joined_both}
use Rattle.fusing.specs.declared.Made.{Made}
use Rattle.fusing.specs.Bodied.{Bodied}
use Rattle.assembly.specs.declared.Fused.{Fused}
use Rattle.assembly.specs.Answer.{shells_in, Laid}

-- One body of m facets more, written and counted; a refusal counts nothing.
pub record Stepped (o : Outcome (List (List ℕ))) (m : ℕ) (x s b : List ℕ) (i sat at : ℕ) (x' s' b' : List ℕ) (n : Outcome Made) : Type 0 where
  pub body : Bodied o m x s at sat x' s' n
  pub count : (r : Made) → n ≡ Ok r → b' ≡ set b i (r.shells - sat)
  pub kept : (e : Refusal) → n ≡ Err e → b' ≡ b

-- shells are never fewer than before
pub no_fewer : (o : Outcome (List (List ℕ))) (m : ℕ) (x s : List ℕ) (at sat : ℕ) (x' s' : List ℕ) (n : Outcome Made) (r : Made) → Bodied o m x s at sat x' s' n → n ≡ Ok r → sat ≤ r.shells
unfolding Bodied
no_fewer (Ok b) m x s at sat x' s' n r w z = omega (arith, ap (λ r. r.shells) (same_ok (sym z ∙ w.0)))
no_fewer (Err e) m x s at sat x' s' n r w z = never_ok (sym w ∙ z)

shells_snoc : (bs : Bodies) (b : List (List ℕ)) → shells_in (bs ++ (b ∷ [])) ≡ shells_in bs ++ b
unfolding shells_in
shells_snoc [] b = append-nil b
shells_snoc (a ∷ bs) b = ap (λ l. a ++ l) (shells_snoc bs b) ∙ sym (append_assoc a (shells_in bs) b)

joined_snoc : (bs : Bodies) (b : List (List ℕ)) → joined (shells_in (bs ++ (b ∷ []))) ≡ joined (shells_in bs) ++ joined b
joined_snoc bs b = ap joined (shells_snoc bs b) ∙ joined_both (shells_in bs) b

module _ (volume : List ℕ → Outcome Sense) (fs : List Facet) (gs : List (List ℕ)) where
  abbrev pub facets_from : ℕ → ℕ
  facets_from i = sum (λ c. length (faces_of fs c)) (drop i gs)

  -- The bodies of the first i groups are written; there is room for the facets of the others.
  pub record Part (x₀ s₀ b₀ x s b : List ℕ) (i sat at : ℕ) : Type 0 where
    pub done : Bodies
    pub left : each (body_of volume fs) done (drop i gs) ≡ each (body_of volume fs) [] gs
    pub bodies : i ≡ length done
    pub shells : sat ≡ length (shells_in done)
    pub facets : at ≡ length (joined (shells_in done))
    pub out : x ≡ appended x₀ 0 (joined (shells_in done))
    pub sizes : s ≡ appended s₀ 0 (map length (shells_in done))
    pub counts : b ≡ appended b₀ 0 (map length done)
    pub few : sat ≤ at
    pub room_x : at + facets_from i ≤ length x₀
    pub room_s : at + facets_from i ≤ length s₀
    pub room_b : length gs ≤ length b₀
    pub upto : i ≤ length gs

  -- Behind i groups the walk stands at a part, or it is refused.
  unfoldable pub Standing : List ℕ → List ℕ → List ℕ → List ℕ → List ℕ → List ℕ → ℕ → Outcome Made → Type 0
  Standing x₀ s₀ b₀ x s b i (Ok r) = Part x₀ s₀ b₀ x s b i r.shells r.facets
  Standing x₀ s₀ b₀ x s b i (Err e) = each (body_of volume fs) [] gs ≡ Err e

  module _ (x₀ s₀ b₀ : List ℕ) where
    pub part_start : sum (λ c. length (faces_of fs c)) gs ≤ length x₀ → sum (λ c. length (faces_of fs c)) gs ≤ length s₀ → length gs ≤ length b₀ → Part x₀ s₀ b₀ x₀ s₀ b₀ 0 0 0
    unfolding shells_in joined
    part_start h l m = record {
      done = [];
      left = refl;
      bodies = refl;
      shells = refl;
      facets = refl;
      out = sym (append_none x₀ 0);
      sizes = sym (append_none s₀ 0);
      counts = sym (append_none b₀ 0);
      few = omega arith;
      room_x = omega arith;
      room_s = omega arith;
      room_b = m;
      upto = omega arith;
    }

    pub standing_part : (x s b : List ℕ) (i : ℕ) (n : Outcome Made) (r : Made) → n ≡ Ok r → Standing x₀ s₀ b₀ x s b i n → Part x₀ s₀ b₀ x s b i r.shells r.facets
    unfolding Standing
    standing_part x s b i n r z w = subst (Standing x₀ s₀ b₀ x s b i) z w

    pub part_end : (x s b : List ℕ) (i sat at k : ℕ) → length gs ≤ i → k ≡ i → Part x₀ s₀ b₀ x s b i sat at → Laid (each (body_of volume fs) [] gs) x₀ s₀ b₀ x s b (Ok (record { bodies = k; shells = sat; facets = at }))
    unfolding Laid
    part_end x s b i sat at k h e w =
        let z : each (body_of volume fs) [] gs ≡ Ok w.done = sym w.left ∙ ap (each (body_of volume fs) w.done) (drop_of_length-le gs h) ∙ each_end (body_of volume fs) w.done in
        subst (λ o. Laid o x₀ s₀ b₀ x s b (Ok (record { bodies = k; shells = sat; facets = at }))) (sym z)
        (ap (λ k. Ok (record { bodies = k; shells = sat; facets = at })) (e ∙ w.bodies) ∙ ap₂ (λ k l. Ok (record { bodies = length w.done; shells = k; facets = l })) w.shells w.facets, w.out, w.sizes, w.counts)

    pub standing_refused : (x s b : List ℕ) (i : ℕ) (n : Outcome Made) (y : Refusal) (u : Outcome Fused) → n ≡ Err y → u ≡ Err y → Standing x₀ s₀ b₀ x s b i n → Laid (each (body_of volume fs) [] gs) x₀ s₀ b₀ x s b u
    unfolding Standing Laid
    standing_refused x s b i n y u z e w =
        let q : each (body_of volume fs) [] gs ≡ Err y = subst (Standing x₀ s₀ b₀ x s b i) z w in
        subst (λ o. Laid o x₀ s₀ b₀ x s b u) (sym q) e

    module _ (x s b : List ℕ) (i sat at : ℕ) (h : i < length gs) (w : Part x₀ s₀ b₀ x s b i sat at) where
      abbrev g : List ℕ
      g = get_or gs i []

      next : drop i gs ≡ g ∷ drop (i + 1) gs
      next = drop-cons gs i [] h ∙ ap (λ k. g ∷ drop k gs) (sym (add-one i))

      rest : facets_from i ≡ length (faces_of fs g) + facets_from (i + 1)
      unfolding sum
      rest = ap (sum (λ c. length (faces_of fs c))) next

      fit_x : 0 + length (joined (shells_in w.done)) ≤ length x₀
      fit_x = omega (arith, w.facets, w.room_x)

      fit_s : 0 + length (map length (shells_in w.done)) ≤ length s₀
      fit_s = omega (arith, w.shells, w.few, w.room_s, length-map (shells_in w.done) length)

      fit_b : 0 + length (map length w.done) ≤ length b₀
      fit_b = omega (arith, w.bodies, w.room_b, length-map w.done length)

      size_x : length x ≡ length x₀
      size_x = ap length w.out ∙ length_appended x₀ 0 (joined (shells_in w.done)) fit_x

      size_s : length s ≡ length s₀
      size_s = ap length w.sizes ∙ length_appended s₀ 0 (map length (shells_in w.done)) fit_s

      size_b : length b ≡ length b₀
      size_b = ap length w.counts ∙ length_appended b₀ 0 (map length w.done) fit_b

      -- what a turn asks
      pub part_out : at + length (faces_of fs (get_or gs i [])) ≤ length x
      part_out = omega (arith, w.room_x, rest, size_x)

      pub part_sizes : sat + length (faces_of fs (get_or gs i [])) ≤ length s
      part_sizes = omega (arith, w.room_s, rest, size_s, w.few)

      pub part_counts : i < length b
      part_counts = omega (arith, w.room_b, size_b)

      made : (y : List (List ℕ)) (x' s' b' : List ℕ) → body_of volume fs g ≡ Ok y → x' ≡ appended x at (joined y) → s' ≡ appended s sat (map length y) → b' ≡ set b i (length y) → length (joined y) ≡ length (faces_of fs g) → length y ≤ length (faces_of fs g) →
          Part x₀ s₀ b₀ x' s' b' (i + 1) (sat + length y) (at + length (joined y))
      made y x' s' b' e ex es eb n m = record {
        done = w.done ++ (y ∷ []);
        left = sym (each_go (body_of volume fs) w.done g (drop (i + 1) gs) y e) ∙ ap (each (body_of volume fs) w.done) (sym next) ∙ w.left;
        bodies = omega (arith, w.bodies, length-append w.done (y ∷ []));
        shells = omega (arith, w.shells, ap length (shells_snoc w.done y), length-append (shells_in w.done) y);
        facets = omega (arith, w.facets, ap length (joined_snoc w.done y), length-append (joined (shells_in w.done)) (joined y));
        out = ex ∙ ap (λ l. appended l at (joined y)) w.out ∙ append_more x₀ 0 (joined (shells_in w.done)) fit_x at (joined y) (omega (arith, w.facets)) ∙ ap (appended x₀ 0) (sym (joined_snoc w.done y));
        sizes = es ∙ ap (λ l. appended l sat (map length y)) w.sizes ∙ append_more s₀ 0 (map length (shells_in w.done)) fit_s sat (map length y) (omega (arith, w.shells, length-map (shells_in w.done) length))
            ∙ ap (appended s₀ 0) (sym (ap (map length) (shells_snoc w.done y) ∙ map-append length (shells_in w.done) y));
        counts = eb ∙ append_one b i (length y) part_counts ∙ ap (λ l. appended l i (length y ∷ [])) w.counts ∙ append_more b₀ 0 (map length w.done) fit_b i (length y ∷ []) (omega (arith, w.bodies, length-map w.done length))
            ∙ ap (appended b₀ 0) (sym (map-append length w.done (y ∷ [])));
        few = omega (arith, w.few);
        room_x = omega (arith, w.room_x, rest);
        room_s = omega (arith, w.room_s, rest);
        room_b = w.room_b;
        upto = omega arith;
      }

      step_by : (o : Outcome (List (List ℕ))) (x' s' b' : List ℕ) (n : Outcome Made) → body_of volume fs g ≡ o → Stepped o (length (faces_of fs g)) x s b i sat at x' s' b' n → Standing x₀ s₀ b₀ x' s' b' (i + 1) n
      unfolding Standing Bodied
      step_by (Ok y) x' s' b' n e t =
          let q = t.body in
          let c : b' ≡ set b i (length y) = t.count (record { facets = at + length (joined y); shells = sat + length y }) q.0 ∙ ap (set b i) (omega arith) in
          subst (Standing x₀ s₀ b₀ x' s' b' (i + 1)) (sym q.0) (made y x' s' b' e q.1 q.2 c q.3 q.4)
      step_by (Err r) x' s' b' n e t =
          subst (Standing x₀ s₀ b₀ x' s' b' (i + 1)) (sym t.body) (sym w.left ∙ ap (each (body_of volume fs) w.done) next ∙ each_stop (body_of volume fs) w.done g (drop (i + 1) gs) r e)

      pub part_step : (x' s' b' : List ℕ) (n : Outcome Made) → Stepped (body_of volume fs (get_or gs i [])) (length (faces_of fs (get_or gs i []))) x s b i sat at x' s' b' n → Standing x₀ s₀ b₀ x' s' b' (i + 1) n
      part_step x' s' b' n t = step_by (body_of volume fs g) x' s' b' n refl t
