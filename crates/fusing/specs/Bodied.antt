-- The body of some facets, written out.
use Rattle.std.proofs.Math.Path.{◌≡◌, sym, ap, subst}
use Rattle.std.specs.Prelude.{ℕ, zero, suc, ◌+◌, ◌-◌, ◌≤◌, ◌<◌, Float, get_or, take, Ok, Err}
use Rattle.std.proofs.Common.{ap₂, ◌∙◌, add-one, get_or-take, take_at}
use mathlib.Core.List.{List, [], ◌∷◌, ◌++◌, map}
use native.Mathlib.Omega.{arith}
use Rattle.std.proofs.Math.ListN.{length, drop, length-append, length-drop}
use Rattle.std.proofs.lemmas.List.{length-map}
use Rattle.std.proofs.Math.Seq.{length-take-le}
use Rattle.refusal.specs.declared.Refusal.{Refusal}
use Rattle.refusal.specs.Outcome.{Outcome}
use Rattle.sums.specs.Sum.{Each}
use Rattle.sums.proofs.KeyLaws.{get_d_map_lt, each_get_d}
use Rattle.sums.specs.Components.{components}
use Rattle.sums.proofs.ComponentLaws.{none_empty}
use Rattle.keys.specs.Rows.{Starts, rows}
use Rattle.groups.specs.Groups.{joined, Grouped, joins_of}
use Rattle.bodies.specs.Fusing.{order_shells}
use Rattle.bodies.proofs.Full.{each_some}
use Rattle.shells.specs.Named.{name_in, Spread, found, many_nodes, node_in, joined_map}
use Rattle.cavities.specs.Outer.{Ordered, outer_of}
use Rattle.cavities.specs.Steps.{volume_of, Shelled}
use Rattle.listing.specs.Appended.{appended}
use Rattle.listing.specs.Listed.{joined_both}
use Rattle.fusing.specs.declared.Made.{Made}
use Rattle.fusing.specs.Groups.{joined_split, next_cut, grouped_starts, last_cut, grouped_rows}

-- A body of m facets as it is written: its facets shell by shell, how many each shell has, and where the next body goes; or the refusal.
unfoldable pub Bodied : Outcome (List (List ℕ)) → ℕ → List ℕ → List ℕ → ℕ → ℕ → List ℕ → List ℕ → Outcome Made → Type 0
Bodied (Ok b) m x₀ s₀ at sat x s r = (r ≡ Ok (record { facets = at + length (joined b); shells = sat + length b })) × (x ≡ appended x₀ at (joined b)) × (s ≡ appended s₀ sat (map length b)) × (length (joined b) ≡ m) × (length b ≤ m)
Bodied (Err e) m x₀ s₀ at sat x s r = r ≡ Err e

-- Each facet of a body is a row that is not empty.
pub record Faced (v starts : List ℕ) (f : ℕ) (fl : List ℕ) : Type 0 where
  pub fine : Starts v starts f
  pub some : (k : ℕ) → k < f → get_or starts k 0 < get_or starts (k + 1) 0
  pub inn : (k : ℕ) → k < length fl → get_or fl k 0 < f

few_groups : (gs : List (List ℕ)) → Each (λ g. 0 < length g) gs → length gs ≤ length (joined gs)
unfolding joined
few_groups [] e = omega arith
few_groups (g ∷ gs) e = omega (arith, e.0, few_groups gs e.1, length-append g (joined gs))

abbrev pub named_shells : List ℕ → List ℕ → List (List ℕ)
named_shells fl ends = map (map (name_in fl)) (components (length fl) (joins_of ends))

module _ (v starts : List ℕ) (f : ℕ) (ends head next seen work fl d₀ c₀ d c : List ℕ) (g : ℕ) (s : Spread ends head next seen work fl d₀ c₀) (w : Grouped (named_shells fl ends) d₀ c₀ d c g) where
  full : Each (λ g. 0 < length g) (named_shells fl ends)
  full = each_some (name_in fl) (components (length fl) (joins_of ends)) (none_empty 0 (components (length fl) (joins_of ends)) (found ends (length fl) s.within).ascend)

  size : length (joined (named_shells fl ends)) ≡ length fl
  size = ap length (joined_map (name_in fl) (components (length fl) (joins_of ends))) ∙ length-map (joined (components (length fl) (joins_of ends))) (name_in fl) ∙ many_nodes ends (length fl) s.within

  pub all_facets : get_or c g 0 ≡ length fl
  all_facets = last_cut (named_shells fl ends) d₀ c₀ d c g w ∙ size

  pub few_shells : g ≤ length fl
  few_shells = omega (arith, w.many, few_groups (named_shells fl ends) full, size)

  pub shells_fine : Starts d c g
  shells_fine = grouped_starts (named_shells fl ends) d₀ c₀ d c g w

  node : (k : ℕ) → k < length fl → get_or d k 0 ≡ get_or fl (get_or (joined (components (length fl) (joins_of ends))) k 0) 0
  node k h =
      let cs : List (List ℕ) = components (length fl) (joins_of ends) in
      sym (get_or-take (length fl) d k 0 h)
      ∙ ap (λ l. get_or l k 0) (ap (take (length fl)) w.nodes ∙ take_at (joined (named_shells fl ends)) (drop (length (joined (named_shells fl ends))) d₀) (length fl) size ∙ joined_map (name_in fl) cs)
      ∙ get_d_map_lt (name_in fl) (joined cs) 0 0 k (omega (arith, many_nodes ends (length fl) s.within))

  pub shells_shelled : Faced v starts f fl → Shelled v starts f d c g
  shells_shelled q = record {
    fine = q.fine;
    some = q.some;
    groups = shells_fine;
    full = λ k h. omega (arith, next_cut (named_shells fl ends) d₀ c₀ d c g w k h, each_get_d (λ g. 0 < length g) (named_shells fl ends) [] k full (omega (arith, w.many)));
    inn = λ k h. omega (arith, node k (omega (arith, all_facets)), q.inn (get_or (joined (components (length fl) (joins_of ends))) k 0) (node_in ends (length fl) s.within k (omega (arith, all_facets))));
    upto = λ k h. up k (g - (k + 1)) (omega arith);
  }
    where
      up : (k n : ℕ) → k + 1 + n ≡ g → get_or c (k + 1) 0 ≤ get_or c g 0
      up k zero e = let z : k + 1 ≡ g = omega arith in rw z (omega arith)
      up k (suc n) e = omega (arith, shells_fine.up (k + 1) (omega arith), up (k + 1) n (omega arith))

  module _ (ps : List Float) (at sat o : ℕ) (x₀ s₀ : List ℕ) where
    pub body_refused : (t : Outcome ℕ) (r : Refusal) (x s : List ℕ) (n : Outcome Made) → Ordered (volume_of ps v starts) (rows d c g) t → t ≡ Err r → n ≡ Err r → Bodied (order_shells (volume_of ps v starts) (named_shells fl ends)) (length fl) x₀ s₀ at sat x s n
    unfolding Ordered Bodied
    body_refused t r x s n p e q = subst (λ u. Bodied u (length fl) x₀ s₀ at sat x s n) (sym (subst (Ordered (volume_of ps v starts) (rows d c g)) e p) ∙ ap (order_shells (volume_of ps v starts)) (grouped_rows (named_shells fl ends) d₀ c₀ d c g w)) q

    found_outer : (t : Outcome ℕ) → Ordered (volume_of ps v starts) (rows d c g) t → t ≡ Ok o → (o < length (rows d c g)) × (order_shells (volume_of ps v starts) (rows d c g) ≡ Ok (outer_of (rows d c g) o))
    unfolding Ordered
    found_outer t p e = subst (Ordered (volume_of ps v starts) (rows d c g)) e p

    pub body_outer : (t : Outcome ℕ) → Ordered (volume_of ps v starts) (rows d c g) t → t ≡ Ok o → o < g
    body_outer t p e = omega (arith, (found_outer t p e).0, w.many, ap length (grouped_rows (named_shells fl ends) d₀ c₀ d c g w))

    outer_long : (l : List (List ℕ)) → o < length l → length (outer_of l o) ≡ length l
    unfolding outer_of
    outer_long l h = omega (arith, length-append (take o l) (drop (o + 1) l), length-take-le o l (omega arith), length-drop (o + 1) l)

    outer_joined : (l : List (List ℕ)) → o < length l → length (joined (outer_of l o)) ≡ length (joined l)
    unfolding outer_of joined
    outer_joined l h = omega (
      arith,
      length-append (get_or l o []) (joined (take o l ++ drop (o + 1) l)),
      ap length (joined_both (take o l) (drop (o + 1) l)),
      length-append (joined (take o l)) (joined (drop (o + 1) l)),
      ap length (joined_split l o h),
      length-append (joined (take o l)) (get_or l o [] ++ joined (drop (suc o) l)),
      length-append (get_or l o []) (joined (drop (suc o) l)),
      ap (λ n. length (joined (drop n l))) (add-one o),
    )

    pub body_made : (t : Outcome ℕ) (x s : List ℕ) → Ordered (volume_of ps v starts) (rows d c g) t → t ≡ Ok o → x ≡ appended x₀ at (joined (outer_of (rows d c g) o)) → s ≡ appended s₀ sat (map length (outer_of (rows d c g) o)) →
        Bodied (order_shells (volume_of ps v starts) (named_shells fl ends)) (length fl) x₀ s₀ at sat x s (Ok (record { facets = at + length fl; shells = sat + g }))
    unfolding Bodied
    body_made t x s y e q r =
        let p = found_outer t y e in
        let same = grouped_rows (named_shells fl ends) d₀ c₀ d c g w in
        let n : length (joined (outer_of (rows d c g) o)) ≡ length fl = outer_joined (rows d c g) p.0 ∙ ap (λ l. length (joined l)) same ∙ size in
        let k : length (outer_of (rows d c g) o) ≡ g = outer_long (rows d c g) p.0 ∙ ap length same ∙ sym w.many in
        subst (λ u. Bodied u (length fl) x₀ s₀ at sat x s (Ok (record { facets = at + length fl; shells = sat + g }))) (sym p.1 ∙ ap (order_shells (volume_of ps v starts)) same)
        (ap₂ (λ a b. Ok (record { facets = at + a; shells = sat + b })) (sym n) (sym k), q, r, n, omega (arith, few_shells, k))
