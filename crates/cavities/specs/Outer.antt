-- The one outward shell of a body among its shells as found.
use Rattle.std.proofs.Math.Path.{◌≡◌, refl, sym, ap}
use Rattle.std.proofs.Common.{◌∙◌, arith, add-one, drop_of_length-le, drop-cons, take_all, length-take-le}
use Rattle.std.specs.Prelude.{ℕ, ◌+◌, ◌≤◌, ◌<◌, length, Option, None, Some, Ok, Err}
use mathlib.Core.List.{List, [], ◌∷◌, ◌++◌, append_assoc, append-nil}
use Rattle.std.proofs.Math.ListN.{get_or, take, drop}
use Rattle.std.proofs.Math.Seq.{slice, slice_empty, take-suc}
use Rattle.std.proofs.lemmas.List.{drop-append-le}
use Rattle.refusal.specs.declared.Refusal.{Refusal}
use Rattle.refusal.specs.Outcome.{Outcome, refusal_of, walk}
use Rattle.refusal.specs.Laws.{stop, go, walk_go, walk_stop, walk_end}
use Rattle.bodies.specs.Fusing.{Sense, outward, inward, Shells, place_outer, place_by, outer_first, place_shell, order_shells}

-- The outward shell first, then the others as found.
unfoldable pub outer_of : List (List ℕ) → ℕ → List (List ℕ)
outer_of gs o = get_or gs o [] ∷ (take o gs ++ drop (o + 1) gs)

-- What the search leaves: which shell comes first, or the refusal.
unfoldable pub Ordered : (List ℕ → Outcome Sense) → List (List ℕ) → Outcome ℕ → Type 0
Ordered volume gs (Ok o) = (o < length gs) × (order_shells volume gs ≡ Ok (outer_of gs o))
Ordered volume gs (Err r) = order_shells volume gs ≡ Err r

slice_snoc : (l : List (List ℕ)) (a k : ℕ) → a ≤ k → k < length l → slice a (k + 1) l ≡ slice a k l ++ (get_or l k [] ∷ [])
slice_snoc l a k h m = ap (λ n. drop a (take n l)) (add-one k) ∙ ap (drop a) (take-suc l k [] m) ∙ drop-append-le a (take k l) (get_or l k [] ∷ []) (omega (arith, length-take-le k l (omega arith)))

none_some : (o : ℕ) → ◌≡◌ {A = Option ℕ} None (Some o) → ⊥
none_some o e = cc

same_some : {a b : ℕ} → ◌≡◌ {A = Option ℕ} (Some a) (Some b) → a ≡ b
same_some e = cc

module _ (volume : List ℕ → Outcome Sense) (gs : List (List ℕ)) where
  -- the shells placed before place k, and the outward one among them, if it was met
  unfoldable pub state_at : Option ℕ → ℕ → Shells
  state_at None k = record { outer = []; inner = take k gs }
  state_at (Some o) k = record { outer = get_or gs o [] ∷ []; inner = take o gs ++ slice (o + 1) k gs }

  pub record Part (s : Option ℕ) (k : ℕ) : Type 0 where
    pub upto : k ≤ length gs
    pub before : (o : ℕ) → s ≡ Some o → o < k
    pub left : walk (place_shell volume) (state_at s k) (drop k gs) ≡ walk (place_shell volume) (record { outer = []; inner = [] }) gs

  pub part_start : Part None 0
  unfolding state_at
  part_start = record { upto = omega arith; before = λ o e. absurd (none_some o e); left = refl }

  -- a refusal of the walk is the answer's
  pub end_refused : (r : Refusal) → walk (place_shell volume) (record { outer = []; inner = [] }) gs ≡ Err r → Ordered volume gs (Err r)
  unfolding Ordered order_shells
  end_refused r e = stop (walk (place_shell volume) (record { outer = []; inner = [] }) gs) (λ s. outer_first s.outer s.inner) r e

  module _ (s : Option ℕ) (k : ℕ) (h : k < length gs) (w : Part s k) where
    next : drop k gs ≡ get_or gs k [] ∷ drop (k + 1) gs
    next = drop-cons gs k [] h ∙ ap (λ n. get_or gs k [] ∷ drop n gs) (sym (add-one k))

    -- a step that places the shell
    placed : (t : Shells) → place_shell volume (state_at s k) (get_or gs k []) ≡ Ok t → walk (place_shell volume) t (drop (k + 1) gs) ≡ walk (place_shell volume) (record { outer = []; inner = [] }) gs
    placed t e = sym (ap (walk (place_shell volume) (state_at s k)) next ∙ walk_go (place_shell volume) (state_at s k) (get_or gs k []) (drop (k + 1) gs) t e) ∙ w.left

    -- and one that refuses
    stopped : (r : Refusal) → place_shell volume (state_at s k) (get_or gs k []) ≡ Err r → walk (place_shell volume) (record { outer = []; inner = [] }) gs ≡ Err r
    stopped r e = sym w.left ∙ ap (walk (place_shell volume) (state_at s k)) next ∙ walk_stop (place_shell volume) (state_at s k) (get_or gs k []) (drop (k + 1) gs) r e

    pub part_refused : (r : Refusal) → volume (get_or gs k []) ≡ Err r → Ordered volume gs (Err r)
    unfolding place_shell
    part_refused r e = end_refused r (stopped r (stop (volume (get_or gs k [])) (place_by (state_at s k) (get_or gs k [])) r e))

  module _ (k : ℕ) (h : k < length gs) where
    pub part_first : Part None k → volume (get_or gs k []) ≡ Ok outward → Part (Some k) (k + 1)
    unfolding place_shell place_by place_outer state_at
    part_first w e = record {
      upto = omega arith;
      before = λ o q. omega (arith, same_some q);
      left = ap (λ l. walk (place_shell volume) (record { outer = get_or gs k [] ∷ []; inner = l }) (drop (k + 1) gs)) (ap (λ l. take k gs ++ l) (slice_empty (k + 1) gs) ∙ append-nil (take k gs))
          ∙ placed None k h w (record { outer = get_or gs k [] ∷ []; inner = take k gs }) (go (volume (get_or gs k [])) (place_by (state_at None k) (get_or gs k [])) outward e);
    }

    pub part_second : (o : ℕ) → Part (Some o) k → volume (get_or gs k []) ≡ Ok outward → Ordered volume gs (Err (refusal_of 22))
    unfolding place_shell place_by place_outer state_at
    part_second o w e = end_refused (refusal_of 22) (stopped (Some o) k h w (refusal_of 22) (go (volume (get_or gs k [])) (place_by (state_at (Some o) k) (get_or gs k [])) outward e))

    pub part_inward : (s : Option ℕ) → Part s k → volume (get_or gs k []) ≡ Ok inward → Part s (k + 1)
    unfolding place_shell place_by state_at
    part_inward None w e = record {
      upto = omega arith;
      before = λ o q. absurd (none_some o q);
      left = ap (λ l. walk (place_shell volume) (record { outer = []; inner = l }) (drop (k + 1) gs)) (ap (λ n. take n gs) (add-one k) ∙ take-suc gs k [] h)
          ∙ placed None k h w (record { outer = []; inner = take k gs ++ (get_or gs k [] ∷ []) }) (go (volume (get_or gs k [])) (place_by (state_at None k) (get_or gs k [])) inward e);
    }
    part_inward (Some o) w e = record {
      upto = omega arith;
      before = λ p q. omega (arith, w.before p q);
      left = ap (λ l. walk (place_shell volume) (record { outer = get_or gs o [] ∷ []; inner = l }) (drop (k + 1) gs)) (ap (λ l. take o gs ++ l) (slice_snoc gs (o + 1) k (omega (arith, w.before o refl)) h) ∙ sym (append_assoc (take o gs) (slice (o + 1) k gs) (get_or gs k [] ∷ [])))
          ∙ placed (Some o) k h w (record { outer = get_or gs o [] ∷ []; inner = (take o gs ++ slice (o + 1) k gs) ++ (get_or gs k [] ∷ []) }) (go (volume (get_or gs k [])) (place_by (state_at (Some o) k) (get_or gs k [])) inward e);
    }

  -- the end of the search
  module _ (k : ℕ) (h : length gs ≤ k) where
    pub end_found : (o : ℕ) → Part (Some o) k → Ordered volume gs (Ok o)
    unfolding Ordered order_shells outer_first state_at outer_of
    end_found o w = (omega (arith, w.before o refl, w.upto), go (walk (place_shell volume) (record { outer = []; inner = [] }) gs) (λ s. outer_first s.outer s.inner) (state_at (Some o) k) last ∙ ap (λ l. Ok (get_or gs o [] ∷ (take o gs ++ drop (o + 1) l))) (take_all k gs h))
      where
        last : walk (place_shell volume) (record { outer = []; inner = [] }) gs ≡ Ok (state_at (Some o) k)
        last = sym w.left ∙ ap (walk (place_shell volume) (state_at (Some o) k)) (drop_of_length-le gs h) ∙ walk_end (place_shell volume) (state_at (Some o) k)

    pub end_none : Part None k → Ordered volume gs (Err (refusal_of 23))
    unfolding Ordered order_shells outer_first state_at
    end_none w = go (walk (place_shell volume) (record { outer = []; inner = [] }) gs) (λ s. outer_first s.outer s.inner) (state_at None k) (sym w.left ∙ ap (walk (place_shell volume) (state_at None k)) (drop_of_length-le gs h) ∙ walk_end (place_shell volume) (state_at None k))
