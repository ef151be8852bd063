-- Groups one after another are rows of a slice.
use Rattle.std.specs.Prelude.{◌≡◌, refl, List, [], ◌∷◌, ◌++◌, ℕ, zero, suc, ◌+◌, ◌≤◌, ◌<◌, get_or, take, drop}
use Rattle.std.proofs.Common.{sym, ap₂, ◌∙◌, append_assoc, arith, add-one, take-suc, take_all, take_at, drop_at, ext_get_or}
use Rattle.std.proofs.Math.Path.{ap}
use Rattle.std.proofs.Math.ListN.{length, length-append, get_or-append}
use Rattle.std.proofs.Math.Seq.{slice}
use Rattle.keys.specs.Rows.{Starts, row, rows, row_at, length_rows}
use Rattle.groups.specs.Groups.{joined, bounds, Grouped, length_bounds}
use Rattle.listing.specs.Listed.{joined_both, joined_one}

bound_at : (a : ℕ) (gs : List (List ℕ)) (k : ℕ) → k ≤ length gs → get_or (bounds a gs) k 0 ≡ a + length (joined (take k gs))
unfolding bounds joined
bound_at a [] zero h = omega arith
bound_at a [] (suc k) h = absurd (omega arith)
bound_at a (g ∷ gs) zero h = omega arith
bound_at a (g ∷ gs) (suc k) h = bound_at (a + length g) gs k (omega arith) ∙ omega (arith, length-append g (joined (take k gs)))

pub joined_split : (gs : List (List ℕ)) (k : ℕ) → k < length gs → joined gs ≡ joined (take k gs) ++ (get_or gs k [] ++ joined (drop (suc k) gs))
unfolding joined
joined_split [] k h = absurd (omega arith)
joined_split (g ∷ gs) zero h = refl
joined_split (g ∷ gs) (suc k) h = ap (λ l. g ++ l) (joined_split gs k (omega arith)) ∙ sym (append_assoc g (joined (take k gs)) (get_or gs k [] ++ joined (drop (suc k) gs)))

joined_take : (gs : List (List ℕ)) (k : ℕ) → k < length gs → length (joined (take (k + 1) gs)) ≡ length (joined (take k gs)) + length (get_or gs k [])
joined_take gs k h = ap length (ap (λ n. joined (take n gs)) (add-one k) ∙ ap joined (take-suc gs k [] h) ∙ joined_both (take k gs) (get_or gs k [] ∷ []) ∙ ap (λ l. joined (take k gs) ++ l) (joined_one (get_or gs k []))) ∙ length-append (joined (take k gs)) (get_or gs k [])

module _ (gs : List (List ℕ)) (d₀ c₀ d c : List ℕ) (m : ℕ) (w : Grouped gs d₀ c₀ d c m) where
  cut : (k : ℕ) → k ≤ m → get_or c k 0 ≡ length (joined (take k gs))
  cut k h = ap (λ l. get_or l k 0) w.cuts ∙ get_or-append (bounds 0 gs) (drop (m + 1) c₀) 0 k (omega (arith, length_bounds 0 gs, w.many)) ∙ bound_at 0 gs k (omega (arith, w.many)) ∙ omega arith

  long : length (joined gs) ≤ length d
  long = omega (arith, ap length w.nodes, length-append (joined gs) (drop (length (joined gs)) d₀))

  upto : (k : ℕ) → k < m → length (joined (take k gs)) + length (get_or gs k []) ≤ length (joined gs)
  upto k h = omega (arith, ap length (joined_split gs k (omega (arith, w.many))), length-append (joined (take k gs)) (get_or gs k [] ++ joined (drop (suc k) gs)), length-append (get_or gs k []) (joined (drop (suc k) gs)))

  pub next_cut : (k : ℕ) → k < m → get_or c (k + 1) 0 ≡ get_or c k 0 + length (get_or gs k [])
  next_cut k h = cut (k + 1) (omega arith) ∙ omega (arith, joined_take gs k (omega (arith, w.many)), cut k (omega arith))

  pub grouped_starts : Starts d c m
  unfolding joined
  grouped_starts = record {
    first = cut 0 (omega arith);
    up = λ k h. omega (arith, next_cut k h);
    inn = λ k h. omega (arith, next_cut k h, cut k (omega arith), upto k h, long);
    many = omega (arith, ap length w.cuts, length-append (bounds 0 gs) (drop (m + 1) c₀), length_bounds 0 gs, w.many);
  }

  pub last_cut : get_or c m 0 ≡ length (joined gs)
  last_cut = cut m (omega arith) ∙ ap (λ l. length (joined l)) (take_all m gs (omega (arith, w.many)))

  this_row : (k : ℕ) → k < m → row d c k ≡ get_or gs k []
  this_row k h =
      let x : ℕ = length (joined (take k gs)) in
      let g : List ℕ = get_or gs k [] in
      let a : List ℕ = joined (take k gs) in
      let b : List ℕ = joined (drop (suc k) gs) in
      let r : List ℕ = drop (length (joined gs)) d₀ in
      let e : d ≡ (a ++ g) ++ (b ++ r) = w.nodes ∙ ap (λ l. l ++ r) (joined_split gs k (omega (arith, w.many))) ∙ append_assoc a (g ++ b) r ∙ ap (λ l. a ++ l) (append_assoc g b r) ∙ sym (append_assoc a g (b ++ r)) in
      ap₂ (λ p q. slice p q d) (cut k (omega arith)) (next_cut k h ∙ ap (λ n. n + length g) (cut k (omega arith)))
      ∙ ap (λ l. drop x (take (x + length g) l)) e
      ∙ ap (drop x) (take_at (a ++ g) (b ++ r) (x + length g) (length-append a g))
      ∙ drop_at a g x refl

  pub grouped_rows : rows d c m ≡ gs
  grouped_rows = ext_get_or [] (rows d c m) gs (length_rows d c m ∙ w.many) (λ k h. row_at d c m k (omega (arith, length_rows d c m)) ∙ this_row k (omega (arith, length_rows d c m)))
