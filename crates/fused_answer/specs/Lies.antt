-- Bodies that were written into slices (`assembly`, `Laid`) are the bodies that are read from them.
use Rattle.std.specs.Prelude.{◌≡◌, refl, List, [], ◌∷◌, ◌++◌, map, ℕ, ◌+◌, ◌≤◌, length, drop, take}
use Rattle.std.proofs.Common.{sym, ap, ap₂, ◌∙◌, subst, arith, length-append, take-take, take_at, drop_at, take-add, drop-drop}
use Rattle.std.proofs.lemmas.List.{map-append, length-map}
use Rattle.std.proofs.Math.Seq.{take-length}
use Rattle.sums.specs.Sum.{sum}
use Rattle.groups.specs.Groups.{joined}
use Rattle.bodies.specs.Fusing.{Bodies}
use Rattle.listing.specs.Appended.{appended}
use Rattle.listing.specs.Listed.{joined_both}
use Rattle.assembly.specs.Answer.{shells_in}
use Rattle.room.specs.Rooms.{counts_at}
use Rattle.solids.specs.Frames.{faces_at, Placing}
use Rattle.fused_answer.specs.Bodies.{total, bodies_at, Stacked}

split_counts : (l : List ℕ) (from : ℕ) (a c : List ℕ) → counts_at l from (length (a ++ c)) ≡ a ++ c → (counts_at l from (length a) ≡ a) × (counts_at l (from + length a) (length c) ≡ c)
split_counts l from a c e =
    let y : List ℕ = drop from l in
    let n : length (a ++ c) ≡ length a + length c = length-append a c in
    let first : take (length a) y ≡ a = sym (take-take (length a) (length (a ++ c)) y (omega (arith, n))) ∙ ap (take (length a)) e ∙ take_at a c (length a) refl in
    let second : take (length c) (drop (length a) y) ≡ c =
    sym (drop_at (take (length a) y) (take (length c) (drop (length a) y)) (length a) (ap length first)) ∙ ap (drop (length a)) (sym (take-add (length a) (length c) y))
    ∙ ap (λ k. drop (length a) (take k y)) (sym n) ∙ ap (drop (length a)) e ∙ drop_at a c (length a) refl in
    (first, ap (take (length c)) (sym (drop-drop (length a) from l)) ∙ second)

faces_lie : (x : List ℕ) (from : ℕ) (b : List (List ℕ)) → counts_at x from (length (joined b)) ≡ joined b → faces_at x from (map length b) ≡ b
unfolding faces_at joined
faces_lie x from [] e = refl
faces_lie x from (g ∷ gs) e = let s = split_counts x from g (joined gs) e in ap₂ (λ a c. a ∷ c) s.0 (faces_lie x (from + length g) gs s.1)

total_joined : (b : List (List ℕ)) → total (map length b) ≡ length (joined b)
unfolding sum joined
total_joined [] = refl
total_joined (g ∷ gs) = omega (arith, total_joined gs, length-append g (joined gs))

placing_lie : (from m : ℕ) (b : List (List ℕ)) → from + length (joined b) ≤ m → Placing (map length b) from m
unfolding Placing joined
placing_lie from m [] h = omega arith
placing_lie from m (g ∷ gs) h = placing_lie (from + length g) m gs (omega (arith, length-append g (joined gs)))

-- the sizes and places of the first body
module _ (x z : List ℕ) (from sat : ℕ) (b : List (List ℕ)) (k : counts_at z sat (length b) ≡ map length b) where
  next_facet : from + total (counts_at z sat (length b)) ≡ from + length (joined b)
  next_facet = ap (λ ns. from + total ns) k ∙ ap (λ m. from + m) (total_joined b)

sizes_first : (z : List ℕ) (sat : ℕ) (b : List (List ℕ)) (gs : List (List ℕ)) → counts_at z sat (length (map length (b ++ gs))) ≡ map length (b ++ gs) → (counts_at z sat (length b) ≡ map length b) × (counts_at z (sat + length b) (length (map length gs)) ≡ map length gs)
sizes_first z sat b gs q =
    let t = split_counts z sat (map length b) (map length gs) (subst (λ l. counts_at z sat (length l) ≡ l) (map-append length b gs) q) in
    (ap (counts_at z sat) (sym (length-map b length)) ∙ t.0, ap (λ m. counts_at z (sat + m) (length (map length gs))) (sym (length-map b length)) ∙ t.1)

bodies_lie : (x z : List ℕ) (from sat : ℕ) (bs : Bodies) → counts_at x from (length (joined (shells_in bs))) ≡ joined (shells_in bs) → counts_at z sat (length (map length (shells_in bs))) ≡ map length (shells_in bs) → bodies_at x z from sat (map length bs) ≡ bs
unfolding bodies_at shells_in
bodies_lie x z from sat [] e q = refl
bodies_lie x z from sat (b ∷ bs) e q =
    let s = split_counts x from (joined b) (joined (shells_in bs)) (subst (λ l. counts_at x from (length l) ≡ l) (joined_both b (shells_in bs)) e) in
    let t = sizes_first z sat b (shells_in bs) q in
    ap₂ (λ a c. a ∷ c) (ap (faces_at x from) t.0 ∙ faces_lie x from b s.0)
    (ap (λ u. bodies_at x z u (sat + length b) (map length bs)) (next_facet x z from sat b t.0) ∙ bodies_lie x z (from + length (joined b)) (sat + length b) bs s.1 t.1)

stacked_lie : (x z : List ℕ) (from sat : ℕ) (bs : Bodies) → from + length (joined (shells_in bs)) ≤ length x → sat + length (shells_in bs) ≤ length z → counts_at z sat (length (map length (shells_in bs))) ≡ map length (shells_in bs) → Stacked x z from sat (map length bs)
unfolding Stacked shells_in
stacked_lie x z from sat [] h l q = tt
stacked_lie x z from sat (b ∷ bs) h l q =
    let t = sizes_first z sat b (shells_in bs) q in
    let n = length-append b (shells_in bs) in
    let m : length (joined (b ++ shells_in bs)) ≡ length (joined b) + length (joined (shells_in bs)) = ap length (joined_both b (shells_in bs)) ∙ length-append (joined b) (joined (shells_in bs)) in (
      omega arith,
      subst (λ ns. Placing ns from (length x)) (sym t.0) (placing_lie from (length x) b (omega arith)),
      subst (λ u. Stacked x z u (sat + length b) (map length bs)) (sym (next_facet x z from sat b t.0)) (stacked_lie x z (from + length (joined b)) (sat + length b) bs (omega arith) (omega arith) t.1),
    )

front : (d l : List ℕ) → take (length l) (appended d 0 l) ≡ l
unfolding appended
front d l = take_at l (drop (0 + length l) d) (length l) refl

enough : (d l : List ℕ) → length l ≤ length (appended d 0 l)
unfolding appended
enough d l = omega (arith, length-append l (drop (0 + length l) d))

module _ (bs : Bodies) (x₀ s₀ b₀ x s b : List ℕ) (ex : x ≡ appended x₀ 0 (joined (shells_in bs))) (es : s ≡ appended s₀ 0 (map length (shells_in bs))) (eb : b ≡ appended b₀ 0 (map length bs)) where
  abbrev facets : List ℕ
  facets = take (length (joined (shells_in bs))) x

  in_front : facets ≡ joined (shells_in bs)
  in_front = ap (take (length (joined (shells_in bs)))) ex ∙ front x₀ (joined (shells_in bs))

  sizes_lie : counts_at s 0 (length (map length (shells_in bs))) ≡ map length (shells_in bs)
  sizes_lie = ap (take (length (map length (shells_in bs)))) es ∙ front s₀ (map length (shells_in bs))

  counts_lie : counts_at b 0 (length bs) ≡ map length bs
  counts_lie = ap (λ n. take n b) (sym (length-map bs length)) ∙ ap (take (length (map length bs))) eb ∙ front b₀ (map length bs)

  -- what is read is what was written
  pub laid_bodies : bodies_at (take (length (joined (shells_in bs))) x) s 0 0 (counts_at b 0 (length bs)) ≡ bs
  laid_bodies = ap (bodies_at facets s 0 0) counts_lie
      ∙ bodies_lie facets s 0 0 bs (ap (take (length (joined (shells_in bs)))) in_front ∙ take-length (joined (shells_in bs))) sizes_lie

  pub laid_stacked : Stacked (take (length (joined (shells_in bs))) x) s 0 0 (counts_at b 0 (length bs))
  laid_stacked = subst (Stacked facets s 0 0) (sym counts_lie) (stacked_lie facets s 0 0 bs (omega (arith, ap length in_front)) (omega (arith, ap length es, enough s₀ (map length (shells_in bs)), length-map (shells_in bs) length)) sizes_lie)

  pub laid_many : length bs ≤ length b
  laid_many = omega (arith, ap length eb, enough b₀ (map length bs), length-map bs length)
