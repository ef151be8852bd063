-- The places of each node among the ends of pairs, as chains in two slices.
use Rattle.std.specs.Prelude.{◌≡◌, ◌⊎◌, ◌≢◌, length, set, drop, replicate}
use Rattle.std.proofs.Math.Path.{refl, ap, ap₂, subst}
use Rattle.std.proofs.Common.{sym, ◌∙◌, inl, inr, drop-cons}
use mathlib.Core.List.{List, [], ◌∷◌, map}
use Prim.Native.Nat.{ℕ, zero, suc, ◌+◌, ◌-◌, ◌*◌, ◌/◌, ◌%◌, ◌≤◌, ◌<◌}
use native.Mathlib.Omega.{arith}
use Rattle.std.proofs.Math.ListN.{get_or, length-set}
use Rattle.std.proofs.lemmas.List.{length-replicate, get_or-replicate}
use Rattle.std.proofs.Math.Seq.{get_or-set_same, get_or-set_other}
use Rattle.sums.specs.Sum.{hit, hit_cases}
use Rattle.sums.specs.Keys.{put, keep, nbr, nbrs}

-- the other place of the same pair
abbrev pub opposite : ℕ → ℕ
opposite e = e + 1 - 2 * (e % 2)

-- the pairs of a list of ends
unfoldable pub pairs_of : ℕ → List ℕ → List (ℕ × ℕ)
pairs_of zero l = []
pairs_of (suc p) [] = []
pairs_of (suc p) (a ∷ []) = []
pairs_of (suc p) (a ∷ b ∷ l) = (a, b) ∷ pairs_of p l

-- k numbers from e on
unfoldable pub up_from : ℕ → ℕ → List ℕ
up_from e zero = []
up_from e (suc k) = e ∷ up_from (suc e) k

-- the places from e on that have node i
abbrev pub places_of : List ℕ → ℕ → ℕ → ℕ → List ℕ
places_of ends i e k = keep (λ x. hit (get_or ends x 0) i) (up_from e k)

-- From h on, along `next`, the list; the chain ascends, and `all` ends it.
abbrev pub Chain : List ℕ → ℕ → ℕ → List ℕ → Type 0
Chain next all h [] = h ≡ all
Chain next all h (x ∷ l) = (h ≡ x) × (x < all) × (x < get_or next x 0) × Chain next all (get_or next x 0) l

-- An even number of ends, all of them below n.
pub record Inside (ends : List ℕ) (all n : ℕ) : Type 0 where
  pub pairs : ℕ
  pub even : all ≡ 2 * pairs
  pub upto : all ≤ length ends
  pub below : (k : ℕ) → k < all → get_or ends k 0 < n

pub record Linking (ends : List ℕ) (all : ℕ) (head₀ next₀ head next : List ℕ) (e : ℕ) : Type 0 where
  pub upto : e ≤ all
  pub chains : (i : ℕ) → i < length head → Chain next all (get_or head i 0) (places_of ends i e (all - e))
  pub low : (i : ℕ) → i < length head → e ≤ get_or head i 0
  pub size_h : length head ≡ length head₀
  pub size_n : length next ≡ length next₀

-- The chain of each node.
pub record Linked (ends : List ℕ) (all : ℕ) (head₀ next₀ head next : List ℕ) : Type 0 where
  pub chains : (i : ℕ) → i < length head → Chain next all (get_or head i 0) (places_of ends i 0 all)
  pub size_h : length head ≡ length head₀
  pub size_n : length next ≡ length next₀

-- a store at an earlier place leaves a chain alone
chain_set : (next : List ℕ) (all e v h : ℕ) (l : List ℕ) → e < h → Chain next all h l → Chain (set next e v) all h l
chain_set next all e v h [] b c = c
chain_set next all e v h (x ∷ l) b c =
    let z : get_or (set next e v) x 0 ≡ get_or next x 0 = get_or-set_other next e x v 0 (λ q. omega (arith, c.0)) in
    (c.0, c.1, omega (arith, c.2), subst (λ n. Chain (set next e v) all n l) (sym z) (chain_set next all e v (get_or next x 0) l (omega (arith, c.0, c.2)) c.3))

pub linking_start : (ends : List ℕ) (all : ℕ) (next head : List ℕ) → head ≡ replicate (length head) all → Linking ends all head next head next all
unfolding keep up_from
linking_start ends all next head e = record { upto = omega arith; chains = at; low = λ i h. omega (arith, filled i h); size_h = refl; size_n = refl }
  where
    filled : (i : ℕ) → i < length head → get_or head i 0 ≡ all
    filled i h = ap (λ l. get_or l i 0) e ∙ get_or-replicate (length head) i all 0 h

    at : (i : ℕ) → i < length head → Chain next all (get_or head i 0) (places_of ends i all (all - all))
    at i h =
        let z : all - all ≡ 0 = omega arith in
        subst (λ k. Chain next all (get_or head i 0) (places_of ends i all k)) (sym z) (filled i h)

module _ (ends : List ℕ) (all : ℕ) (head₀ next₀ head next : List ℕ) (d : ℕ) (s : Inside ends all (length head)) (room : all ≤ length next) (h : d < all)
    (q : Linking ends all head₀ next₀ head next (suc d)) where
  c : ℕ
  c = get_or ends d 0

  next' : List ℕ
  next' = set next d (get_or head c 0)

  head' : List ℕ
  head' = set head c d

  c_in : c < length head
  unfolding c
  c_in = s.below d h

  places_step : (i : ℕ) → places_of ends i d (all - d) ≡ put (hit c i) d (places_of ends i (suc d) (all - suc d))
  unfolding keep up_from c
  places_step i =
      let z : all - d ≡ suc (all - suc d) = omega arith in
      rw z refl

  kept : (i : ℕ) → i < length head → Chain next' all (get_or head i 0) (places_of ends i (suc d) (all - suc d))
  unfolding next'
  kept i l = chain_set next all d (get_or head c 0) (get_or head i 0) (places_of ends i (suc d) (all - suc d)) (omega (arith, q.low i l)) (q.chains i l)

  at_d : get_or next' d 0 ≡ get_or head c 0
  unfolding next'
  at_d = get_or-set_same next d (get_or head c 0) 0 (omega arith)

  at : (i : ℕ) → i < length head → Chain next' all (get_or head' i 0) (places_of ends i d (all - d))
  unfolding head' put
  at i l = subst (Chain next' all (get_or head' i 0)) (sym (places_step i)) (go (hit_cases c i))
    where
      go : ((c ≡ i) × (hit c i ≡ 1)) ⊎ ((c ≢ i) × (hit c i ≡ 0)) → Chain next' all (get_or head' i 0) (put (hit c i) d (places_of ends i (suc d) (all - suc d)))
      go (inl e) =
          let z : get_or head' i 0 ≡ d = ap (λ j. get_or head' j 0) (sym e.0) ∙ get_or-set_same head c d 0 c_in in
          let y : get_or head c 0 ≡ get_or head i 0 = ap (λ j. get_or head j 0) e.0 in
          rw (e.1, put) (z, h, omega (arith, at_d, q.low c c_in), subst (λ n. Chain next' all n (places_of ends i (suc d) (all - suc d))) (sym (at_d ∙ y)) (kept i l))
      go (inr e) =
          let z : get_or head' i 0 ≡ get_or head i 0 = get_or-set_other head c i d 0 (λ r. e.0 (sym r)) in
          rw (e.1, put, z) (kept i l)

  low' : (i : ℕ) → i < length head → d ≤ get_or head' i 0
  unfolding head'
  low' i l = go (hit_cases c i)
    where
      go : ((c ≡ i) × (hit c i ≡ 1)) ⊎ ((c ≢ i) × (hit c i ≡ 0)) → d ≤ get_or head' i 0
      go (inl e) = omega (arith, ap (λ j. get_or head' j 0) (sym e.0) ∙ get_or-set_same head c d 0 c_in)
      go (inr e) = omega (arith, get_or-set_other head c i d 0 (λ r. e.0 (sym r)), q.low i l)

  linking_one : Linking ends all head₀ next₀ head' next' d
  linking_one = record {
    upto = omega arith;
    chains = λ i l. at i (omega (arith, len_h));
    low = λ i l. low' i (omega (arith, len_h));
    size_h = len_h ∙ q.size_h;
    size_n = len_n ∙ q.size_n;
  }
    where
      len_h : length head' ≡ length head
      len_h = unfold head' in length-set head c d

      len_n : length next' ≡ length next
      len_n = unfold next' in length-set next d (get_or head c 0)

-- one turn, in the code's words
pub linking_step : (ends : List ℕ) (all : ℕ) (head₀ next₀ head next : List ℕ) (e : ℕ) → Inside ends all (length head₀) → all ≤ length next₀ → 0 < e →
    Linking ends all head₀ next₀ head next e → Linking ends all head₀ next₀ (set head (get_or ends (e - 1) 0) (e - 1)) (set next (e - 1) (get_or head (get_or ends (e - 1) 0) 0)) (e - 1)
unfolding c next' head'
linking_step ends all head₀ next₀ head next e s room h q =
    let z : e ≡ suc (e - 1) = omega arith in
    linking_one ends all head₀ next₀ head next (e - 1) (subst (Inside ends all) (sym q.size_h) s) (omega (arith, q.size_n)) (omega (arith, q.upto)) (subst (Linking ends all head₀ next₀ head next) z q)

pub linking_end : (ends : List ℕ) (all : ℕ) (head₀ next₀ head next : List ℕ) (e : ℕ) → e ≤ 0 → Linking ends all head₀ next₀ head next e → Linked ends all head₀ next₀ head next
linking_end ends all head₀ next₀ head next e h q =
    let z : e ≡ 0 = omega arith in
    let r : Linking ends all head₀ next₀ head next 0 = subst (Linking ends all head₀ next₀ head next) z q in
    let y : all - 0 ≡ all = omega arith in
    record { chains = λ i l. subst (λ k. Chain next all (get_or head i 0) (places_of ends i 0 k)) y (r.chains i l); size_h = r.size_h; size_n = r.size_n }

-- what a turn asks
pub linking_node : (ends : List ℕ) (all e : ℕ) (head₀ next₀ head next : List ℕ) → Inside ends all (length head₀) → 0 < e → Linking ends all head₀ next₀ head next e → get_or ends (e - 1) 0 < length head
linking_node ends all e head₀ next₀ head next s h q = omega (arith, s.below (e - 1) (omega (arith, q.upto)), q.size_h)

-- ---- the neighbours of a node lie opposite its places

abbrev pub around : List ℕ → ℕ → ℕ → List ℕ
around ends all i = nbrs (pairs_of (all / 2) ends) i

across : List ℕ → ℕ → ℕ
across ends e = get_or ends (opposite e) 0

map_put : (g : ℕ → ℕ) (t x : ℕ) (l : List ℕ) → map g (put t x l) ≡ put t (g x) (map g l)
unfolding put
map_put g zero x l = refl
map_put g (suc t) x l = refl

nbr_put : (a b t : ℕ) (l : List ℕ) → put t b l ≡ nbr a b t l
unfolding put nbr
nbr_put a b zero l = refl
nbr_put a b (suc t) l = refl

neighbours : (ends : List ℕ) (i p k : ℕ) → 2 * p + 2 * k ≤ length ends → map (across ends) (places_of ends i (2 * p) (2 * k)) ≡ nbrs (pairs_of k (drop (2 * p) ends)) i
unfolding keep up_from nbrs pairs_of
neighbours ends i p zero h = refl
neighbours ends i p (suc k) h =
    let z : 2 * suc k ≡ suc (suc (2 * k)) = omega arith in
    let a = get_or ends (2 * p) 0 in
    let b = get_or ends (suc (2 * p)) 0 in
    let oa : across ends (2 * p) ≡ b = unfold across in ap (λ j. get_or ends j 0) (odd p) in
    let ob : across ends (suc (2 * p)) ≡ a = unfold across in ap (λ j. get_or ends j 0) (evn p) in
    let w : suc (suc (2 * p)) ≡ 2 * suc p = omega arith in
    let rest = places_of ends i (suc (suc (2 * p))) (2 * k) in
    let ih : map (across ends) rest ≡ nbrs (pairs_of k (drop (suc (suc (2 * p))) ends)) i =
    subst (λ m. map (across ends) (places_of ends i m (2 * k)) ≡ nbrs (pairs_of k (drop m ends)) i) (sym w) (neighbours ends i (suc p) k (omega arith)) in
    rw z (map_put (across ends) (hit a i) (2 * p) (put (hit b i) (suc (2 * p)) rest)
    ∙ ap (put (hit a i) (across ends (2 * p))) (map_put (across ends) (hit b i) (suc (2 * p)) rest)
    ∙ ap₂ (λ x l. put (hit a i) x l) oa (ap₂ (λ x l. put (hit b i) x l) ob ih)
    ∙ nbr_put a b (hit a i) (put (hit b i) a (nbrs (pairs_of k (drop (suc (suc (2 * p))) ends)) i))
    ∙ ap (nbr a b (hit a i)) (nbr_put b a (hit b i) (nbrs (pairs_of k (drop (suc (suc (2 * p))) ends)) i))
    ∙ ap (λ l. nbrs (pairs_of (suc k) l) i) (sym (drop-cons ends (2 * p) 0 (omega arith) ∙ ap (λ l. a ∷ l) (drop-cons ends (suc (2 * p)) 0 (omega arith)))))
  where
    odd : (p : ℕ) → opposite (2 * p) ≡ suc (2 * p)
    odd p = omega arith

    evn : (p : ℕ) → opposite (suc (2 * p)) ≡ 2 * p
    evn p = omega arith

pub around_is : (ends : List ℕ) (all n i : ℕ) → Inside ends all n → map (λ e. get_or ends (opposite e) 0) (places_of ends i 0 all) ≡ around ends all i
unfolding across
around_is ends all n i s =
    let z : all / 2 ≡ s.pairs = omega (arith, s.even) in
    rw (z, s.even) (neighbours ends i 0 s.pairs (omega (arith, s.even, s.upto)))

-- ---- heads that hold `all` throughout

pub filled_inside : (ends : List ℕ) (all : ℕ) (head₀ head : List ℕ) → head ≡ replicate (length head₀) all → Inside ends all (length head₀) → Inside ends all (length head)
filled_inside ends all head₀ head e s = subst (Inside ends all) (sym (ap length e ∙ length-replicate (length head₀) all)) s

pub filled_same : (all : ℕ) (head₀ head : List ℕ) → head ≡ replicate (length head₀) all → head ≡ replicate (length head) all
filled_same all head₀ head e = e ∙ ap (λ n. replicate n all) (sym (ap length e ∙ length-replicate (length head₀) all))
