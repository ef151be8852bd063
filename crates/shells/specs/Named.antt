-- Places in a body become facets.
use Rattle.std.specs.Prelude.{◌≡◌, refl, List, [], ◌∷◌, ◌++◌, map, ℕ, zero, suc, ◌+◌, ◌*◌, ◌/◌, ◌≤◌, ◌<◌, length, get_or, set, take, drop}
use Rattle.std.proofs.Common.{sym, ap, ap₂, ◌∙◌, ⊎_elim, arith, add-one, length-set, take-append-drop, take_at, drop_at, get_or-take, take-suc, take-suc-set, drop-set-lt, drop-drop, get_or-drop}
use Rattle.std.proofs.lemmas.List.{map-append, length-map}
use Rattle.std.proofs.Math.Decide.{dec_lt}
use Rattle.sums.specs.Sum.{sum, sum_one, hit, hit_cases, Each}
use Rattle.sums.proofs.KeyLaws.{full_zero, all_each, each_get_d, graph_of}
use Rattle.sums.proofs.CountLaws.{ones}
use Rattle.sums.specs.Components.{components}
use Rattle.sums.specs.ComponentLaws.{Components}
use Rattle.sums.proofs.ComponentLaws.{components_found}
use Rattle.groups.specs.Chain.{pairs_of}
use Rattle.groups.specs.Groups.{joined, bounds, Grouped, Within, joins_of, sum_joined}

abbrev pub name_in : List ℕ → ℕ → ℕ
name_in f p = get_or f p 0

-- Each of n places has a name.
pub record Placed (f d : List ℕ) (n : ℕ) : Type 0 where
  pub room : n ≤ length d
  pub inn : (k : ℕ) → k < n → get_or d k 0 < length f

-- The first i places have their names.
pub record Naming (f d₀ d : List ℕ) (n i : ℕ) : Type 0 where
  pub upto : i ≤ n
  pub done : take i d ≡ map (name_in f) (take i d₀)
  pub rest : drop i d ≡ drop i d₀
  pub size : length d ≡ length d₀

module _ (f d₀ : List ℕ) (n : ℕ) where
  pub naming_start : Naming f d₀ d₀ n 0
  naming_start = record { upto = omega arith; done = refl; rest = refl; size = refl }

  same_at : (d : List ℕ) (i : ℕ) → drop i d ≡ drop i d₀ → get_or d i 0 ≡ get_or d₀ i 0
  same_at d i e =
      let z : i + 0 ≡ i = omega arith in
      ap (λ k. get_or d k 0) (sym z) ∙ sym (get_or-drop i d 0 0) ∙ ap (λ l. get_or l 0 0) e ∙ get_or-drop i d₀ 0 0 ∙ ap (λ k. get_or d₀ k 0) z

  -- what a turn asks
  pub naming_in : (d : List ℕ) (i : ℕ) → Placed f d₀ n → i < n → Naming f d₀ d n i → get_or d i 0 < length f
  naming_in d i p h w = omega (arith, same_at d i w.rest, p.inn i h)

  pub naming_room : (d : List ℕ) (i : ℕ) → Placed f d₀ n → i < n → Naming f d₀ d n i → i < length d
  naming_room d i p h w = omega (arith, w.size, p.room)

  pub naming_step : (d : List ℕ) (i x : ℕ) → i < n → Placed f d₀ n → Naming f d₀ d n i → x ≡ get_or f (get_or d i 0) 0 → Naming f d₀ (set d i x) n (i + 1)
  naming_step d i x h l w e = record {
    upto = omega arith;
    done = ap (λ k. take k (set d i x)) (add-one i) ∙ take-suc-set d i x (omega (arith, w.size, l.room))
        ∙ ap₂ (λ a b. a ++ (b ∷ [])) w.done (e ∙ ap (name_in f) (same_at d i w.rest))
        ∙ sym (ap (λ k. map (name_in f) (take k d₀)) (add-one i) ∙ ap (map (name_in f)) (take-suc d₀ i 0 (omega (arith, l.room))) ∙ map-append (name_in f) (take i d₀) (get_or d₀ i 0 ∷ []));
    rest = drop-set-lt (i + 1) d i x (omega arith) ∙ sym (drop-drop 1 i d) ∙ ap (drop 1) w.rest ∙ drop-drop 1 i d₀;
    size = length-set d i x ∙ w.size;
  }

  pub naming_end : (d : List ℕ) (i : ℕ) → n ≤ i → Naming f d₀ d n i → d ≡ map (name_in f) (take n d₀) ++ drop n d₀
  naming_end d i h w =
      let z : i ≡ n = omega (arith, w.upto) in
      sym (take-append-drop i d) ∙ ap₂ (λ a b. a ++ b) w.done w.rest ∙ ap (λ k. map (name_in f) (take k d₀) ++ drop k d₀) z

-- ---- the groups with their names

pub joined_map : (g : ℕ → ℕ) (gs : List (List ℕ)) → joined (map (map g) gs) ≡ map g (joined gs)
unfolding joined
joined_map g [] = refl
joined_map g (h ∷ gs) = ap (λ l. map g h ++ l) (joined_map g gs) ∙ sym (map-append g h (joined gs))

pub bounds_map : (g : ℕ → ℕ) (a : ℕ) (gs : List (List ℕ)) → bounds a (map (map g) gs) ≡ bounds a gs
unfolding bounds
bounds_map g a [] = refl
bounds_map g a (h ∷ gs) = ap (λ l. a ∷ l) (ap (λ n. bounds (a + n) (map (map g) gs)) (length-map h g) ∙ bounds_map g (a + length h) gs)

-- What finding the shells asks of its slices.
pub record Spread (ends head next seen work faces nodes cuts : List ℕ) : Type 0 where
  pub within : (k : ℕ) → k < length ends → get_or ends k 0 < length faces
  pub heads : length head ≡ length faces
  pub flags : length seen ≡ length faces
  pub links : length ends ≤ length next
  pub stack : length faces ≤ length work
  pub room : length faces ≤ length nodes
  pub marks : length faces < length cuts

pairs_within : (n k : ℕ) (l : List ℕ) → 2 * k ≤ length l → Within l n → Each (λ p. (p.0 < n) × (p.1 < n)) (pairs_of k l)
unfolding pairs_of
pairs_within n zero l h w = tt
pairs_within n (suc k) [] h w = tt
pairs_within n (suc k) (a ∷ []) h w = tt
pairs_within n (suc k) (a ∷ b ∷ l) h w = ((w 0 (omega arith), w 1 (omega arith)), pairs_within n k l (omega arith) (λ j i. w (suc (suc j)) (omega arith)))

module _ (ends : List ℕ) (n : ℕ) (w : Within ends n) where
  pub found : Components n (joins_of ends) (components n (joins_of ends))
  unfolding joins_of
  found = components_found n (joins_of ends) (graph_of n (pairs_of (length ends / 2) ends) (pairs_within n (length ends / 2) ends (omega arith) w))

  pub many_nodes : length (joined (components n (joins_of ends))) ≡ n
  many_nodes = sym (sum_one (joined (components n (joins_of ends)))) ∙ sum_joined (λ _. 1) (components n (joins_of ends)) ∙ found.once (λ _. 1) ∙ ones n

  pub node_in : (k : ℕ) → k < n → get_or (joined (components n (joins_of ends))) k 0 < n
  node_in k h = each_get_d (λ i. i < n) (joined (components n (joins_of ends))) 0 k (all_each (λ i. i < n) (joined (components n (joins_of ends))) inside) (omega (arith, many_nodes))
    where
      off : (i j : ℕ) → n ≤ i → j < n → hit i j ≡ 0
      off i j h l = ⊎_elim (λ c. absurd (omega (arith, c.0))) (λ c. c.1) (hit_cases i j)

      inside : (i : ℕ) → 1 ≤ sum (hit i) (joined (components n (joins_of ends))) → i < n
      inside i m = go (dec_lt i n)
        where
          go : Dec (i < n) → i < n
          go (yes h) = h
          go (no h) = absurd (omega (arith, sum_joined (hit i) (components n (joins_of ends)), found.once (hit i), full_zero (hit i) n (λ j l. off i j (omega arith) l)))

module _ (ends head next seen work faces nodes cuts : List ℕ) (s : Spread ends head next seen work faces nodes cuts) where
  within' : Within ends (length faces)
  within' = s.within

  pub spread_nodes : Within ends (length seen)
  spread_nodes k h = omega (arith, s.within k h, s.flags)

  pub spread_heads : length head ≡ length seen
  spread_heads = s.heads ∙ sym s.flags

  pub spread_links : length ends ≤ length next
  spread_links = s.links

  pub spread_cuts : length seen < length cuts
  spread_cuts = omega (arith, s.flags, s.marks)

  pub spread_work : length seen ≤ length work
  spread_work = omega (arith, s.flags, s.stack)

  pub spread_room : length seen ≤ length nodes
  spread_room = omega (arith, s.flags, s.room)

  module _ (d c : List ℕ) (m : ℕ) (g : Grouped (components (length seen) (joins_of ends)) nodes cuts d c m) where
    same : components (length seen) (joins_of ends) ≡ components (length faces) (joins_of ends)
    same = ap (λ n. components n (joins_of ends)) s.flags

    front : take (length faces) d ≡ joined (components (length faces) (joins_of ends))
    front = ap (take (length faces)) (g.nodes ∙ ap (λ l. joined l ++ drop (length (joined l)) nodes) same)
        ∙ take_at (joined (components (length faces) (joins_of ends))) (drop (length (joined (components (length faces) (joins_of ends)))) nodes) (length faces) (many_nodes ends (length faces) within')

    pub spread_placed : length d ≡ length nodes → Placed faces d (length faces)
    spread_placed l = record {
      room = omega (arith, s.room);
      inn = λ k h. omega (arith, sym (get_or-take (length faces) d k 0 h) ∙ ap (λ l. get_or l k 0) front, node_in ends (length faces) within' k h);
    }

    pub spread_named : (d' : List ℕ) → d' ≡ map (name_in faces) (take (length faces) d) ++ drop (length faces) d →
        Grouped (map (map (name_in faces)) (components (length faces) (joins_of ends))) nodes cuts d' c m
    spread_named d' e = record {
      many = g.many ∙ ap length same ∙ sym (length-map (components (length faces) (joins_of ends)) (map (name_in faces)));
      nodes = e ∙ ap₂ (λ a b. map (name_in faces) a ++ b) front behind ∙ ap₂ (λ a k. a ++ drop k nodes) (sym named) (sym long);
      cuts = g.cuts ∙ ap (λ l. l ++ drop (m + 1) cuts) (ap (bounds 0) same ∙ sym (bounds_map (name_in faces) 0 (components (length faces) (joins_of ends))));
    }
      where
        all : List (List ℕ)
        all = components (length faces) (joins_of ends)

        behind : drop (length faces) d ≡ drop (length faces) nodes
        behind = ap (drop (length faces)) (g.nodes ∙ ap (λ l. joined l ++ drop (length (joined l)) nodes) same) ∙ drop_at (joined all) (drop (length (joined all)) nodes) (length faces) (many_nodes ends (length faces) within') ∙ ap (λ k. drop k nodes) (many_nodes ends (length faces) within')

        named : joined (map (map (name_in faces)) all) ≡ map (name_in faces) (joined all)
        named = joined_map (name_in faces) all

        long : length (joined (map (map (name_in faces)) all)) ≡ length faces
        long = ap length named ∙ length-map (joined all) (name_in faces) ∙ many_nodes ends (length faces) within'
