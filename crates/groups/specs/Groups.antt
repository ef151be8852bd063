-- The groups in slices.
use Rattle.std.specs.Prelude.{◌≡◌, ◌≢◌, List, [], ◌∷◌, ◌++◌, ℕ, zero, suc, ◌+◌, ◌*◌, ◌/◌, ◌≤◌, ◌<◌, get_or, set, replicate}
use Rattle.std.proofs.Math.Path.{refl, sym, ap, ap₂}
use Rattle.std.proofs.Common.{◌∙◌, subst, append_assoc, append-nil, arith, take-append-drop}
use Rattle.std.proofs.Math.Numerals.{add-one}
use Rattle.std.proofs.Math.ListN.{length, take, drop, length-set, length-append}
use Rattle.std.proofs.lemmas.List.{length-replicate}
use Rattle.std.proofs.Math.Seq.{get_or-set_same, drop-set-lt, take-suc-set}
use Rattle.sums.specs.Sum.{sum, open', open_le, flagged_one, sum_one, flagged}
use Rattle.sums.specs.Components.{Got, start, gather, comps, components}
use Rattle.sums.proofs.ComponentLaws.{comps_new, comps_old, root_weight, root_size}
use Rattle.sums.specs.Keys.{nbrs}
use Rattle.sums.proofs.KeyLaws.{drop_up, sum_append}
use Rattle.groups.specs.Chain.{Inside, Linked, around, pairs_of}
use Rattle.groups.specs.Stack.{Net, linked_net, get_d_any}
use Rattle.groups.specs.Walk.{Walked}

-- the groups one after another, and where each begins, with the end of the last
unfoldable pub joined : List (List ℕ) → List ℕ
joined [] = []
joined (g ∷ gs) = g ++ joined gs

unfoldable pub bounds : ℕ → List (List ℕ) → List ℕ
bounds a [] = a ∷ []
bounds a (g ∷ gs) = a ∷ bounds (a + length g) gs

-- What `components` leaves: the groups in `nodes`, their bounds in `cuts`; behind them nothing is touched.
pub record Grouped (gs : List (List ℕ)) (d₀ c₀ d c : List ℕ) (m : ℕ) : Type 0 where
  pub many : m ≡ length gs
  pub nodes : d ≡ joined gs ++ drop (length (joined gs)) d₀
  pub cuts : c ≡ bounds 0 gs ++ drop (m + 1) c₀

joined_snoc : (gs : List (List ℕ)) (g : List ℕ) → joined (gs ++ (g ∷ [])) ≡ joined gs ++ g
unfolding joined
joined_snoc [] g = append-nil g
joined_snoc (h ∷ gs) g = ap (λ l. h ++ l) (joined_snoc gs g) ∙ sym (append_assoc h (joined gs) g)

bounds_snoc : (a : ℕ) (gs : List (List ℕ)) (g : List ℕ) → bounds a (gs ++ (g ∷ [])) ≡ bounds a gs ++ ((a + length (joined gs) + length g) ∷ [])
unfolding joined bounds
bounds_snoc a [] g = let z : a + length g ≡ a + 0 + length g = omega arith in ap {B = List ℕ} (λ n. a ∷ n ∷ []) z
bounds_snoc a (h ∷ gs) g =
    let z : a + length h + length (joined gs) + length g ≡ a + length (h ++ joined gs) + length g = omega (arith, length-append h (joined gs)) in
    ap (λ l. a ∷ l) (bounds_snoc (a + length h) gs g ∙ ap (λ n. bounds (a + length h) gs ++ (n ∷ [])) z)

pub length_bounds : (a : ℕ) (gs : List (List ℕ)) → length (bounds a gs) ≡ suc (length gs)
unfolding bounds
length_bounds a [] = refl
length_bounds a (g ∷ gs) = ap suc (length_bounds (a + length g) gs)

-- a sum over all groups, group by group
pub sum_joined : (f : ℕ → ℕ) (gs : List (List ℕ)) → sum f (joined gs) ≡ sum (sum f) gs
unfolding joined sum
sum_joined f [] = refl
sum_joined f (g ∷ gs) = sum_append f g (joined gs) ∙ ap (λ n. sum f g + n) (sum_joined f gs)

last_bound : (a : ℕ) (gs : List (List ℕ)) → get_or (bounds a gs) (length gs) 0 ≡ a + length (joined gs)
unfolding joined bounds
last_bound a [] = omega arith
last_bound a (g ∷ gs) = last_bound (a + length g) gs ∙ omega (arith, length-append g (joined gs))

-- Before root r: m groups are there, and the rest is what `comps` gives from r on.
pub record Rooted (adj : ℕ → List ℕ) (s w d c : List ℕ) (m r : ℕ) : Type 0 where
  pub done : List (List ℕ)
  pub k : ℕ
  pub left : r + k ≡ length s
  pub all : done ++ comps adj (length s) k r s ≡ components (length s) adj
  pub many : m ≡ length done
  pub few : m ≤ r
  pub nodes : take (length (joined done)) d ≡ joined done
  pub cuts : take (m + 1) c ≡ bounds 0 done
  pub at : get_or c m 0 ≡ length (joined done)
  pub room : get_or c m 0 + sum open' s ≤ length d
  pub room_c : length s < length c
  pub room_w : length s ≤ length w

-- And what changed since m₀ groups were there.
pub record Roots (adj : ℕ → List ℕ) (m₀ : ℕ) (s₀ w₀ d₀ c₀ s w d c : List ℕ) (m r : ℕ) : Type 0 where
  pub rooted : Rooted adj s w d c m r
  pub up_d : get_or c₀ m₀ 0 ≤ get_or c m 0
  pub up_c : m₀ ≤ m
  pub rest_d : drop (get_or c m 0) d ≡ drop (get_or c m 0) d₀
  pub rest_c : drop (m + 1) c ≡ drop (m + 1) c₀
  pub size : length s ≡ length s₀
  pub size_w : length w ≡ length w₀
  pub size_d : length d ≡ length d₀
  pub size_c : length c ≡ length c₀

abbrev pub zeros : ℕ → List ℕ
zeros n = replicate n 0

size_zeros : (n : ℕ) → length (zeros n) ≡ n
size_zeros n = length-replicate {A = ℕ} n 0

rooted_start : (adj : ℕ → List ℕ) (n : ℕ) (w d c : List ℕ) → n < length c → get_or c 0 0 ≡ 0 → n ≤ length w → n ≤ length d → Rooted adj (zeros n) w d c 0 0
unfolding joined bounds components
rooted_start adj n w d c h z hw hd = record {
  done = [];
  k = n;
  left = omega (arith, size_zeros n);
  all = rw (size_zeros n) refl;
  many = refl;
  few = omega arith;
  nodes = refl;
  cuts = first c (omega arith) z;
  at = z;
  room = omega (arith, z, open_le (zeros n), size_zeros n);
  room_c = omega (arith, size_zeros n);
  room_w = omega (arith, size_zeros n);
}
  where
    first : (c : List ℕ) → 0 < length c → get_or c 0 0 ≡ 0 → take (0 + 1) c ≡ 0 ∷ []
    first [] h e = absurd (omega arith)
    first (x ∷ c) h e = ap (λ y. y ∷ []) e

-- a root that is seen
pub root_old : (adj : ℕ → List ℕ) (s w d c : List ℕ) (m r : ℕ) → r < length s → get_or s r 0 ≢ 0 → Rooted adj s w d c m r → Roots adj m s w d c s w d c m (r + 1)
root_old adj s w d c m r h n q = record { rooted = go q.k q.left q.all; up_d = omega arith; up_c = omega arith; rest_d = refl; rest_c = refl; size = refl; size_w = refl; size_d = refl; size_c = refl }
  where
    go : (k : ℕ) → r + k ≡ length s → q.done ++ comps adj (length s) k r s ≡ components (length s) adj → Rooted adj s w d c m (r + 1)
    go zero l a = absurd (omega arith)
    go (suc k) l a = flag (get_or s r 1) refl
      where
        flag : (b : ℕ) → get_or s r 1 ≡ b → Rooted adj s w d c m (r + 1)
        flag zero e = absurd (n (get_d_any s r 0 1 h ∙ e))
        flag (suc b) e = record {
          done = q.done;
          k = k;
          left = omega arith;
          all = rw (add-one) (ap (λ l. q.done ++ l) (sym (comps_old adj (length s) k r s b e)) ∙ a);
          many = q.many;
          few = omega (arith, q.few);
          nodes = q.nodes;
          cuts = q.cuts;
          at = q.at;
          room = q.room;
          room_c = q.room_c;
          room_w = q.room_w;
        }

-- a root that is not: its group follows
module _ (adj : ℕ → List ℕ) (s w d c : List ℕ) (m r : ℕ) (s' w' d' : List ℕ) (e : ℕ) (h : r < length s) (z : get_or s r 0 ≡ 0) (q : Rooted adj s w d c m r)
    (v : Walked (gather adj (length s) (start s r)) (get_or c m 0) s w d s' w' d' e) where
  p : ℕ
  p = get_or c m 0

  g : Got
  g = gather adj (length s) (start s r)

  c' : List ℕ
  c' = set c (m + 1) e

  z' : get_or s r 1 ≡ 0
  z' = get_d_any s r 1 0 h ∙ z

  long : length s' ≡ length s
  long = ap length v.seen ∙ root_size adj (length s) r s

  upto : e ≡ p + length g.group
  unfolding p g
  upto = v.upto

  gone : length g.group + sum open' s' ≡ sum open' s
  unfolding g
  gone = omega (arith, root_weight adj (length s) r s refl z' (λ _. 1), flagged_one s, flagged_one s', ap (flagged (λ _. 1)) v.seen, sum_one g.group, long)

  p_is : p ≡ length (joined q.done)
  unfolding p
  p_is = q.at

  head_is : take p d ≡ joined q.done
  head_is = ap (λ n. take n d) p_is ∙ q.nodes

  in_c : m + 1 < length c
  in_c = omega (arith, q.few, q.room_c)

  at_e : get_or c' (m + 1) 0 ≡ e
  unfolding c'
  at_e = get_or-set_same c (m + 1) e 0 in_c

  grown : e ≡ length (joined (q.done ++ (g.group ∷ [])))
  grown = upto ∙ omega (arith, p_is, ap length (joined_snoc q.done g.group), length-append (joined q.done) g.group)

  nodes' : take (length (joined (q.done ++ (g.group ∷ [])))) d' ≡ joined (q.done ++ (g.group ∷ []))
  unfolding p g
  nodes' = ap (λ n. take n d') (sym grown) ∙ v.nodes ∙ ap (λ l. l ++ g.group) head_is ∙ sym (joined_snoc q.done g.group)

  cuts' : take (m + 1 + 1) c' ≡ bounds 0 (q.done ++ (g.group ∷ []))
  unfolding c'
  cuts' =
      let y : e ≡ 0 + length (joined q.done) + length g.group = omega (arith, upto, p_is) in
      ap (λ n. take n c') (add-one (m + 1)) ∙ take-suc-set c (m + 1) e in_c ∙ ap₂ (λ l x. l ++ (x ∷ [])) q.cuts y ∙ sym (bounds_snoc 0 q.done g.group)

  room_p : p + sum open' s ≤ length d
  unfolding p
  room_p = q.room

  long_c : length c' ≡ length c
  unfolding c'
  long_c = length-set c (m + 1) e

  rooted_new : Rooted adj s' w' d' c' (m + 1) (r + 1)
  rooted_new = go q.k q.left q.all
    where
      go : (k : ℕ) → r + k ≡ length s → q.done ++ comps adj (length s) k r s ≡ components (length s) adj → Rooted adj s' w' d' c' (m + 1) (r + 1)
      go zero l a = absurd (omega arith)
      go (suc k) l a = record {
        done = q.done ++ (g.group ∷ []);
        k = k;
        left = omega (arith, long);
        all = unfold g in rw (long, add-one r, append_assoc) (ap (λ s₁. q.done ++ (g.group ∷ comps adj (length s) k (suc r) s₁)) v.seen ∙ ap (λ l. q.done ++ l) (sym (comps_new adj (length s) k r s z')) ∙ a);
        many = omega (arith, q.many, length-append q.done (g.group ∷ []));
        few = omega (arith, q.few);
        nodes = nodes';
        cuts = cuts';
        at = at_e ∙ grown;
        room = omega (arith, at_e, gone, upto, room_p, v.size_d);
        room_c = omega (arith, long, q.room_c, long_c);
        room_w = omega (arith, long, q.room_w, v.size_w);
      }

  pub root_new : Roots adj m s w d c s' w' d' (set c (m + 1) e) (m + 1) (r + 1)
  unfolding p c'
  root_new = record {
    rooted = rooted_new;
    up_d = omega (arith, at_e, upto);
    up_c = omega arith;
    rest_d = ap (λ n. drop n d') at_e ∙ v.rest ∙ ap (λ n. drop n d) (sym at_e);
    rest_c = drop-set-lt (m + 1 + 1) c (m + 1) e (omega arith);
    size = long;
    size_w = v.size_w;
    size_d = v.size_d;
    size_c = length-set c (m + 1) e;
  }

-- ---- the loop over the roots

pub roots_start : (adj : ℕ → List ℕ) (s w d c : List ℕ) → s ≡ zeros (length s) → length s < length c → get_or c 0 0 ≡ 0 → length s ≤ length w → length s ≤ length d → Roots adj 0 s w d c s w d c 0 0
roots_start adj s w d c e hc z hw hd = record { rooted = subst (λ s. Rooted adj s w d c 0 0) (sym e) (rooted_start adj (length s) w d c hc z hw hd); up_d = omega arith; up_c = omega arith; rest_d = refl; rest_c = refl; size = refl; size_w = refl; size_d = refl; size_c = refl }

pub roots_step : (adj : ℕ → List ℕ) (m₀ : ℕ) (s₀ w₀ d₀ c₀ s w d c s' w' d' c' : List ℕ) (m r m' : ℕ) → Roots adj m₀ s₀ w₀ d₀ c₀ s w d c m r → Roots adj m s w d c s' w' d' c' m' (r + 1) → Roots adj m₀ s₀ w₀ d₀ c₀ s' w' d' c' m' (r + 1)
roots_step adj m₀ s₀ w₀ d₀ c₀ s w d c s' w' d' c' m r m' q v = record {
  rooted = v.rooted;
  up_d = omega (arith, q.up_d, v.up_d);
  up_c = omega (arith, q.up_c, v.up_c);
  rest_d = v.rest_d ∙ drop_up (get_or c m 0) (get_or c' m' 0) d d₀ v.up_d q.rest_d;
  rest_c = v.rest_c ∙ drop_up (m + 1) (m' + 1) c c₀ (omega (arith, v.up_c)) q.rest_c;
  size = v.size ∙ q.size;
  size_w = v.size_w ∙ q.size_w;
  size_d = v.size_d ∙ q.size_d;
  size_c = v.size_c ∙ q.size_c;
}

pub roots_end : (adj : ℕ → List ℕ) (s₀ w₀ d₀ c₀ s w d c : List ℕ) (m r : ℕ) → length s ≤ r → Roots adj 0 s₀ w₀ d₀ c₀ s w d c m r → Grouped (components (length s₀) adj) d₀ c₀ d c m
unfolding comps
roots_end adj s₀ w₀ d₀ c₀ s w d c m r h v = go q.k q.left q.all
  where
    q : Rooted adj s w d c m r
    q = v.rooted

    go : (k : ℕ) → r + k ≡ length s → q.done ++ comps adj (length s) k r s ≡ components (length s) adj → Grouped (components (length s₀) adj) d₀ c₀ d c m
    go (suc k) l a = absurd (omega arith)
    go zero l a = subst (λ gs. Grouped gs d₀ c₀ d c m) (sym (append-nil q.done) ∙ a ∙ ap (λ n. components n adj) v.size)
        (record {
          many = q.many;
          nodes = sym (take-append-drop (length (joined q.done)) d) ∙ ap₂ (λ x y. x ++ y) q.nodes (ap (λ n. drop n d) (sym q.at) ∙ v.rest_d ∙ ap (λ n. drop n d₀) q.at);
          cuts = sym (take-append-drop (m + 1) c) ∙ ap₂ (λ x y. x ++ y) q.cuts v.rest_c;
        })

-- ---- the whole

-- Every end is a node below n.
abbrev pub Within : List ℕ → ℕ → Type 0
Within ends n = (k : ℕ) → k < length ends → get_or ends k 0 < n

pub within_inside : (ends : List ℕ) (n : ℕ) → Within ends n → Inside ends (length ends / 2 * 2) n
within_inside ends n w = record { pairs = length ends / 2; even = omega arith; upto = omega arith; below = λ k h. w k (omega arith) }

-- the neighbours of a node, by the pairs of ends
unfoldable pub joins_of : List ℕ → ℕ → List ℕ
joins_of ends i = nbrs (pairs_of (length ends / 2) ends) i

-- four slices all zero
pub record Cleared (a b c d a' b' c' d' : List ℕ) : Type 0 where
  pub first : a' ≡ zeros (length a)
  pub second : b' ≡ zeros (length b)
  pub third : c' ≡ zeros (length c)
  pub fourth : d' ≡ zeros (length d)

pub cleared_first : (m : ℕ) (c₀ : List ℕ) (gs : List (List ℕ)) (d₀ d c : List ℕ) → Grouped gs d₀ (set c₀ 0 0) d c m → Grouped gs d₀ c₀ d c m
cleared_first m c₀ gs d₀ d c q = record { many = q.many; nodes = q.nodes; cuts = q.cuts ∙ ap (λ l. bounds 0 gs ++ l) (drop-set-lt (m + 1) c₀ 0 0 (omega arith)) }

-- the neighbours in the words of the code
pub around_joins : (ends : List ℕ) → around ends (length ends / 2 * 2) ≡ joins_of ends
unfolding joins_of
around_joins ends = let z : length ends / 2 * 2 / 2 ≡ length ends / 2 = omega arith in ap (λ p i. nbrs (pairs_of p ends) i) z

-- ---- the steps of `components`, one after another

module _ (ends seen seen' : List ℕ) (filled : seen' ≡ zeros (length seen)) where
  pub as_many : length seen' ≡ length seen
  as_many = ap length filled ∙ size_zeros (length seen)

  pub ready_net : (head₀ next₀ head next : List ℕ) → Within ends (length seen) → length head₀ ≡ length seen → length ends ≤ length next₀ → Linked ends (length ends / 2 * 2) head₀ next₀ head next →
      Net ends (length ends / 2 * 2) head next (length seen')
  ready_net head₀ next₀ head next w e r l = linked_net ends (length ends / 2 * 2) head₀ next₀ head next (length seen') (subst (Inside ends (length ends / 2 * 2)) (sym e) (within_inside ends (length seen) w)) (omega arith) (e ∙ sym as_many) l

  pub ready_seen : seen' ≡ zeros (length seen')
  ready_seen = filled ∙ ap zeros (sym as_many)

  pub finish : (d₀ c₀ d c : List ℕ) (m : ℕ) → Grouped (components (length seen') (around ends (length ends / 2 * 2))) d₀ (set c₀ 0 0) d c m → Grouped (components (length seen) (joins_of ends)) d₀ c₀ d c m
  finish d₀ c₀ d c m q = cleared_first m c₀ (components (length seen) (joins_of ends)) d₀ d c
      (subst (λ gs. Grouped gs d₀ (set c₀ 0 0) d c m) (ap₂ components as_many (around_joins ends)) q)

pub finish_cleared : (a₀ b₀ c₀ d₀ a b c d a' b' c' d' : List ℕ) → length a ≡ length a₀ → length b ≡ length b₀ → length c ≡ length c₀ → length d ≡ length d₀ → Cleared a b c d a' b' c' d' → Cleared a₀ b₀ c₀ d₀ a' b' c' d'
finish_cleared a₀ b₀ c₀ d₀ a b c d a' b' c' d' p q r s k = record { first = k.first ∙ ap zeros p; second = k.second ∙ ap zeros q; third = k.third ∙ ap zeros r; fourth = k.fourth ∙ ap zeros s }
