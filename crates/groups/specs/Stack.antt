-- A stack in a slice, its last entry first, and a visit of a node.
use Rattle.std.specs.Prelude.{◌≡◌, refl, ◌≢◌, List, [], ◌∷◌, map, ℕ, zero, suc, ◌+◌, ◌-◌, ◌≤◌, ◌<◌, length, get_or, set}
use Rattle.std.proofs.Common.{sym, ap, ◌∙◌, subst, arith, add-one, length-set, get_or-set_same, get_or-set_other}
use Rattle.std.proofs.Math.Decide.{dec_lt}
use Rattle.sums.specs.Sum.{sum, open', closed_set}
use Rattle.sums.specs.Components.{St, visit, visit', visits}
use Rattle.groups.specs.Chain.{Inside, Chain, Linked, places_of, opposite, around, around_is}

unfoldable pub stack : List ℕ → ℕ → List ℕ
stack w zero = []
stack w (suc t) = get_or w t 0 ∷ stack w t

abbrev pub state : List ℕ → List ℕ → ℕ → St
state s w t = record { seen = s; work = stack w t }

-- There is room on the stack for all that is not seen yet, and it holds nodes.
pub record Room (s w : List ℕ) (t : ℕ) : Type 0 where
  pub fits : sum open' s + t ≤ length w
  pub tops : (k : ℕ) → k < t → get_or w k 0 < length s

-- What the flags and the stack are after a step.
pub record After (st : St) (s w s' w' : List ℕ) (t' : ℕ) : Type 0 where
  pub same : state s' w' t' ≡ st
  pub flags : length s' ≡ length s
  pub size : length w' ≡ length w
  pub room : Room s' w' t'

-- below the length the default does not matter
pub get_d_any : (l : List ℕ) (i d e : ℕ) → i < length l → get_or l i d ≡ get_or l i e
get_d_any [] i d e h = absurd (omega arith)
get_d_any (x ∷ l) zero d e h = refl
get_d_any (x ∷ l) (suc i) d e h = get_d_any l i d e (omega arith)

pub stack_set : (w : List ℕ) (t k j : ℕ) → k ≤ t → stack (set w t j) k ≡ stack w k
unfolding stack
stack_set w t zero j h = refl
stack_set w t (suc k) j h = rw (get_or-set_other w t k j 0 (omega arith), stack_set w t k j (omega arith))

-- where a node is not seen yet there is room for it
pub room_lt : (s w : List ℕ) (t j : ℕ) → j < length s → get_or s j 0 ≡ 0 → Room s w t → t < length w
room_lt s w t j h e r = omega (arith, closed_set s j (get_d_any s j 1 0 h ∙ e), r.fits)

visit_new : (s w : List ℕ) (t j : ℕ) → get_or s j 1 ≡ 0 → visit j (state s w t) ≡ record { seen = set s j 1; work = j ∷ stack w t }
unfolding visit visit'
visit_new s w t j e = rw (e, visit')

visit_old : (s w : List ℕ) (t j k : ℕ) → get_or s j 1 ≡ suc k → visit j (state s w t) ≡ state s w t
unfolding visit visit'
visit_old s w t j k e = rw (e, visit')

-- a node more on the stack
pushed : (s w : List ℕ) (t j : ℕ) → j < length s → t < length w → ((k : ℕ) → k < t → get_or w k 0 < length s) → (k : ℕ) → k < t + 1 → get_or (set w t j) k 0 < length (set s j 1)
pushed s w t j h l b k i = go (dec_lt k t)
  where
    go : Dec (k < t) → get_or (set w t j) k 0 < length (set s j 1)
    go (yes u) = omega (arith, get_or-set_other w t k j 0 (λ q. omega arith), b k u, length-set s j 1)
    go (no u) = let z : k ≡ t = omega arith in rw z (omega (arith, get_or-set_same w t j 0 l, length-set s j 1))

pub visits_new : (s w : List ℕ) (t j : ℕ) → j < length s → get_or s j 0 ≡ 0 → Room s w t → After (visit j (state s w t)) s w (set s j 1) (set w t j) (t + 1)
unfolding stack
visits_new s w t j h e r =
    let e' : get_or s j 1 ≡ 0 = get_d_any s j 1 0 h ∙ e in
    let l = room_lt s w t j h e r in
    record {
      same = rw (add-one, visit_new s w t j e', get_or-set_same w t j 0 l, stack_set w t t j (omega arith));
      flags = length-set s j 1;
      size = length-set w t j;
      room = record { fits = omega (arith, closed_set s j e', length-set w t j, r.fits); tops = pushed s w t j h l r.tops };
    }

pub visits_old : (s w : List ℕ) (t j : ℕ) → j < length s → get_or s j 0 ≢ 0 → Room s w t → After (visit j (state s w t)) s w s w t
visits_old s w t j h n r = record { same = go (get_or s j 1) refl; flags = refl; size = refl; room = r }
  where
    go : (k : ℕ) → get_or s j 1 ≡ k → state s w t ≡ visit j (state s w t)
    go zero e = absurd (n (get_d_any s j 0 1 h ∙ e))
    go (suc k) e = sym (visit_old s w t j k e)

-- ---- the neighbours of a node, one after another

-- The chains of n nodes.
pub record Net (ends : List ℕ) (all : ℕ) (head next : List ℕ) (n : ℕ) : Type 0 where
  pub inside : Inside ends all n
  pub chains : (i : ℕ) → i < n → Chain next all (get_or head i 0) (places_of ends i 0 all)
  pub heads : n ≤ length head
  pub nexts : all ≤ length next

-- What is left to visit from place e on.
pub record Mid (ends : List ℕ) (all : ℕ) (next : List ℕ) (i : ℕ) (s₀ w₀ : List ℕ) (t₀ : ℕ) (s w : List ℕ) (t e : ℕ) : Type 0 where
  pub rest : List ℕ
  pub chain : Chain next all e rest
  pub same : visits (map (λ x. get_or ends (opposite x) 0) rest) (state s w t) ≡ visits (around ends all i) (state s₀ w₀ t₀)
  pub flags : length s ≡ length s₀
  pub size : length w ≡ length w₀
  pub room : Room s w t

pub mid_start : (ends : List ℕ) (all : ℕ) (head next : List ℕ) (i : ℕ) (s w : List ℕ) (t : ℕ) → Net ends all head next (length s) → i < length s → Room s w t → Mid ends all next i s w t s w t (get_or head i 0)
mid_start ends all head next i s w t q h r = record { rest = places_of ends i 0 all; chain = q.chains i h; same = ap (λ l. visits l (state s w t)) (around_is ends all (length s) i q.inside); flags = refl; size = refl; room = r }

pub mid_step : (ends : List ℕ) (all : ℕ) (next : List ℕ) (i : ℕ) (s₀ w₀ : List ℕ) (t₀ : ℕ) (s w : List ℕ) (t e : ℕ) (s₁ w₁ : List ℕ) (t₁ : ℕ) → e < all → Mid ends all next i s₀ w₀ t₀ s w t e →
    After (visit (get_or ends (opposite e) 0) (state s w t)) s w s₁ w₁ t₁ → Mid ends all next i s₀ w₀ t₀ s₁ w₁ t₁ (get_or next e 0)
unfolding visits
mid_step ends all next i s₀ w₀ t₀ s w t e s₁ w₁ t₁ h m a = go m.rest m.chain m.same
  where
    go : (l : List ℕ) → Chain next all e l → visits (map (λ x. get_or ends (opposite x) 0) l) (state s w t) ≡ visits (around ends all i) (state s₀ w₀ t₀) → Mid ends all next i s₀ w₀ t₀ s₁ w₁ t₁ (get_or next e 0)
    go [] c v = absurd (omega (arith, c))
    go (x ∷ l) c v = record {
      rest = l;
      chain = subst (λ y. Chain next all (get_or next y 0) l) (sym c.0) c.3;
      same = ap (visits (map (λ x. get_or ends (opposite x) 0) l)) a.same ∙ ap (λ y. visits (map (λ x. get_or ends (opposite x) 0) l) (visit (get_or ends (opposite y) 0) (state s w t))) c.0 ∙ v;
      flags = a.flags ∙ m.flags;
      size = a.size ∙ m.size;
      room = a.room;
    }

pub mid_less : (ends : List ℕ) (all : ℕ) (next : List ℕ) (i : ℕ) (s₀ w₀ : List ℕ) (t₀ : ℕ) (s w : List ℕ) (t e : ℕ) → e < all → Mid ends all next i s₀ w₀ t₀ s w t e → all - get_or next e 0 < all - e
mid_less ends all next i s₀ w₀ t₀ s w t e h m = go m.rest m.chain
  where
    go : (l : List ℕ) → Chain next all e l → all - get_or next e 0 < all - e
    go [] c = absurd (omega (arith, c))
    go (x ∷ l) c = omega (arith, c.0, c.2, ap (λ y. get_or next y 0) c.0)

pub mid_end : (ends : List ℕ) (all : ℕ) (next : List ℕ) (i : ℕ) (s₀ w₀ : List ℕ) (t₀ : ℕ) (s w : List ℕ) (t e : ℕ) → all ≤ e → Mid ends all next i s₀ w₀ t₀ s w t e → After (visits (around ends all i) (state s₀ w₀ t₀)) s₀ w₀ s w t
unfolding visits
mid_end ends all next i s₀ w₀ t₀ s w t e h m = go m.rest m.chain m.same
  where
    go : (l : List ℕ) → Chain next all e l → visits (map (λ x. get_or ends (opposite x) 0) l) (state s w t) ≡ visits (around ends all i) (state s₀ w₀ t₀) → After (visits (around ends all i) (state s₀ w₀ t₀)) s₀ w₀ s w t
    go [] c v = record { same = v; flags = m.flags; size = m.size; room = m.room }
    go (x ∷ l) c v = absurd (omega (arith, c.0, c.1))

-- what a turn asks
pub mid_across : (ends : List ℕ) (all : ℕ) (head next : List ℕ) (n e : ℕ) → Net ends all head next n → e < all → opposite e < length ends
mid_across ends all head next n e q h = omega (arith, q.inside.even, q.inside.upto)

pub mid_node : (ends : List ℕ) (all : ℕ) (head next : List ℕ) (i : ℕ) (s₀ w₀ : List ℕ) (t₀ : ℕ) (s w : List ℕ) (t e : ℕ) → Net ends all head next (length s₀) → e < all → Mid ends all next i s₀ w₀ t₀ s w t e → get_or ends (opposite e) 0 < length s
mid_node ends all head next i s₀ w₀ t₀ s w t e q h m = omega (arith, q.inside.below (opposite e) (omega (arith, q.inside.even)), m.flags)

pub linked_net : (ends : List ℕ) (all : ℕ) (head₀ next₀ head next : List ℕ) (n : ℕ) → Inside ends all (length head₀) → all ≤ length next₀ → length head₀ ≡ n → Linked ends all head₀ next₀ head next → Net ends all head next n
linked_net ends all head₀ next₀ head next n s r e q = record { inside = subst (Inside ends all) e s; chains = λ i h. q.chains i (omega (arith, q.size_h, e)); heads = omega (arith, q.size_h, e); nexts = omega (arith, q.size_n) }
