-- The walk from a root, in slices.
use Rattle.std.specs.Prelude.{◌≡◌, refl, List, ◌++◌, ℕ, zero, suc, ◌+◌, ◌-◌, ◌≤◌, ◌<◌, length, get_or, set, take, drop}
use Rattle.std.proofs.Common.{sym, ap, ◌∙◌, append_assoc, append-nil, arith, add-one, length-set, take-suc-set, drop-set-lt, get_or-set_same, drop-drop}
use Rattle.sums.specs.Sum.{sum, open', closed_set, open_le}
use Rattle.sums.specs.Components.{Got, start, gather, visits}
use Rattle.sums.proofs.ComponentLaws.{visits_keep}
use Rattle.groups.specs.Stack.{stack, state, Room, After, get_d_any}

-- What the walk leaves in the slices: from at on the group, in its order; behind it nothing is touched.
pub record Walked (g : Got) (at : ℕ) (s w d s' w' d' : List ℕ) (p : ℕ) : Type 0 where
  pub seen : s' ≡ g.seen
  pub nodes : take p d' ≡ take at d ++ g.group
  pub rest : drop p d' ≡ drop p d
  pub upto : p ≡ at + length g.group
  pub size_w : length w' ≡ length w
  pub size_d : length d' ≡ length d

-- A turn of the walk: so many turns are left.
pub record Going (adj : ℕ → List ℕ) (n : ℕ) (g : Got) (at : ℕ) (w₀ d₀ s w d : List ℕ) (t p : ℕ) : Type 0 where
  pub fuel : ℕ
  pub seen : (gather adj fuel (state s w t)).seen ≡ g.seen
  pub nodes : take p d ++ (gather adj fuel (state s w t)).group ≡ take at d₀ ++ g.group
  pub rest : drop p d ≡ drop p d₀
  pub upto : p + length (gather adj fuel (state s w t)).group ≡ at + length g.group
  pub turns : sum open' s + t ≤ fuel
  pub flags : length s ≡ n
  pub room : Room s w t
  pub room_d : p + (sum open' s + t) ≤ length d
  pub size_w : length w ≡ length w₀
  pub size_d : length d ≡ length d₀

pub length_stack : (w : List ℕ) (t : ℕ) → length (stack w t) ≡ t
unfolding stack
length_stack w zero = refl
length_stack w (suc t) = ap suc (length_stack w t)

-- the first turn
pub going_start : (adj : ℕ → List ℕ) (s w d : List ℕ) (t p : ℕ) → sum open' s + t ≤ length s → Room s w t → p + (sum open' s + t) ≤ length d →
    Going adj (length s) (gather adj (length s) (state s w t)) p w d s w d t p
going_start adj s w d t p turns room room_d =
    record { fuel = length s; seen = refl; nodes = refl; rest = refl; upto = refl; turns = turns; flags = refl; room = room; room_d = room_d; size_w = refl; size_d = refl }

-- what the first two stores leave
pub opened : (s : List ℕ) (root : ℕ) → root < length s → get_or s root 0 ≡ 0 → suc (sum open' (set s root 1)) ≡ sum open' s
opened s root h e = closed_set s root (get_d_any s root 1 0 h ∙ e)

pub rooted : (s w : List ℕ) (root : ℕ) → 0 < length w → state (set s root 1) (set w 0 root) 1 ≡ start s root
unfolding stack
rooted s w root h = rw (get_or-set_same w 0 root 0 h)

pub walked_root : (adj : ℕ → List ℕ) (root at : ℕ) (s w d s' w' d' : List ℕ) (p : ℕ) → 0 < length w →
    Walked (gather adj (length (set s root 1)) (state (set s root 1) (set w 0 root) 1)) at (set s root 1) (set w 0 root) d s' w' d' p →
    Walked (gather adj (length s) (start s root)) at s w d s' w' d' p
walked_root adj root at s w d s' w' d' p h q =
    let r : Walked (gather adj (length s) (start s root)) at (set s root 1) (set w 0 root) d s' w' d' p = rw (length-set s root 1, rooted s w root h) at q in
    record { seen = r.seen; nodes = r.nodes; rest = r.rest; upto = r.upto; size_w = r.size_w ∙ length-set w 0 root; size_d = r.size_d }

-- a turn: the node on top goes to the group, and its neighbours onto the stack
turned : (adj : ℕ → List ℕ) (n : ℕ) (g : Got) (at : ℕ) (w₀ d₀ s w d : List ℕ) (u p : ℕ) (s₁ w₁ : List ℕ) (t₁ : ℕ) (f : ℕ) →
    After (visits (adj (get_or w u 0)) (state s w u)) s w s₁ w₁ t₁ →
    (gather adj f (state s w (suc u))).seen ≡ g.seen →
    take p d ++ (gather adj f (state s w (suc u))).group ≡ take at d₀ ++ g.group →
    drop p d ≡ drop p d₀ →
    p + length (gather adj f (state s w (suc u))).group ≡ at + length g.group →
    sum open' s + suc u ≤ f → length s ≡ n → p + (sum open' s + suc u) ≤ length d → length w ≡ length w₀ → length d ≡ length d₀ →
    Going adj n g at w₀ d₀ s₁ w₁ (set d p (get_or w u 0)) t₁ (p + 1)
unfolding gather stack
turned adj n g at w₀ d₀ s w d u p s₁ w₁ t₁ zero a seen nodes rest upto turns flags room_d size_w size_d = absurd (omega arith)
turned adj n g at w₀ d₀ s w d u p s₁ w₁ t₁ (suc f) a seen nodes rest upto turns flags room_d size_w size_d =
    let k = visits_keep (λ _. 0) (adj (get_or w u 0)) (state s w u) in
    let x : sum open' s₁ + length (stack w₁ t₁) ≡ sum open' s + length (stack w u) = ap (λ st. sum open' st.seen + length st.work) a.same ∙ k.turns in
    let y : sum open' s₁ + t₁ ≡ sum open' s + u = omega (arith, x, length_stack w₁ t₁, length_stack w u) in
    record {
      fuel = f;
      seen = rw a.same seen;
      nodes = rw (a.same, add-one, take-suc-set d p (get_or w u 0) (omega arith), append_assoc) nodes;
      rest = drop-set-lt (p + 1) d p (get_or w u 0) (omega arith) ∙ sym (drop-drop 1 p d) ∙ ap (drop 1) rest ∙ drop-drop 1 p d₀;
      upto = rw a.same (omega arith);
      turns = omega arith;
      flags = a.flags ∙ flags;
      room = a.room;
      room_d = omega (arith, length-set d p (get_or w u 0));
      size_w = a.size ∙ size_w;
      size_d = length-set d p (get_or w u 0) ∙ size_d;
    }

pub going_step : (adj : ℕ → List ℕ) (n : ℕ) (g : Got) (at : ℕ) (w₀ d₀ s w d : List ℕ) (t u p : ℕ) (s₁ w₁ : List ℕ) (t₁ : ℕ) → t ≡ suc u →
    Going adj n g at w₀ d₀ s w d t p → After (visits (adj (get_or w u 0)) (state s w u)) s w s₁ w₁ t₁ →
    Going adj n g at w₀ d₀ s₁ w₁ (set d p (get_or w u 0)) t₁ (p + 1)
going_step adj n g at w₀ d₀ s w d t u p s₁ w₁ t₁ e q a =
    let r : Going adj n g at w₀ d₀ s w d (suc u) p = rw e at q in
    turned adj n g at w₀ d₀ s w d u p s₁ w₁ t₁ r.fuel a r.seen r.nodes r.rest r.upto r.turns r.flags r.room_d r.size_w r.size_d

pub going_end : (adj : ℕ → List ℕ) (n : ℕ) (g : Got) (at : ℕ) (s₀ w₀ d₀ s w d : List ℕ) (t p : ℕ) → t ≡ 0 → Going adj n g at w₀ d₀ s w d t p → Walked g at s₀ w₀ d₀ s w d p
unfolding gather stack
going_end adj n g at s₀ w₀ d₀ s w d t p e q = go q.fuel (rw e at q.seen) (rw e at q.nodes) (rw e at q.upto)
  where
    go : (f : ℕ) → (gather adj f (state s w 0)).seen ≡ g.seen → take p d ++ (gather adj f (state s w 0)).group ≡ take at d₀ ++ g.group →
        p + length (gather adj f (state s w 0)).group ≡ at + length g.group → Walked g at s₀ w₀ d₀ s w d p
    go zero a b c = record { seen = a; nodes = sym (append-nil (take p d)) ∙ b; rest = q.rest; upto = omega arith; size_w = q.size_w; size_d = q.size_d }
    go (suc f) a b c = record { seen = a; nodes = sym (append-nil (take p d)) ∙ b; rest = q.rest; upto = omega arith; size_w = q.size_w; size_d = q.size_d }

-- the same in the code's own words
pub going_turn : (adj : ℕ → List ℕ) (n : ℕ) (g : Got) (at : ℕ) (w₀ d₀ s w d : List ℕ) (t p : ℕ) (s₁ w₁ : List ℕ) (t₁ : ℕ) → 0 < t →
    Going adj n g at w₀ d₀ s w d t p → After (visits (adj (get_or w (t - 1) 0)) (state s w (t - 1))) s w s₁ w₁ t₁ →
    Going adj n g at w₀ d₀ s₁ w₁ (set d p (get_or w (t - 1) 0)) t₁ (p + 1)
going_turn adj n g at w₀ d₀ s w d t p s₁ w₁ t₁ h q a = going_step adj n g at w₀ d₀ s w d t (t - 1) p s₁ w₁ t₁ (omega arith) q a

pub going_stop : (adj : ℕ → List ℕ) (root at : ℕ) (s w d s' w' d' : List ℕ) (t p : ℕ) → root < length s → length s ≤ length w → t ≤ 0 →
    Going adj (length (set s root 1)) (gather adj (length (set s root 1)) (state (set s root 1) (set w 0 root) 1)) at (set w 0 root) d s' w' d' t p →
    Walked (gather adj (length s) (start s root)) at s w d s' w' d' p
going_stop adj root at s w d s' w' d' t p h l z q = walked_root adj root at s w d s' w' d' p (omega arith)
    (going_end adj (length (set s root 1)) (gather adj (length (set s root 1)) (state (set s root 1) (set w 0 root) 1)) at (set s root 1) (set w 0 root) d s' w' d' t p (omega arith) q)

-- what the first two stores leave on the stack
pub root_room : (s w : List ℕ) (root : ℕ) → root < length s → get_or s root 0 ≡ 0 → length s ≤ length w → Room (set s root 1) (set w 0 root) 1
root_room s w root h e l = record {
  fits = omega (arith, opened s root h e, open_le s, length-set w 0 root);
  tops = λ k i. (let z : k ≡ 0 = omega arith in rw z (omega (arith, get_or-set_same w 0 root 0 (omega arith), length-set s root 1)));
}

pub going_node : (adj : ℕ → List ℕ) (n : ℕ) (g : Got) (at : ℕ) (w₀ d₀ s w d : List ℕ) (t p : ℕ) → 0 < t → Going adj n g at w₀ d₀ s w d t p → get_or w (t - 1) 0 < length s
going_node adj n g at w₀ d₀ s w d t p h q = q.room.tops (t - 1) (omega arith)

-- one node less
pub popped : (s w : List ℕ) (t : ℕ) → 0 < t → Room s w t → Room s w (t - 1)
popped s w t h r = record { fits = omega (arith, r.fits); tops = λ k i. r.tops k (omega arith) }
