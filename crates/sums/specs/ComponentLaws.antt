-- `components` finds the connected classes: each node in one group, once.
use Rattle.std.specs.Prelude.{◌≡◌, ◌↔◌, length}
use mathlib.Core.List.{List, [], ◌∷◌}
use Prim.Native.Nat.{ℕ, suc, ◌+◌, ◌≤◌, ◌<◌}
use Rattle.sums.specs.Sum.{sum, flagged, open', ◌∈◌, All, Each, full}
use mathlib.Mathlib.Logic.Relation.ReflTransGenᴰ
use mathlib.Mathlib.Logic.Relation.{ReflTransGenᴰ}
use Rattle.sums.specs.Components.{St}

-- What a visit keeps: the weight of what is to be taken against that of what is seen, and the turns that are left.
pub record Kept (f : ℕ → ℕ) (a b : St) : Type 0 where
  pub weight : sum f b.work + flagged f a.seen ≡ sum f a.work + flagged f b.seen
  pub turns : sum open' b.seen + length b.work ≡ sum open' a.seen + length a.work
  pub size : length b.seen ≡ length a.seen

-- Two nodes are connected.
abbrev pub Near : (ℕ → List ℕ) → ℕ → ℕ → Type 0
Near adj x y = y ∈ adj x

abbrev pub Reach : (ℕ → List ℕ) → ℕ → ℕ → Type 0
Reach adj = ReflTransGenᴰ (Near adj)

-- A group is one class: with x in it, it has exactly what x reaches.
abbrev pub Class : (ℕ → List ℕ) → List ℕ → Type 0
Class adj g = (x y : ℕ) → x ∈ g → (y ∈ g ↔ Reach adj x y)

-- Each group begins with its lowest node, and these ascend, from b on.
abbrev pub Ascend : ℕ → List (List ℕ) → Type 0
Ascend b [] = Unit {0}
Ascend b (g ∷ gs) = (r : ℕ) × (rest : List ℕ) × (g ≡ r ∷ rest) × (b ≤ r) × All (λ x. r ≤ x) g × Ascend (suc r) gs

-- The adjacency lists of n nodes, each edge in the list of both of its ends.
pub record Graph (n : ℕ) (adj : ℕ → List ℕ) : Type 0 where
  pub inside : (x y : ℕ) → y ∈ adj x → y < n
  pub both : (x y : ℕ) → y ∈ adj x → x ∈ adj y

-- The theorem.
pub record Components (n : ℕ) (adj : ℕ → List ℕ) (gs : List (List ℕ)) : Type 0 where
  -- any weight of all groups is that of the nodes below n: with `hit x`, each node stands in the groups exactly once
  pub once : (f : ℕ → ℕ) → sum (sum f) gs ≡ full f n
  -- a group has with a node exactly what that node reaches
  pub classes : Each (Class adj) gs
  -- each group begins with its lowest node, and these ascend
  pub ascend : Ascend 0 gs
