-- What holds of every point of a list holds of every corner of its hull, and a hull has at least three.
use Rattle.std.specs.Prelude.{◌≡◌, refl, Bool, true, false, ◌⊎◌, ◌≤◌, ltb, length, Ok}
use Rattle.std.proofs.Common.{sym, ◌∙◌, inl, inr, ltb-false}
use Rattle.std.proofs.Math.Path.{subst}
use mathlib.Core.List.{List, [], ◌∷◌, ◌++◌, reverse, reverse_aux, map}
use Rattle.std.proofs.Math.Logic.{⊎_elim}
use Rattle.refusal.specs.Outcome.{walk}
use Rattle.refusal.specs.Laws.{same_ok, never_ok, then_ok, unless_ok}
use Rattle.exact.specs.declared.Turn.{Turn}
use Rattle.exact.specs.declared.Turn.TheVariants.{Positive, Negative, Zero, None}
use Rattle.space.specs.declared.Point3.{Point3}
use Rattle.space.specs.declared.Precision.{Precision}
use Rattle.space.specs.declared.Plane.{Plane}
use Rattle.polygon.specs.Unique.{unique}
use Rattle.polygon.specs.Members.{All, all_append, unique_all}
use Rattle.hull.specs.Hull.{Flat, flat_on, before_flat, insert_flat, sort_flat, turn, chain_one, chain, half, ringed, chains, hull_on, hull, cap_of}
use Rattle.hull.proofs.Laws.{insert_on, insert_here, chain_left, chain_right, chain_straight, chain_none, cap_hull}

either : (b : Bool) → (b ≡ true) ⊎ (b ≡ false)
either true = inl refl
either false = inr refl

turns : (u : Turn) → (u ≡ Positive) ⊎ ((u ≡ Negative) ⊎ ((u ≡ Zero) ⊎ (u ≡ None)))
turns Positive = inl refl
turns Negative = inr (inl refl)
turns Zero = inr (inr (inl refl))
turns None = inr (inr (inr refl))

-- a hull is the ring of two chains
module _ (p : Plane) (l k : List Point3) (e : hull_on p l ≡ Ok k) where
  abbrev sorted : List Flat
  sorted = sort_flat [] (map (flat_on p) l)

  ring_of : (lower : List Flat) × (chain (reverse sorted) ≡ Ok lower) × (upper : List Flat) × (chain sorted ≡ Ok upper) × (ringed (half lower ++ half upper) ≡ Ok k)
  unfolding hull_on chains
  ring_of =
      let c = (unless_ok (ltb (length l) 3) 10 (chains sorted) k e).1 in
      let a = then_ok (chain (reverse sorted)) _ k c in
      let b = then_ok (chain sorted) _ k a.2 in
      (a.0, a.1, b.0, b.1, b.2)

module _ (P : Point3 → Type 0) where
  abbrev At : Flat → Type 0
  At f = P f.at

  all_flat : (p : Plane) (l : List Point3) → All P l → All At (map (flat_on p) l)
  unfolding All flat_on
  all_flat p [] a = tt
  all_flat p (q ∷ l) a = (a.0, all_flat p l a.1)

  all_insert : (x : Flat) (l : List Flat) → At x → All At l → All At (insert_flat x l)
  unfolding All insert_flat
  all_insert x [] h a = (h, tt)
  all_insert x (y ∷ l) h a =
      ⊎_elim
      (λ e. subst (All At) (sym (insert_on x y l e)) (a.0, all_insert x l h a.1))
      (λ e. subst (All At) (sym (insert_here x y l e)) (h, a))
      (either (before_flat x.u x.v y.u y.v))

  all_sort : (acc l : List Flat) → All At acc → All At l → All At (sort_flat acc l)
  unfolding All sort_flat
  all_sort acc [] a b = a
  all_sort acc (x ∷ l) a b = all_sort (insert_flat x acc) l (all_insert x acc b.0 a) b.1

  all_chain_one : (s : List Flat) (q : Flat) (k : List Flat) → All At s → At q → chain_one s q ≡ Ok k → All At k
  unfolding All chain_one
  all_chain_one [] q k a h e = subst (All At) (same_ok e) (h, tt)
  all_chain_one (b ∷ []) q k a h e = subst (All At) (same_ok e) (h, a)
  all_chain_one (b ∷ c ∷ r) q k a h e =
      ⊎_elim
      (λ w. subst (All At) (same_ok (sym (chain_left c b q r w) ∙ e)) (h, a))
      (⊎_elim
      (λ w. all_chain_one (c ∷ r) q k a.1 h (sym (chain_right c b q r w) ∙ e))
      (⊎_elim
      (λ w. all_chain_one (c ∷ r) q k a.1 h (sym (chain_straight c b q r w) ∙ e))
      (λ w. never_ok (sym (chain_none c b q r w) ∙ e))))
      (turns (turn c b q))

  all_walk : (s l k : List Flat) → All At s → All At l → walk chain_one s l ≡ Ok k → All At k
  unfolding All walk
  all_walk s [] k a b e = subst (All At) (same_ok e) a
  all_walk s (q ∷ l) k a b e =
      let w = then_ok (chain_one s q) (λ r. walk chain_one r l) k e in
      all_walk w.0 l k (all_chain_one s q w.0 a b.0 w.1) b.1 w.2

  all_reverse : (l r : List Flat) → All At l → All At r → All At (reverse_aux l r)
  unfolding All
  all_reverse [] r a b = b
  all_reverse (x ∷ l) r a b = all_reverse l (x ∷ r) a.1 (a.0, b)

  all_at : (l : List Flat) → All At l → All P (map (λ f. f.at) l)
  unfolding All
  all_at [] a = tt
  all_at (x ∷ l) a = (a.0, all_at l a.1)

  all_half : (c : List Flat) → All At c → All P (half c)
  unfolding All
  all_half [] a = tt
  all_half (x ∷ c) a = all_at (reverse c) (all_reverse c [] a.1 tt)

  hull_on_all : (p : Plane) (l k : List Point3) → All P l → hull_on p l ≡ Ok k → All P k
  unfolding All chain ringed
  hull_on_all p l k a e =
      let r = ring_of p l k e in
      let s = all_sort [] (map (flat_on p) l) tt (all_flat p l a) in
      let low = all_half r.0 (all_walk [] (reverse (sorted p l k e)) r.0 tt (all_reverse (sorted p l k e) [] s tt) r.1) in
      let up = all_half r.2 (all_walk [] (sorted p l k e) r.2 tt s r.3) in
      let ring = half r.0 ++ half r.2 in
      subst (All P) (same_ok (unless_ok (ltb (length ring) 3) 10 (Ok ring) k r.4).1) (all_append P (half r.0) (half r.2) low up)

  pub hull_all : (t : Precision) (p : Plane) (l k : List Point3) → All P l → hull t p l ≡ Ok k → All P k
  unfolding hull
  hull_all t p l k a e =
      let w = then_ok (unique t l) (hull_on p) k e in
      hull_on_all p w.0 k (unique_all P t l w.0 a w.1) w.2

  pub cap_all : (t : Precision) (p : Plane) (l k : List Point3) → All P l → cap_of t p l ≡ Ok k → All P k
  cap_all t p l k a e = hull_all t p l k a (cap_hull t p l k e)

-- a hull has at least three corners
pub hull_least : (t : Precision) (p : Plane) (l k : List Point3) → hull t p l ≡ Ok k → 3 ≤ length k
unfolding hull ringed
hull_least t p l k e =
    let w = then_ok (unique t l) (hull_on p) k e in
    let r = ring_of p w.0 k w.2 in
    let ring = half r.0 ++ half r.2 in
    let u = unless_ok (ltb (length ring) 3) 10 (Ok ring) k r.4 in
    subst (λ a. 3 ≤ length a) (same_ok u.1) (ltb-false (length ring) 3 u.0)
