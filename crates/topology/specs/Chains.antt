-- What `connected` says: any two faces are the ends of a chain of faces in which each shares an edge with the next.
use Rattle.std.specs.Prelude.{◌≡◌, Bool, ◌&&◌, cond, ◌⊎◌, ◌↔◌, ℕ, suc, ◌+◌, ◌/◌, ◌≤◌, ◌<◌, length, T, eqb, ltb}
use Rattle.std.proofs.Math.Path.{refl, ap, ap₂, subst}
use Rattle.std.proofs.Common.{sym, ◌∙◌, ⊎_elim}
use Rattle.std.proofs.Math.Bool.{true, false}
use Rattle.std.proofs.Math.Logic.{inl, inr}
use mathlib.Core.List.{List, [], ◌∷◌, map}
use mathlib.Mathlib.Logic.Relation.{ReflTransGenᴰ}
use native.Mathlib.Omega.{arith}
use borrow.Author.Tests.{eqb-true, eq-eqb}
use Rattle.refusal.specs.Tests.{and_true}
use Rattle.lists.specs.Walks.{all}
use Rattle.room.specs.Rooms.{In}
use Rattle.sums.specs.Sum.{sum, hit, hit_cases, hit_same, occ, pick, ◌∈◌, Each, here, some_of}
use Rattle.sums.specs.Keys.{nbr, nbrs}
use Rattle.sums.proofs.KeyLaws.{occ_nbr, pick_both, full_hit, full_find, graph_of}
use Rattle.sums.specs.Components.{components}
use Rattle.sums.specs.ComponentLaws.{Reach, Graph, Components}
use Rattle.sums.proofs.ComponentLaws.{components_found}
use Rattle.groups.specs.Chain.{pairs_of}
use Rattle.groups.specs.Groups.{joins_of}
use Rattle.topology.specs.Topology.{Corner, corners_of, count, is_point, is_edge, once, fits, face_with, across, joins, connected}
use Rattle.topology.specs.Sound.{Below, corners_below, face_below}

-- face i has the directed edge from a to b
abbrev pub Has : List Corner → ℕ → ℕ → ℕ → Type 0
Has cs i a b = In (record { face = i; point = a; next = b }) cs

-- faces i and j share an edge: what the one has from a to b, the other has from b to a
abbrev pub Shares : List Corner → ℕ → ℕ → Type 0
Shares cs i j = (a : ℕ) × (b : ℕ) × Has cs i a b × Has cs j b a

-- a chain of faces from i to j, each sharing an edge with the next
abbrev pub Chained : List Corner → ℕ → ℕ → Type 0
Chained cs = ReflTransGenᴰ (Shares cs)

-- ---- tests

not_both : {A : Type 0} {b : Bool} → b ≡ false → b ≡ true → A
not_both e g = absurd (subst T (sym g ∙ e) tt)

pub all_in : {A : Type 0} (g : A → Bool) (l : List A) (b : Bool) → all g b l ≡ true → (b ≡ true) × ((x : A) → In x l → g x ≡ true)
unfolding all In
all_in g [] b e = (e, λ x i. absurd i)
all_in g (y ∷ l) b e =
    let r = all_in g l (b && g y) e in
    let p = and_true b (g y) r.0 in
    (p.0, λ x i. ⊎_elim (λ q. ap g q ∙ p.1) (λ j. r.1 x j) i)

-- ---- counting

module _ {A : Type 0} (t : A → Bool) where
  up : (b : Bool) (k : ℕ) → cond b (k + 1) k ≡ k + cond b 1 0
  up true k = refl
  up false k = omega arith

  count_from : (k : ℕ) (l : List A) → count t k l ≡ k + count t 0 l
  unfolding count
  count_from k [] = omega arith
  count_from k (x ∷ l) = omega (arith, count_from (cond (t x) (k + 1) k) l, count_from (cond (t x) (0 + 1) 0) l, up (t x) k, up (t x) 0)

  count_head : (x : A) (l : List A) → count t 0 (x ∷ l) ≡ cond (t x) 1 0 + count t 0 l
  unfolding count
  count_head x l = omega (arith, count_from (cond (t x) (0 + 1) 0) l, up (t x) 0)

  count_yes : (x : A) (l : List A) → t x ≡ true → count t 0 (x ∷ l) ≡ 1 + count t 0 l
  count_yes x l e = count_head x l ∙ ap (λ b. cond b 1 0 + count t 0 l) e

  count_no : (x : A) (l : List A) → t x ≡ false → count t 0 (x ∷ l) ≡ count t 0 l
  count_no x l e = count_head x l ∙ ap (λ b. cond b 1 0 + count t 0 l) e ∙ omega arith

  count_in : (x : A) (l : List A) → In x l → t x ≡ true → 1 ≤ count t 0 l
  unfolding In
  count_in x [] i e = absurd i
  count_in x (y ∷ l) (inl p) e = omega (arith, count_yes y l (ap t (sym p) ∙ e))
  count_in x (y ∷ l) (inr i) e = omega (arith, count_in x l i e, count_head y l)

  pub count_find : (l : List A) → 1 ≤ count t 0 l → (x : A) × In x l × (t x ≡ true)
  unfolding count In
  count_find [] h = absurd (omega arith)
  count_find (y ∷ l) h = by (λ k. count_find l k) (t y) refl
    where
      by : (1 ≤ count t 0 l → (x : A) × In x l × (t x ≡ true)) → (b : Bool) → t y ≡ b → (x : A) × In x (y ∷ l) × (t x ≡ true)
      by more true e = (y, inl refl, e)
      by more false e = let r = more (omega (arith, count_no y l e)) in (r.0, inr r.1, r.2)

-- ---- the face across

is_edge_lem : (i a b : ℕ) → is_edge a b (record { face = i; point = a; next = b }) ≡ true
is_edge_lem i a b = ap₂ ◌&&◌ (eq-eqb a a refl) (eq-eqb b b refl)

none_across : (a b f : ℕ) (l : List Corner) → count (is_edge a b) 0 l ≡ 0 → face_with a b f l ≡ f
unfolding face_with
none_across a b f [] h = refl
none_across a b f (c ∷ l) h = by (λ k. none_across a b f l k) (is_edge a b c) refl
  where
    by : (count (is_edge a b) 0 l ≡ 0 → face_with a b f l ≡ f) → (z : Bool) → is_edge a b c ≡ z → face_with a b f (c ∷ l) ≡ f
    by more true e = absurd (omega (arith, count_yes (is_edge a b) c l e))
    by more false e = ap (λ z. face_with a b (cond z c.face f) l) e ∙ more (omega (arith, count_no (is_edge a b) c l e))

-- an edge that stands once is that of the face that has it
one_across : (a b f j : ℕ) (l : List Corner) → count (is_edge a b) 0 l ≡ 1 → Has l j a b → face_with a b f l ≡ j
unfolding face_with In
one_across a b f j [] h i = absurd i
one_across a b f j (c ∷ l) h i = by (λ e k. one_across a b f j l e k) (is_edge a b c) refl i
  where
    by : (count (is_edge a b) 0 l ≡ 1 → Has l j a b → face_with a b f l ≡ j) → (z : Bool) → is_edge a b c ≡ z → Has (c ∷ l) j a b → face_with a b f (c ∷ l) ≡ j
    by more true e (inl p) = ap (λ z. face_with a b (cond z c.face f) l) e ∙ none_across a b c.face l (omega (arith, count_yes (is_edge a b) c l e)) ∙ ap (λ d. d.face) (sym p)
    by more true e (inr k) = absurd (omega (arith, count_yes (is_edge a b) c l e, count_in (is_edge a b) _ l k (is_edge_lem j a b)))
    by more false e (inl p) = not_both e (ap (is_edge a b) (sym p) ∙ is_edge_lem j a b)
    by more false e (inr k) = ap (λ z. face_with a b (cond z c.face f) l) e ∙ more (omega (arith, count_no (is_edge a b) c l e)) k

-- ---- the pairs of joined faces

pair_of : List Corner → Corner → ℕ × ℕ
pair_of cs c = (c.face, across cs c)

joins_pairs : (cs l : List Corner) → pairs_of (length (joins cs l) / 2) (joins cs l) ≡ map (pair_of cs) l
unfolding joins pairs_of pair_of
joins_pairs cs [] = refl
joins_pairs cs (c ∷ l) =
    let z : suc (suc (length (joins cs l))) / 2 ≡ suc (length (joins cs l) / 2) = omega arith in
    ap (λ k. pairs_of k (c.face ∷ across cs c ∷ joins cs l)) z ∙ ap (λ ps. (c.face, across cs c) ∷ ps) (joins_pairs cs l)

hit_of : (x y : ℕ) → 1 ≤ hit x y → x ≡ y
hit_of x y h = ⊎_elim (λ c. c.0) (λ c. absurd (omega (arith, c.1))) (hit_cases x y)

occ_pair : (a b x y : ℕ) (ps : List (ℕ × ℕ)) → occ y (nbrs ((a, b) ∷ ps) x) ≡ pick (hit a x) (hit y b) + (pick (hit b x) (hit y a) + occ y (nbrs ps x))
unfolding nbrs
occ_pair a b x y ps = omega (arith, occ_nbr y a b (hit a x) (nbr b a (hit b x) (nbrs ps x)), occ_nbr y b a (hit b x) (nbrs ps x))

nbrs_find : (ps : List (ℕ × ℕ)) (x y : ℕ) → y ∈ nbrs ps x → (In (x, y) ps) ⊎ (In (y, x) ps)
unfolding nbrs sum In
nbrs_find [] x y h = absurd (omega arith)
nbrs_find ((a, b) ∷ ps) x y h = ⊎_elim
    (λ u. let e = pick_both (hit a x) (hit y b) u in inl (inl (ap₂ (λ p q. (p, q)) (sym (hit_of a x e.0)) (hit_of y b e.1))))
    (λ v. ⊎_elim
    (λ u. let e = pick_both (hit b x) (hit y a) u in inr (inl (ap₂ (λ p q. (p, q)) (hit_of y a e.1) (sym (hit_of b x e.0)))))
    (λ w. ⊎_elim (λ i. inl (inr i)) (λ i. inr (inr i)) (nbrs_find ps x y w))
    (some_of (pick (hit b x) (hit y a)) (occ y (nbrs ps x)) v))
    (some_of (pick (hit a x) (hit y b)) (pick (hit b x) (hit y a) + occ y (nbrs ps x)) (omega (arith, occ_pair a b x y ps)))

nbrs_has : (ps : List (ℕ × ℕ)) (x y : ℕ) → In (x, y) ps → y ∈ nbrs ps x
unfolding In
nbrs_has [] x y i = absurd i
nbrs_has ((a, b) ∷ ps) x y (inl e) =
    let one : pick (hit a x) (hit y b) ≡ 1 = unfold pick in (ap₂ (λ u v. pick (hit u x) (hit y v)) (sym (ap (λ p. p.0) e)) (sym (ap (λ p. p.1) e)) ∙ ap₂ pick (hit_same x) (hit_same y)) in
    omega (arith, occ_pair a b x y ps, one)
nbrs_has ((a, b) ∷ ps) x y (inr i) = omega (arith, occ_pair a b x y ps, nbrs_has ps x y i)

in_map : {A B : Type 0} (g : A → B) (l : List A) (z : B) → In z (map g l) → (x : A) × In x l × (z ≡ g x)
unfolding In
in_map g [] z i = absurd i
in_map g (x ∷ l) z (inl e) = (x, inl refl, e)
in_map g (x ∷ l) z (inr i) = let r = in_map g l z i in (r.0, inr r.1, r.2)

map_in : {A B : Type 0} (g : A → B) (l : List A) (x : A) → In x l → In (g x) (map g l)
unfolding In
map_in g [] x i = absurd i
map_in g (y ∷ l) x (inl e) = inl (ap g e)
map_in g (y ∷ l) x (inr i) = inr (map_in g l x i)

-- ---- one class

module _ (n : ℕ) (adj : ℕ → List ℕ) where
  Joined : Type 0
  Joined = (1 ≤ n) × ((i j : ℕ) → i < n → j < n → Reach adj i j)

  one_joined : (gs : List (List ℕ)) → Components n adj gs → length gs ≡ 1 → Joined
  unfolding Joined sum
  one_joined [] C e = absurd (omega (arith, e))
  one_joined (g ∷ h ∷ gs) C e = absurd (omega (arith, e))
  one_joined (g ∷ []) C e =
      let a = C.ascend in
      let r = a.0 in
      let m : 1 ≤ occ a.0 g = subst (λ l. 1 ≤ occ a.0 l) (sym a.2) (here a.0 a.1) in
      let f = full_find (hit a.0) n (omega (arith, C.once (hit a.0), m)) in
      (omega (arith, f.1), λ i j h k. (C.classes.0 i j (omega (arith, C.once (hit i), full_hit i n h))).0 (omega (arith, C.once (hit j), full_hit j n k)))

  inside : (gs : List (List ℕ)) → Components n adj gs → (x : ℕ) → 1 ≤ sum (occ x) gs → x < n
  inside gs C x h =
      let f = full_find (hit x) n (omega (arith, C.once (hit x), h)) in
      subst (λ y. y < n) (sym (hit_of x f.0 f.2)) f.1

  joined_one : (gs : List (List ℕ)) → Components n adj gs → Joined → length gs ≡ 1
  unfolding Joined sum
  joined_one [] C J = absurd (omega (arith, C.once (hit 0), full_hit 0 n J.0))
  joined_one (g ∷ []) C J = refl
  joined_one (g ∷ h ∷ gs) C J =
      let a = C.ascend in
      let b = a.5 in
      let m : 1 ≤ occ a.0 g = subst (λ l. 1 ≤ occ a.0 l) (sym a.2) (here a.0 a.1) in
      let k : 1 ≤ occ b.0 h = subst (λ l. 1 ≤ occ b.0 l) (sym b.2) (here b.0 b.1) in
      let x = inside (g ∷ h ∷ gs) C a.0 (omega (arith, m)) in
      let y = inside (g ∷ h ∷ gs) C b.0 (omega (arith, k)) in
      let z = (C.classes.0 a.0 b.0 m).1 (J.1 a.0 b.0 x y) in
      absurd (omega (arith, k, z, C.once (hit b.0), full_hit b.0 n y))

-- ---- n faces whose corners fit

module _ (m n : ℕ) (cs : List Corner) (low : Each (Below n) cs) (fit : all (fits m cs) true cs ≡ true) where
  -- the reverse of each edge stands once
  reverse_once : (c : Corner) → In c cs → count (is_edge c.next c.point) 0 cs ≡ 1
  unfolding fits
  reverse_once c i = eqb-true (count (is_edge c.next c.point) 0 cs) 1 (and_true ((ltb c.point m && once (is_point c.face c.point) cs) && once (is_edge c.point c.next) cs) (once (is_edge c.next c.point) cs) ((all_in (fits m cs) cs true fit).1 c i)).1

  as_pairs : joins_of (joins cs cs) ≡ nbrs (map (pair_of cs) cs)
  unfolding joins_of
  as_pairs = ap nbrs (joins_pairs cs cs)

  -- a corner's face and the one across share its edge
  corner_shares : (c : Corner) → In c cs → Shares cs c.face (across cs c)
  corner_shares c i =
      let d = count_find (is_edge c.next c.point) cs (omega (arith, reverse_once c i)) in
      let e = and_true (eqb d.0.point c.next) (eqb d.0.next c.point) d.2 in
      let p = eqb-true d.0.point c.next e.0 in
      let q = eqb-true d.0.next c.point e.1 in
      let h : Has cs d.0.face c.next c.point = subst (λ z. In z cs) (λ k. record { face = d.0.face; point = p k; next = q k }) d.1 in
      let g = one_across c.next c.point c.face d.0.face cs (reverse_once c i) h in
      (c.point, c.next, i, subst (λ j. Has cs j c.next c.point) (sym g) h)

  turned : (i j : ℕ) → Shares cs i j → Shares cs j i
  turned i j s = (s.1, s.0, s.3, s.2)

  pair_shares : (x y : ℕ) → In (x, y) (map (pair_of cs) cs) → Shares cs x y
  unfolding pair_of
  pair_shares x y i =
      let r = in_map (pair_of cs) cs (x, y) i in
      subst (λ j. Shares cs j y) (sym (ap (λ p. p.0) r.2)) (subst (λ j. Shares cs r.0.face j) (sym (ap (λ p. p.1) r.2)) (corner_shares r.0 r.1))

  near_shares : (x y : ℕ) → y ∈ joins_of (joins cs cs) x → Shares cs x y
  near_shares x y h = ⊎_elim (λ i. pair_shares x y i) (λ i. turned y x (pair_shares y x i)) (nbrs_find (map (pair_of cs) cs) x y (subst (λ f. y ∈ f x) as_pairs h))

  shares_near : (x y : ℕ) → Shares cs x y → y ∈ joins_of (joins cs cs) x
  unfolding pair_of
  shares_near x y s =
      let c : Corner = record { face = x; point = s.0; next = s.1 } in
      let g : across cs c ≡ y = one_across s.1 s.0 x y cs (reverse_once c s.2) s.3 in
      let i : In (x, y) (map (pair_of cs) cs) = subst (λ z. In (x, z) (map (pair_of cs) cs)) g (map_in (pair_of cs) cs c s.2) in
      subst (λ f. y ∈ f x) (sym as_pairs) (nbrs_has (map (pair_of cs) cs) x y i)

  reach_chain : (i j : ℕ) → Reach (joins_of (joins cs cs)) i j → Chained cs i j
  reach_chain i j ReflTransGenᴰ.refl = ReflTransGenᴰ.refl
  reach_chain i j (ReflTransGenᴰ.tail {b = z} p a) = ReflTransGenᴰ.tail (reach_chain i z p) (near_shares z j a)

  chain_reach : (i j : ℕ) → Chained cs i j → Reach (joins_of (joins cs cs)) i j
  chain_reach i j ReflTransGenᴰ.refl = ReflTransGenᴰ.refl
  chain_reach i j (ReflTransGenᴰ.tail {b = z} p a) = ReflTransGenᴰ.tail (chain_reach i z p) (shares_near z j a)

  inside_pairs : (l : List Corner) → Each (Below n) l → Each (λ p. (p.0 < n) × (p.1 < n)) (map (pair_of cs) l)
  unfolding pair_of
  inside_pairs [] e = tt
  inside_pairs (c ∷ l) e = ((e.0, face_below n c.next c.point c.face cs e.0 low), inside_pairs l e.1)

  found : Components n (joins_of (joins cs cs)) (components n (joins_of (joins cs cs)))
  found = components_found n (joins_of (joins cs cs)) (subst (Graph n) (sym as_pairs) (graph_of n (map (pair_of cs) cs) (inside_pairs cs low)))

  chained : (connected n cs ≡ true) ↔ ((1 ≤ n) × ((i j : ℕ) → i < n → j < n → Chained cs i j))
  unfolding connected Joined
  chained = (
    λ e. let J = one_joined n (joins_of (joins cs cs)) (components n (joins_of (joins cs cs))) found (eqb-true (length (components n (joins_of (joins cs cs)))) 1 e) in
        (J.0, λ i j h k. reach_chain i j (J.1 i j h k)),
    λ c. eq-eqb (length (components n (joins_of (joins cs cs)))) 1
        (joined_one n (joins_of (joins cs cs)) (components n (joins_of (joins cs cs))) found (c.0, λ i j h k. chain_reach i j (c.1 i j h k))),
  )

-- 01: "all faces connected through edges", where the corners of the faces fit
pub connected_chains : (m : ℕ) (fs : List (List ℕ)) → all (fits m (corners_of 0 fs)) true (corners_of 0 fs) ≡ true →
    (connected (length fs) (corners_of 0 fs) ≡ true) ↔ ((1 ≤ length fs) × ((i j : ℕ) → i < length fs → j < length fs → Chained (corners_of 0 fs) i j))
connected_chains m fs fit = chained m (length fs) (corners_of 0 fs) (corners_below (length fs) 0 fs (omega arith)) fit
