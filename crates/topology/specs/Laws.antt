-- Laws of the corners in slices, in the words of the code.
use Rattle.std.specs.Prelude.{◌≡◌, Bool, true, false, ◌&&◌, cond, drop, set, ltb}
use Rattle.std.proofs.Math.Path.{refl, sym, ap, ap₂}
use Rattle.std.proofs.Common.{◌∙◌, subst, not-suc-le-zero, le_of_suc-le-suc, add-one, length-drop, drop_of_length-le, get_or-set_same, get_or-set_other, get_or-drop, drop-cons, take-suc-set, eqb-true, eq-eqb, ne_eqb}
use mathlib.Core.List.{List, [], ◌∷◌, ◌++◌, append_assoc, append-nil, map}
use Prim.Native.Nat.{ℕ, zero, suc, ◌+◌, ◌-◌, ◌*◌, ◌/◌, ◌%◌, ◌≤◌, ◌<◌}
use native.Mathlib.Omega.{arith}
use Rattle.std.proofs.Math.ListN.{length, take, get_or, length-set}
use Rattle.std.proofs.Math.Dec.{eqb}
use Rattle.std.proofs.lemmas.Bool.{eqb-false}
use Rattle.lists.specs.Walks.{cyclic, all}
use Rattle.lists.specs.Laws.{next_edge, edges_done}
use Rattle.sums.specs.Components.{components}
use Rattle.groups.specs.Chain.{up_from}
use Rattle.room.specs.Rooms.{counts_at}
use Rattle.solids.specs.Frames.{faces_at, Placing}
use Rattle.solids.specs.Faces.{placing_le, Along, along_start, along_next, along_room, along_face, along_end}
use Rattle.topology.specs.Topology.{Corner, corner_of, corners_of, count, once, is_point, is_edge, face_with, across, joins, rounded}
use Rattle.topology.specs.Corners.{corner_at, corners_at, pairs_at, is_pair, paired, Tallied}

-- ---- pairs of two slices

length_pairs_at : (xs ys : List ℕ) (i n : ℕ) → length (pairs_at xs ys i n) ≡ n
unfolding pairs_at
length_pairs_at xs ys i zero = refl
length_pairs_at xs ys i (suc n) = ap suc (length_pairs_at xs ys (i + 1) n)

next_pairs : (xs ys : List ℕ) (k n i : ℕ) → i < n → drop i (pairs_at xs ys k n) ≡ record { from = get_or xs (k + i) 0; to = get_or ys (k + i) 0 } ∷ drop (suc i) (pairs_at xs ys k n)
unfolding pairs_at
next_pairs xs ys k zero i h = absurd (not-suc-le-zero h)
next_pairs xs ys k (suc n) zero h = ap (λ j. record { from = get_or xs j 0; to = get_or ys j 0 } ∷ pairs_at xs ys (k + 1) n) (omega arith)
next_pairs xs ys k (suc n) (suc i) h = next_pairs xs ys (k + 1) n i (le_of_suc-le-suc h) ∙ ap (λ j. record { from = get_or xs j 0; to = get_or ys j 0 } ∷ drop (suc i) (pairs_at xs ys (k + 1) n)) (omega arith)

one_le : (b : Bool) (k : ℕ) → cond b (k + 1) k ≤ k + 1
one_le true k = omega arith
one_le false k = omega arith

-- of n pairs, i are counted
pub record Counting (xs ys : List ℕ) (n a b k i : ℕ) : Type 0 where
  pub upto : i ≤ n
  pub few : k ≤ i
  pub rest : count (is_pair a b) k (drop i (pairs_at xs ys 0 n)) ≡ count (is_pair a b) 0 (pairs_at xs ys 0 n)

pub counting_start : (xs ys : List ℕ) (n a b : ℕ) → Counting xs ys n a b 0 0
counting_start xs ys n a b = record { upto = omega arith; few = omega arith; rest = refl }

module _ {xs ys : List ℕ} {n a b k i : ℕ} (I : Counting xs ys n a b k i) where
  pub counting_next : (k' : ℕ) → i < n → k' ≡ cond (eqb (get_or xs i 0) a && eqb (get_or ys i 0) b) (k + 1) k → Counting xs ys n a b k' (i + 1)
  unfolding count
  counting_next k' h e = record {
    upto = omega arith;
    few = omega (arith, e, I.few, one_le (eqb (get_or xs i 0) a && eqb (get_or ys i 0) b) k);
    rest =
        ap₂ (λ c j. count (is_pair a b) c (drop j (pairs_at xs ys 0 n))) e (add-one i)
        ∙ ap (λ j. count (is_pair a b) (cond (eqb (get_or xs j 0) a && eqb (get_or ys j 0) b) (k + 1) k) (drop (suc i) (pairs_at xs ys 0 n))) {x = i} {y = 0 + i} (omega arith)
        ∙ ap (count (is_pair a b) k) (sym (next_pairs xs ys 0 n i h)) ∙ I.rest;
  }

  pub counting_end : n ≤ i → k ≡ count (is_pair a b) 0 (pairs_at xs ys 0 n)
  unfolding count
  counting_end h =
      let g : length (pairs_at xs ys 0 n) ≤ i = omega (arith, length_pairs_at xs ys 0 n) in
      sym (ap (count (is_pair a b) k) (drop_of_length-le (pairs_at xs ys 0 n) g)) ∙ I.rest

-- ---- what is counted of pairs is counted of corners

module _ (ps ns fs : List ℕ) where
  point_pairs : (f x k i n : ℕ) → count (is_pair f x) k (pairs_at fs ps i n) ≡ count (is_point f x) k (corners_at ps ns fs i n)
  unfolding count pairs_at corners_at
  point_pairs f x k i zero = refl
  point_pairs f x k i (suc n) = point_pairs f x (cond (eqb (get_or fs i 0) f && eqb (get_or ps i 0) x) (k + 1) k) (i + 1) n

  edge_pairs : (a b k i n : ℕ) → count (is_pair a b) k (pairs_at ps ns i n) ≡ count (is_edge a b) k (corners_at ps ns fs i n)
  unfolding count pairs_at corners_at
  edge_pairs a b k i zero = refl
  edge_pairs a b k i (suc n) = edge_pairs a b (cond (eqb (get_or ps i 0) a && eqb (get_or ns i 0) b) (k + 1) k) (i + 1) n

-- ---- corners in slices

pub length_corners_at : (ps ns fs : List ℕ) (i n : ℕ) → length (corners_at ps ns fs i n) ≡ n
unfolding corners_at
length_corners_at ps ns fs i zero = refl
length_corners_at ps ns fs i (suc n) = ap suc (length_corners_at ps ns fs (i + 1) n)

next_corner : (ps ns fs : List ℕ) (k n i : ℕ) → i < n → drop i (corners_at ps ns fs k n) ≡ corner_at ps ns fs (k + i) ∷ drop (suc i) (corners_at ps ns fs k n)
unfolding corners_at
next_corner ps ns fs k zero i h = absurd (not-suc-le-zero h)
next_corner ps ns fs k (suc n) zero h = ap (λ j. corner_at ps ns fs j ∷ corners_at ps ns fs (k + 1) n) (omega arith)
next_corner ps ns fs k (suc n) (suc i) h = next_corner ps ns fs (k + 1) n i (le_of_suc-le-suc h) ∙ ap (λ j. corner_at ps ns fs j ∷ drop (suc i) (corners_at ps ns fs (k + 1) n)) (omega arith)

pub corner_next : (ps ns fs : List ℕ) (n i : ℕ) → i < n → drop i (corners_at ps ns fs 0 n) ≡ corner_at ps ns fs i ∷ drop (i + 1) (corners_at ps ns fs 0 n)
corner_next ps ns fs n i h =
    next_corner ps ns fs 0 n i h ∙ ap (λ j. corner_at ps ns fs j ∷ drop (suc i) (corners_at ps ns fs 0 n)) (omega arith)
    ∙ ap (λ j. corner_at ps ns fs i ∷ drop j (corners_at ps ns fs 0 n)) (sym (add-one i))

pub corners_done : (ps ns fs : List ℕ) (n i : ℕ) → n ≤ i → drop i (corners_at ps ns fs 0 n) ≡ []
corners_done ps ns fs n i h =
    let g : length (corners_at ps ns fs 0 n) ≤ i = omega (arith, length_corners_at ps ns fs 0 n) in
    drop_of_length-le (corners_at ps ns fs 0 n) g

-- the two counts of one pass
pub record Tallying (ps ns fs : List ℕ) (n f x y alone reverse i : ℕ) : Type 0 where
  pub point : Counting fs ps n f x alone i
  pub back : Counting ps ns n y x reverse i

pub tallying_start : (ps ns fs : List ℕ) (n f x y : ℕ) → Tallying ps ns fs n f x y 0 0 0
tallying_start ps ns fs n f x y = record { point = counting_start fs ps n f x; back = counting_start ps ns n y x }

pub tallying_next : {ps ns fs : List ℕ} {n f x y alone reverse i : ℕ} (a c : ℕ) → Tallying ps ns fs n f x y alone reverse i → i < n →
    a ≡ cond (eqb (get_or fs i 0) f && eqb (get_or ps i 0) x) (alone + 1) alone →
    c ≡ cond (eqb (get_or ps i 0) y && eqb (get_or ns i 0) x) (reverse + 1) reverse → Tallying ps ns fs n f x y a c (i + 1)
tallying_next a c I h p r = record { point = counting_next I.point a h p; back = counting_next I.back c h r }

pub tallying_end : {ps ns fs : List ℕ} {n f x y alone reverse i : ℕ} → Tallying ps ns fs n f x y alone reverse i → n ≤ i → Tallied ps ns fs n f x y alone reverse
tallying_end I h = record { point = counting_end I.point h; back = counting_end I.back h }

-- a corner's test, from what was counted
pub paired_by : (ps ns fs : List ℕ) (m n i : ℕ) (a c : ℕ) → Tallied ps ns fs n (get_or fs i 0) (get_or ps i 0) (get_or ns i 0) a c →
    (ltb (get_or ps i 0) m && eqb a 1) && eqb c 1 ≡ paired m (corners_at ps ns fs 0 n) (corner_at ps ns fs i)
unfolding paired
paired_by ps ns fs m n i a c s =
    ap (λ k. (ltb (get_or ps i 0) m && eqb k 1) && eqb c 1) (s.point ∙ point_pairs ps ns fs (get_or fs i 0) (get_or ps i 0) 0 0 n)
    ∙ ap (λ k. (ltb (get_or ps i 0) m && once (is_point (get_or fs i 0) (get_or ps i 0)) (corners_at ps ns fs 0 n)) && eqb k 1)
    (s.back ∙ edge_pairs ps ns fs (get_or ns i 0) (get_or ps i 0) 0 0 n)

pub fit_next : (g : Corner → Bool) (b c : Bool) (ps ns fs : List ℕ) (n i : ℕ) → i < n → c ≡ g (corner_at ps ns fs i) →
    all g (b && c) (drop (i + 1) (corners_at ps ns fs 0 n)) ≡ all g b (drop i (corners_at ps ns fs 0 n))
unfolding all
fit_next g b c ps ns fs n i h e = ap (λ d. all g (b && d) (drop (i + 1) (corners_at ps ns fs 0 n))) e ∙ ap (all g b) (sym (corner_next ps ns fs n i h))

pub fit_end : (g : Corner → Bool) (b : Bool) (ps ns fs : List ℕ) (n i : ℕ) → n ≤ i → all g b (drop i (corners_at ps ns fs 0 n)) ≡ b
unfolding all
fit_end g b ps ns fs n i h = ap (all g b) (corners_done ps ns fs n i h)

-- ---- the numbers below m

up_from_next : (x m : ℕ) → x < m → up_from x (m - x) ≡ x ∷ up_from (x + 1) (m - (x + 1))
unfolding up_from
up_from_next x m h =
    let z : m - x ≡ suc (m - (x + 1)) = omega arith in
    ap (up_from x) z ∙ ap (λ j. x ∷ up_from j (m - (x + 1))) (sym (add-one x))

pub below_next : (g : ℕ → Bool) (b c : Bool) (x m : ℕ) → x < m → c ≡ g x → all g (b && c) (up_from (x + 1) (m - (x + 1))) ≡ all g b (up_from x (m - x))
unfolding all
below_next g b c x m h e = ap (λ d. all g (b && d) (up_from (x + 1) (m - (x + 1)))) e ∙ ap (all g b) (sym (up_from_next x m h))

pub below_end : (g : ℕ → Bool) (b : Bool) (x m : ℕ) → m ≤ x → all g b (up_from x (m - x)) ≡ b
unfolding all up_from
below_end g b x m h = let z : m - x ≡ 0 = omega arith in ap (λ k. all g b (up_from x k)) z

pub below_start : (g : ℕ → Bool) (m : ℕ) → all g true (up_from 0 (m - 0)) ≡ all g true (up_from 0 m)
below_start g m = ap (λ k. all g true (up_from 0 k)) (omega arith)

-- the corners' points are the places
points_from : (ps ns fs : List ℕ) (i n : ℕ) → i + n ≤ length ps → map (λ c. c.point) (corners_at ps ns fs i n) ≡ take n (drop i ps)
unfolding corners_at
points_from ps ns fs i zero h = refl
points_from ps ns fs i (suc n) h =
    ap (λ l. get_or ps i 0 ∷ l) (points_from ps ns fs (i + 1) n (omega arith))
    ∙ ap (λ j. get_or ps i 0 ∷ take n (drop j ps)) (add-one i)
    ∙ ap (take (suc n)) (sym (drop-cons ps i 0 (omega arith)))

pub points_are : (ps ns fs : List ℕ) (n : ℕ) → n ≤ length ps → map (λ c. c.point) (corners_at ps ns fs 0 n) ≡ counts_at ps 0 n
points_are ps ns fs n h = points_from ps ns fs 0 n (omega arith)

-- ---- the face across

corners_snoc : (ps ns fs : List ℕ) (i n : ℕ) → corners_at ps ns fs i (suc n) ≡ corners_at ps ns fs i n ++ (corner_at ps ns fs (i + n) ∷ [])
unfolding corners_at
corners_snoc ps ns fs i zero = ap (λ k. corner_at ps ns fs k ∷ []) (omega arith)
corners_snoc ps ns fs i (suc n) =
    ap (λ l. corner_at ps ns fs i ∷ l) (corners_snoc ps ns fs (i + 1) n) ∙ ap (λ k. corner_at ps ns fs i ∷ (corners_at ps ns fs (i + 1) n ++ (corner_at ps ns fs k ∷ []))) (omega arith)

face_append : (a b f : ℕ) (l m : List Corner) → face_with a b f (l ++ m) ≡ face_with a b (face_with a b f l) m
unfolding face_with
face_append a b f [] m = refl
face_append a b f (c ∷ l) m = face_append a b (cond (is_edge a b c) c.face f) l m

-- the corner q decides, or those before it
face_last : (ps ns fs : List ℕ) (a b f q : ℕ) →
    face_with a b f (corners_at ps ns fs 0 (suc q)) ≡ cond (eqb (get_or ps q 0) a && eqb (get_or ns q 0) b) (get_or fs q 0) (face_with a b f (corners_at ps ns fs 0 q))
unfolding face_with
face_last ps ns fs a b f q =
    ap (face_with a b f) (corners_snoc ps ns fs 0 q) ∙ face_append a b f (corners_at ps ns fs 0 q) (corner_at ps ns fs (0 + q) ∷ [])
    ∙ ap (λ j. cond (eqb (get_or ps j 0) a && eqb (get_or ns j 0) b) (get_or fs j 0) (face_with a b f (corners_at ps ns fs 0 q))) {x = 0 + q} {y = q} (omega arith)

-- of n corners, none from q on has the edge from a to b
pub record Finding (ps ns fs : List ℕ) (n a b f q : ℕ) : Type 0 where
  pub upto : q ≤ n
  pub rest : face_with a b f (corners_at ps ns fs 0 q) ≡ face_with a b f (corners_at ps ns fs 0 n)

pub finding_start : (ps ns fs : List ℕ) (n a b f : ℕ) → Finding ps ns fs n a b f n
finding_start ps ns fs n a b f = record { upto = omega arith; rest = refl }

module _ {ps ns fs : List ℕ} {n a b f q : ℕ} (I : Finding ps ns fs n a b f q) where
  one_before : 0 < q → cond (eqb (get_or ps (q - 1) 0) a && eqb (get_or ns (q - 1) 0) b) (get_or fs (q - 1) 0) (face_with a b f (corners_at ps ns fs 0 (q - 1))) ≡ face_with a b f (corners_at ps ns fs 0 n)
  one_before h =
      let z : suc (q - 1) ≡ q = omega arith in
      sym (face_last ps ns fs a b f (q - 1)) ∙ ap (λ k. face_with a b f (corners_at ps ns fs 0 k)) z ∙ I.rest

  pub finding_next : 0 < q → eqb (get_or ps (q - 1) 0) a && eqb (get_or ns (q - 1) 0) b ≡ false → Finding ps ns fs n a b f (q - 1)
  finding_next h e = record {
    upto = omega (arith, I.upto);
    rest = sym (ap (λ z. cond z (get_or fs (q - 1) 0) (face_with a b f (corners_at ps ns fs 0 (q - 1)))) e) ∙ one_before h;
  }

  pub finding_hit : 0 < q → eqb (get_or ps (q - 1) 0) a && eqb (get_or ns (q - 1) 0) b ≡ true → get_or fs (q - 1) 0 ≡ face_with a b f (corners_at ps ns fs 0 n)
  finding_hit h e = sym (ap (λ z. cond z (get_or fs (q - 1) 0) (face_with a b f (corners_at ps ns fs 0 (q - 1)))) e) ∙ one_before h

  pub finding_end : q ≤ 0 → f ≡ face_with a b f (corners_at ps ns fs 0 n)
  unfolding face_with corners_at
  finding_end h =
      let z : q ≡ 0 = omega arith in
      sym (ap (λ k. face_with a b f (corners_at ps ns fs 0 k)) z) ∙ I.rest

-- ---- the joins

pub record Joining (ps ns fs : List ℕ) (n : ℕ) (e₀ e : List ℕ) (i : ℕ) : Type 0 where
  pub upto : i ≤ n
  pub size : length e ≡ length e₀
  pub rest : take (2 * i) e ++ joins (corners_at ps ns fs 0 n) (drop i (corners_at ps ns fs 0 n)) ≡ joins (corners_at ps ns fs 0 n) (corners_at ps ns fs 0 n)

pub joining_start : (ps ns fs : List ℕ) (n : ℕ) (e : List ℕ) → Joining ps ns fs n e e 0
joining_start ps ns fs n e = record { upto = omega arith; size = refl; rest = refl }

two_more : (e : List ℕ) (i x y : ℕ) → 2 * i + 2 ≤ length e → take (2 * (i + 1)) (set (set e (2 * i) x) (2 * i + 1) y) ≡ take (2 * i) e ++ (x ∷ y ∷ [])
two_more e i x y h =
    let a : 2 * (i + 1) ≡ suc (2 * i + 1) = omega arith in
    let k : 2 * i + 1 < length (set e (2 * i) x) = omega (arith, length-set e (2 * i) x) in
    ap (λ j. take j (set (set e (2 * i) x) (2 * i + 1) y)) a
    ∙ take-suc-set (set e (2 * i) x) (2 * i + 1) y k
    ∙ ap (λ j. take j (set e (2 * i) x) ++ (y ∷ [])) (add-one (2 * i))
    ∙ ap (λ l. l ++ (y ∷ [])) (take-suc-set e (2 * i) x (omega arith))
    ∙ append_assoc (take (2 * i) e) (x ∷ []) (y ∷ [])

module _ {ps ns fs : List ℕ} {n : ℕ} {e₀ e : List ℕ} {i : ℕ} (I : Joining ps ns fs n e₀ e i) where
  pub joining_next : (y : ℕ) → i < n → 2 * n ≤ length e₀ → y ≡ across (corners_at ps ns fs 0 n) (corner_at ps ns fs i) →
      Joining ps ns fs n e₀ (set (set e (2 * i) (get_or fs i 0)) (2 * i + 1) y) (i + 1)
  unfolding joins
  joining_next y h k g = record {
    upto = omega arith;
    size = length-set (set e (2 * i) (get_or fs i 0)) (2 * i + 1) y ∙ length-set e (2 * i) (get_or fs i 0) ∙ I.size;
    rest =
        let cs = corners_at ps ns fs 0 n in
        ap (λ l. l ++ joins (corners_at ps ns fs 0 n) (drop (i + 1) (corners_at ps ns fs 0 n))) (two_more e i (get_or fs i 0) y (omega (arith, I.size)))
        ∙ append_assoc (take (2 * i) e) (get_or fs i 0 ∷ y ∷ []) (joins (corners_at ps ns fs 0 n) (drop (i + 1) (corners_at ps ns fs 0 n)))
        ∙ ap (λ z. take (2 * i) e ++ (get_or fs i 0 ∷ z ∷ joins (corners_at ps ns fs 0 n) (drop (i + 1) (corners_at ps ns fs 0 n)))) g
        ∙ ap (λ l. take (2 * i) e ++ joins (corners_at ps ns fs 0 n) l) (sym (corner_next ps ns fs n i h))
        ∙ I.rest;
  }

  pub joining_room : (x : ℕ) → i < n → 2 * n ≤ length e₀ → 2 * i + 1 < length (set e (2 * i) x)
  joining_room x h k = omega (arith, length-set e (2 * i) x, I.size)

  pub joining_end : n ≤ i → take (2 * n) e ≡ joins (corners_at ps ns fs 0 n) (corners_at ps ns fs 0 n)
  unfolding joins
  joining_end h =
      let z : i ≡ n = omega (arith, I.upto) in
      ap (λ k. take (2 * k) e) (sym z) ∙ sym (append-nil (take (2 * i) e))
      ∙ ap (λ l. take (2 * i) e ++ joins (corners_at ps ns fs 0 n) l) (sym (corners_done ps ns fs n i h)) ∙ I.rest

-- ---- corners that are laid

corners_before : (ps ns fs : List ℕ) (i n j x y : ℕ) → i + n ≤ j → corners_at ps (set ns j x) (set fs j y) i n ≡ corners_at ps ns fs i n
unfolding corners_at
corners_before ps ns fs i zero j x y h = refl
corners_before ps ns fs i (suc n) j x y h =
    let a : get_or (set ns j x) i 0 ≡ get_or ns i 0 = get_or-set_other ns j i x 0 (λ e. omega (arith, e)) in
    let b : get_or (set fs j y) i 0 ≡ get_or fs i 0 = get_or-set_other fs j i y 0 (λ e. omega (arith, e)) in
    let c : corner_at ps (set ns j x) (set fs j y) i ≡ corner_at ps ns fs i = λ k. record { face = b k; point = get_or ps i 0; next = a k } in
    ap₂ (λ u v. u ∷ v) c (corners_before ps ns fs (i + 1) n j x y (omega arith))

corners_put : (ps ns fs : List ℕ) (j x y : ℕ) → j < length ns → j < length fs →
    corners_at ps (set ns j x) (set fs j y) 0 (j + 1) ≡ corners_at ps ns fs 0 j ++ (record { face = y; point = get_or ps j 0; next = x } ∷ [])
corners_put ps ns fs j x y h g =
    let a : get_or (set ns j x) j 0 ≡ x = get_or-set_same ns j x 0 h in
    let b : get_or (set fs j y) j 0 ≡ y = get_or-set_same fs j y 0 g in
    let c : ◌≡◌ {A = Corner} (corner_at ps (set ns j x) (set fs j y) j) (record { face = y; point = get_or ps j 0; next = x }) = λ k. record { face = b k; point = get_or ps j 0; next = a k } in
    ap (corners_at ps (set ns j x) (set fs j y) 0) (add-one j)
    ∙ corners_snoc ps (set ns j x) (set fs j y) 0 j
    ∙ ap (λ k. corners_at ps (set ns j x) (set fs j y) 0 j ++ (corner_at ps (set ns j x) (set fs j y) k ∷ [])) (omega arith)
    ∙ ap₂ (λ l d. l ++ (d ∷ [])) (corners_before ps ns fs 0 j j x y (omega arith)) c

-- of the n corners of face f from a place on, i are laid
pub record Laying (ps : List ℕ) (at n f : ℕ) (ns₀ fs₀ ns fs : List ℕ) (i : ℕ) : Type 0 where
  pub upto : i ≤ n
  pub size_n : length ns ≡ length ns₀
  pub size_f : length fs ≡ length fs₀
  pub rest : corners_at ps ns fs 0 (at + i) ++ map (corner_of f) (drop i (cyclic (counts_at ps at n))) ≡ corners_at ps ns₀ fs₀ 0 at ++ map (corner_of f) (cyclic (counts_at ps at n))

pub laying_start : (ps : List ℕ) (at n f : ℕ) (ns fs : List ℕ) → Laying ps at n f ns fs ns fs 0
laying_start ps at n f ns fs = record {
  upto = omega arith;
  size_n = refl;
  size_f = refl;
  rest = ap (λ k. corners_at ps ns fs 0 k ++ map (corner_of f) (cyclic (counts_at ps at n))) (omega arith);
}

module _ {ps : List ℕ} {at n f : ℕ} {ns₀ fs₀ ns fs : List ℕ} {i : ℕ} (I : Laying ps at n f ns₀ fs₀ ns fs i) where
  edge : i < n → at + n ≤ length ps → drop i (cyclic (counts_at ps at n)) ≡ record { from = get_or ps (at + i) 0; to = get_or ps (at + (i + 1) % n) 0 } ∷ drop (i + 1) (cyclic (counts_at ps at n))
  edge h r =
      let k : n ≤ length (drop at ps) = omega (arith, length-drop at ps) in
      next_edge (drop at ps) n i 0 h k
      ∙ ap₂ (λ a b. record { from = a; to = b } ∷ drop (i + 1) (cyclic (counts_at ps at n))) (get_or-drop at ps i 0) (get_or-drop at ps ((i + 1) % n) 0)

  pub laying_next : (o : ℕ) → i < n → o ≡ (i + 1) % n → at + n ≤ length ps → at + n ≤ length ns₀ → at + n ≤ length fs₀ →
      Laying ps at n f ns₀ fs₀ (set ns (at + i) (get_or ps (at + o) 0)) (set fs (at + i) f) (i + 1)
  laying_next o h e r s t = subst (λ z. Laying ps at n f ns₀ fs₀ (set ns (at + i) (get_or ps (at + z) 0)) (set fs (at + i) f) (i + 1)) (sym e) (record {
    upto = omega arith;
    size_n = length-set ns (at + i) (get_or ps (at + (i + 1) % n) 0) ∙ I.size_n;
    size_f = length-set fs (at + i) f ∙ I.size_f;
    rest =
        let x = get_or ps (at + (i + 1) % n) 0 in
        let z : at + (i + 1) ≡ at + i + 1 = omega arith in
        ap (λ k. corners_at ps (set ns (at + i) (get_or ps (at + (i + 1) % n) 0)) (set fs (at + i) f) 0 k ++ map (corner_of f) (drop (i + 1) (cyclic (counts_at ps at n)))) z
        ∙ ap (λ l. l ++ map (corner_of f) (drop (i + 1) (cyclic (counts_at ps at n)))) (corners_put ps ns fs (at + i) (get_or ps (at + (i + 1) % n) 0) f (omega (arith, I.size_n)) (omega (arith, I.size_f)))
        ∙ append_assoc (corners_at ps ns fs 0 (at + i)) (record { face = f; point = get_or ps (at + i) 0; next = get_or ps (at + (i + 1) % n) 0 } ∷ []) (map (corner_of f) (drop (i + 1) (cyclic (counts_at ps at n))))
        ∙ ap (λ l. corners_at ps ns fs 0 (at + i) ++ map (corner_of f) l) (sym (edge h r)) ∙ I.rest;
  })

  pub laying_end : n ≤ i → corners_at ps ns fs 0 (at + n) ≡ corners_at ps ns₀ fs₀ 0 at ++ map (corner_of f) (cyclic (counts_at ps at n))
  laying_end h =
      let z : i ≡ n = omega (arith, I.upto) in
      ap (λ k. corners_at ps ns fs 0 (at + k)) (sym z) ∙ sym (append-nil (corners_at ps ns fs 0 (at + i)))
      ∙ ap (λ l. corners_at ps ns fs 0 (at + i) ++ map (corner_of f) l) (sym (edges_done (drop at ps) n i h)) ∙ I.rest

-- of n faces, j are laid
pub record Laid (ps counts : List ℕ) (n : ℕ) (ns₀ fs₀ ns fs : List ℕ) (at j : ℕ) : Type 0 where
  pub along : Along ps counts n at j
  pub size_n : length ns ≡ length ns₀
  pub size_f : length fs ≡ length fs₀
  pub rest : corners_at ps ns fs 0 at ++ corners_of j (faces_at ps at (drop j (counts_at counts 0 n))) ≡ corners_of 0 (faces_at ps 0 (counts_at counts 0 n))

pub laid_start : (ps counts : List ℕ) (n : ℕ) (ns fs : List ℕ) → Placing (counts_at counts 0 n) 0 (length ps) → Laid ps counts n ns fs ns fs 0 0
unfolding corners_at
laid_start ps counts n ns fs h = record { along = along_start ps counts n h; size_n = refl; size_f = refl; rest = refl }

module _ {ps counts : List ℕ} {n : ℕ} {ns₀ fs₀ ns fs : List ℕ} {at j : ℕ} (I : Laid ps counts n ns₀ fs₀ ns fs at j) (room : n ≤ length counts) where
  pub laid_room : j < n → length ps ≤ length ns₀ → length ps ≤ length fs₀ → (at + get_or counts j 0 ≤ length ps) × (at + get_or counts j 0 ≤ length ns) × (at + get_or counts j 0 ≤ length fs)
  laid_room h g k =
      let r = along_room I.along room h in
      (r, omega (arith, r, I.size_n), omega (arith, r, I.size_f))

  pub laid_next : {ns' fs' : List ℕ} → j < n → length ns' ≡ length ns → length fs' ≡ length fs →
      corners_at ps ns' fs' 0 (at + get_or counts j 0) ≡ corners_at ps ns fs 0 at ++ map (corner_of j) (cyclic (counts_at ps at (get_or counts j 0))) →
      Laid ps counts n ns₀ fs₀ ns' fs' (at + get_or counts j 0) (j + 1)
  unfolding corners_of
  laid_next {ns'} {fs'} h a b e = record {
    along = along_next I.along room h;
    size_n = a ∙ I.size_n;
    size_f = b ∙ I.size_f;
    rest =
        ap (λ l. l ++ corners_of (j + 1) (faces_at ps (at + get_or counts j 0) (drop (j + 1) (counts_at counts 0 n)))) e
        ∙ append_assoc (corners_at ps ns fs 0 at) (map (corner_of j) (cyclic (counts_at ps at (get_or counts j 0)))) (corners_of (j + 1) (faces_at ps (at + get_or counts j 0) (drop (j + 1) (counts_at counts 0 n))))
        ∙ ap (λ k. corners_at ps ns fs 0 at ++ (map (corner_of j) (cyclic (counts_at ps at (get_or counts j 0))) ++ corners_of k (faces_at ps (at + get_or counts j 0) (drop (j + 1) (counts_at counts 0 n))))) (add-one j)
        ∙ ap (λ l. corners_at ps ns fs 0 at ++ corners_of j l) (sym (along_face I.along room h)) ∙ I.rest;
  }

  pub laid_end : n ≤ j → corners_at ps ns fs 0 at ≡ corners_of 0 (faces_at ps 0 (counts_at counts 0 n))
  unfolding corners_of
  laid_end h = sym (append-nil (corners_at ps ns fs 0 at)) ∙ ap (λ l. corners_at ps ns fs 0 at ++ corners_of j l) (sym (along_end I.along room h)) ∙ I.rest

  pub laid_within : at ≤ length ps
  laid_within = placing_le _ _ _ I.along.left

-- ---- points - edges + faces

pub round_few : (m n c : ℕ) → c / 2 + 2 < n → false ≡ rounded m n c
unfolding rounded
round_few m n c h = sym (ne_eqb (m + n) (c / 2 + 2) (λ e. omega arith))

pub round_is : (m n c : ℕ) → n ≤ c / 2 + 2 → eqb m (c / 2 + 2 - n) ≡ rounded m n c
unfolding rounded
round_is m n c h = go (eqb (m + n) (c / 2 + 2)) refl
  where
    go : (b : Bool) → eqb (m + n) (c / 2 + 2) ≡ b → eqb m (c / 2 + 2 - n) ≡ b
    go true e = eq-eqb m (c / 2 + 2 - n) (omega (arith, eqb-true (m + n) (c / 2 + 2) e))
    go false e = ne_eqb m (c / 2 + 2 - n) (λ g. eqb-false (m + n) (c / 2 + 2) e (omega arith))

-- ---- one class

pub one_is : (q k n : ℕ) (adj : ℕ → List ℕ) → q ≡ length (components k adj) → k ≡ n → eqb q 1 ≡ eqb (length (components n adj)) 1
one_is q k n adj e h = ap (λ z. eqb z 1) (e ∙ ap (λ z. length (components z adj)) h)
