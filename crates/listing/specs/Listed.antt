-- The shells of a body written out, the outward one first.
use Rattle.std.specs.Prelude.{◌≡◌, refl, take, drop}
use Rattle.std.proofs.Math.Path.{sym, ap, ap₂}
use Rattle.std.proofs.Common.{◌∙◌, subst, take-append-drop, take_all, take-take, length-take-le}
use mathlib.Core.List.{List, [], ◌∷◌, ◌++◌, map, map-append, append_assoc, append-nil}
use Prim.Native.Nat.{ℕ, zero, suc, ◌+◌, ◌-◌, ◌≤◌, ◌<◌}
use native.Mathlib.Omega.{arith}
use Rattle.std.proofs.Math.ListN.{length, get_or, length-append}
use Rattle.std.proofs.Math.Seq.{slice, slice_empty, length-slice}
use Rattle.std.proofs.lemmas.List.{drop-append-le}
use Rattle.keys.specs.Rows.{Starts, rows, row_at, length_rows}
use Rattle.keys.specs.Each.{starts_le}
use Rattle.groups.specs.Groups.{joined}
use Rattle.cavities.specs.Outer.{outer_of}
use Rattle.listing.specs.Appended.{appended, append_more, slice_snoc, gaps, length_gaps}

pub joined_both : (l m : List (List ℕ)) → joined (l ++ m) ≡ joined l ++ joined m
unfolding joined
joined_both [] m = refl
joined_both (g ∷ l) m = ap (λ r. g ++ r) (joined_both l m) ∙ sym (append_assoc g (joined l) (joined m))

pub joined_one : (g : List ℕ) → joined (g ∷ []) ≡ g
unfolding joined
joined_one g = append-nil g

slice_join : (d : List ℕ) (a b c : ℕ) → a ≤ b → b ≤ c → c ≤ length d → slice a b d ++ slice b c d ≡ slice a c d
slice_join d a b c h k l =
    sym (drop-append-le a (take b d) (slice b c d) (omega (arith, length-take-le b d (omega arith)))) ∙ ap (drop a) (ap (λ x. x ++ slice b c d) (sym (take-take b c d k)) ∙ take-append-drop b (take c d))

module _ (d c : List ℕ) (g : ℕ) (s : Starts d c g) where
  -- rows one after another are a part of the slice
  pub joined_rows : (a n : ℕ) → a + n ≤ g → joined (slice a (a + n) (rows d c g)) ≡ slice (get_or c a 0) (get_or c (a + n) 0) d
  unfolding joined
  joined_rows a zero h =
      let z : a + 0 ≡ a = omega arith in
      rw z (ap joined (slice_empty a (rows d c g)) ∙ sym (slice_empty (get_or c a 0) d))
  joined_rows a (suc n) h =
      let z : a + suc n ≡ a + n + 1 = omega arith in
      rw z (ap joined (slice_snoc (rows d c g) a (a + n) [] (omega arith) (omega (arith, length_rows d c g)))
      ∙ joined_both (slice a (a + n) (rows d c g)) (get_or (rows d c g) (a + n) [] ∷ [])
      ∙ ap₂ (λ l m. l ++ m) (joined_rows a n (omega arith)) (joined_one (get_or (rows d c g) (a + n) []) ∙ row_at d c g (a + n) (omega arith))
      ∙ slice_join d (get_or c a 0) (get_or c (a + n) 0) (get_or c (a + n + 1) 0) (starts_le d c g s a (a + n) (omega arith) (omega arith)) (s.up (a + n) (omega arith)) (s.inn (a + n) (omega arith)))

  pub sizes_rows : (a n : ℕ) → a + n ≤ g → map length (slice a (a + n) (rows d c g)) ≡ gaps c a n
  unfolding gaps
  sizes_rows a zero h =
      let z : a + 0 ≡ a = omega arith in
      rw z (ap (map length) (slice_empty a (rows d c g)))
  sizes_rows a (suc n) h =
      let z : a + suc n ≡ a + n + 1 = omega arith in
      rw z (ap (map length) (slice_snoc (rows d c g) a (a + n) [] (omega arith) (omega (arith, length_rows d c g)))
      ∙ map-append length (slice a (a + n) (rows d c g)) (get_or (rows d c g) (a + n) [] ∷ [])
      ∙ ap₂ (λ l m. l ++ (m ∷ [])) (sizes_rows a n (omega arith)) (ap length (row_at d c g (a + n) (omega arith)) ∙ length-slice (get_or c (a + n) 0) (get_or c (a + n + 1) 0) d (s.inn (a + n) (omega arith))))

  module _ (o : ℕ) (h : o < g) where
    many : length (rows d c g) ≡ g
    many = length_rows d c g

    before : take o (rows d c g) ≡ slice 0 (0 + o) (rows d c g)
    before = let z : 0 + o ≡ o = omega arith in ap (λ n. take n (rows d c g)) (sym z)

    after : drop (o + 1) (rows d c g) ≡ slice (o + 1) (o + 1 + (g - (o + 1))) (rows d c g)
    after = ap (drop (o + 1)) (sym (take_all (o + 1 + (g - (o + 1))) (rows d c g) (omega (arith, many))))

    -- the facets, shell by shell
    pub facets_are : joined (outer_of (rows d c g) o) ≡ slice (get_or c o 0) (get_or c (o + 1) 0) d ++ (slice 0 (get_or c o 0) d ++ slice (get_or c (o + 1) 0) (get_or c g 0) d)
    unfolding joined outer_of
    facets_are =
        let z : 0 + o ≡ o = omega arith in
        let y : o + 1 + (g - (o + 1)) ≡ g = omega arith in
        ap₂ (λ a b. a ++ b) (row_at d c g o h) (joined_both (take o (rows d c g)) (drop (o + 1) (rows d c g)) ∙ ap₂ (λ a b. a ++ b)
        (ap joined before ∙ joined_rows 0 o (omega arith) ∙ ap₂ (λ p q. slice p (get_or c q 0) d) s.first z)
        (ap joined after ∙ joined_rows (o + 1) (g - (o + 1)) (omega arith) ∙ ap (λ q. slice (get_or c (o + 1) 0) (get_or c q 0) d) y))

    -- and how many each has
    pub sizes_are : map length (outer_of (rows d c g) o) ≡ gaps c o 1 ++ (gaps c 0 o ++ gaps c (o + 1) (g - (o + 1)))
    unfolding outer_of gaps
    sizes_are =
        let z : o + 0 ≡ o = omega arith in
        ap₂ (λ a b. a ∷ b) (ap length (row_at d c g o h) ∙ length-slice (get_or c o 0) (get_or c (o + 1) 0) d (s.inn o h) ∙ ap (λ k. get_or c (k + 1) 0 - get_or c k 0) (sym z))
        (map-append length (take o (rows d c g)) (drop (o + 1) (rows d c g)) ∙ ap₂ (λ a b. a ++ b) (ap (map length) before ∙ sizes_rows 0 o (omega arith)) (ap (map length) after ∙ sizes_rows (o + 1) (g - (o + 1)) (omega arith)))

-- ---- the steps of the code

module _ (d c : List ℕ) (g o : ℕ) (s : Starts d c g) (h : o < g) where
  pub part_three : get_or c (o + 1) 0 ≤ get_or c g 0
  part_three = starts_le d c g s (o + 1) g (omega arith) (omega arith)

  pub last_in : get_or c g 0 ≤ length d
  last_in = last g s (omega arith)
    where
      last : (n : ℕ) → Starts d c n → 0 < n → get_or c n 0 ≤ length d
      last zero s l = absurd (omega arith)
      last (suc n) s l = let z : n + 1 ≡ suc n = omega arith in subst (λ k. get_or c k 0 ≤ length d) z (s.inn n (omega arith))

  module _ (out : List ℕ) (na : ℕ) (room : na + get_or c g 0 ≤ length out) where
    s1 : List ℕ
    s1 = slice (get_or c o 0) (get_or c (o + 1) 0) d

    s2 : List ℕ
    s2 = slice 0 (get_or c o 0) d

    l1 : length (slice (get_or c o 0) (get_or c (o + 1) 0) d) ≡ get_or c (o + 1) 0 - get_or c o 0
    l1 = length-slice (get_or c o 0) (get_or c (o + 1) 0) d (s.inn o h)

    l2 : length (slice 0 (get_or c o 0) d) ≡ get_or c o 0
    l2 = length-slice 0 (get_or c o 0) d (omega (arith, s.up o h, s.inn o h)) ∙ omega arith

    -- three parts, one behind another
    pub facets_listed : (e : List ℕ) → e ≡ appended (appended (appended out na (slice (get_or c o 0) (get_or c (o + 1) 0) d)) (na + (get_or c (o + 1) 0 - get_or c o 0)) (slice 0 (get_or c o 0) d)) (na + get_or c (o + 1) 0) (slice (get_or c (o + 1) 0) (get_or c g 0) d) →
        e ≡ appended out na (joined (outer_of (rows d c g) o))
    unfolding s1 s2
    facets_listed e r =
        let t : List ℕ = slice (get_or c (o + 1) 0) (get_or c g 0) d in
        let two : appended (appended out na s1) (na + (get_or c (o + 1) 0 - get_or c o 0)) s2 ≡ appended out na (s1 ++ s2) = append_more out na s1 (omega (arith, l1, part_three)) (na + (get_or c (o + 1) 0 - get_or c o 0)) s2 (omega (arith, l1)) in
        r ∙ ap (λ l. appended l (na + get_or c (o + 1) 0) t) two
        ∙ append_more out na (s1 ++ s2) (omega (arith, length-append s1 s2, l1, l2, s.up o h, part_three)) (na + get_or c (o + 1) 0) t (omega (arith, length-append s1 s2, l1, l2, s.up o h))
        ∙ ap (appended out na) (append_assoc s1 s2 t ∙ sym (facets_are d c g s o h))

  module _ (out : List ℕ) (ns : ℕ) (room : ns + g ≤ length out) where
    pub sizes_listed : (a b e : List ℕ) → a ≡ appended out ns (gaps c o 1) → b ≡ appended a (ns + 1) (gaps c 0 o) → e ≡ appended b (ns + (o + 1)) (gaps c (o + 1) (g - (o + 1))) → e ≡ appended out ns (map length (outer_of (rows d c g) o))
    sizes_listed a b e p q r =
        let s1 : List ℕ = gaps c o 1 in
        let s2 : List ℕ = gaps c 0 o in
        let t : List ℕ = gaps c (o + 1) (g - (o + 1)) in
        let two : b ≡ appended out ns (s1 ++ s2) = q ∙ ap (λ l. appended l (ns + 1) s2) p ∙ append_more out ns s1 (omega (arith, length_gaps c o 1)) (ns + 1) s2 (omega (arith, length_gaps c o 1)) in
        r ∙ ap (λ l. appended l (ns + (o + 1)) t) two
        ∙ append_more out ns (s1 ++ s2) (omega (arith, length-append s1 s2, length_gaps c o 1, length_gaps c 0 o)) (ns + (o + 1)) t (omega (arith, length-append s1 s2, length_gaps c o 1, length_gaps c 0 o))
        ∙ ap (appended out ns) (append_assoc s1 s2 t ∙ sym (sizes_are d c g s o h))
