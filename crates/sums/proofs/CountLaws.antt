-- Where no key has more than two places, the places are the lone ones and twice the pairs.
use Rattle.std.specs.Prelude.{◌≡◌, ◌⊎◌, ◌≢◌, ℕ, zero, suc, ◌+◌, ◌*◌, ◌≤◌, ◌<◌}
use Rattle.std.proofs.Math.Path.{refl, ap}
use Rattle.std.proofs.Common.{sym, ◌∙◌, subst, inl, inr, ⊎_elim, arith}
use mathlib.Core.List.{List, [], ◌∷◌, head-eq_of_cons-eq}
use Rattle.std.proofs.Math.ListN.{length}
use Rattle.sums.specs.Sum.{sum, sum_one, hit, hit_cases, hit_same, pick, full, Each, none, here, cases_in}
use Rattle.sums.specs.Keys.{key, order, users, lone, led, pairs}
use Rattle.sums.specs.KeyLaws.{Sharing}
use Rattle.sums.proofs.KeyLaws.{sum_flat, sum_order, sum_lone, full_add, full_ext, full_zero, full_hit, full_only, each_imp, pairs_each, users_all, users_has, users_key, users_le}
use Rattle.sums.specs.MeetLaws.{Two}

-- a sum of sums, the other way round
swap {ℓ} : {A : Type ℓ} (w : A → ℕ → ℕ) (l : List A) (n : ℕ) → sum (λ p. full (w p) n) l ≡ full (λ i. sum (λ p. w p i) l) n
unfolding sum
swap w [] n = sym (full_zero (λ _. 0) n (λ i h. refl))
swap w (p ∷ l) n = omega (arith, swap w l n, full_add (w p) (λ i. sum (λ p. w p i) l) n)

pub ones : (n : ℕ) → full (λ _. 1) n ≡ n
unfolding full
ones zero = refl
ones (suc n) = omega (arith, ones n)

twice {ℓ} : {A : Type ℓ} (f : A → ℕ) (l : List A) → Each (λ p. f p ≡ 2) l → sum f l ≡ 2 * length l
unfolding sum
twice f [] e = refl
twice f (p ∷ l) e = omega (arith, e.0, twice f l e.1)

nothing {ℓ} : {A : Type ℓ} (f : A → ℕ) (l : List A) → Each (λ p. f p ≡ 0) l → sum f l ≡ 0
unfolding sum
nothing f [] e = refl
nothing f (p ∷ l) e = omega (arith, e.0, nothing f l e.1)

hit_not : (x i : ℕ) → x ≢ i → hit x i ≡ 0
hit_not x i n = ⊎_elim (λ c. absurd (n c.0)) (λ c. c.1) (hit_cases x i)

module _ (ks : List (List ℕ)) where
  -- how often a pair has i
  abbrev has : ℕ × ℕ → ℕ → ℕ
  has p i = hit p.0 i + hit p.1 i

  has_two : (p : ℕ × ℕ) → Sharing ks p → full (has p) (length ks) ≡ 2
  has_two p q = omega (arith, full_add (hit p.0) (hit p.1) (length ks), full_hit p.0 (length ks) q.first, full_hit p.1 (length ks) q.second)

  -- the users of either place of a pair
  of_pair : (p : ℕ × ℕ) (i : ℕ) → Sharing ks p → 1 ≤ has p i → users ks i ≡ p.0 ∷ p.1 ∷ []
  of_pair p i q h = go (hit_cases p.0 i) (hit_cases p.1 i)
    where
      go : ((p.0 ≡ i) × (hit p.0 i ≡ 1)) ⊎ ((p.0 ≢ i) × (hit p.0 i ≡ 0)) → ((p.1 ≡ i) × (hit p.1 i ≡ 1)) ⊎ ((p.1 ≢ i) × (hit p.1 i ≡ 0)) → users ks i ≡ p.0 ∷ p.1 ∷ []
      go (inl c) d = users_key ks i p.0 (ap (key ks) (sym c.0)) ∙ q.only
      go (inr c) (inl d) = users_key ks i p.0 (sym (q.alike ∙ ap (key ks) d.0)) ∙ q.only
      go (inr c) (inr d) = absurd (omega (arith, c.1, d.1))

  module _ (i : ℕ) (h : i < length ks) where
    -- a place whose key is its own stands in no pair
    in_none : length (users ks i) ≡ 1 → sum (λ p. has p i) (pairs ks) ≡ 0
    in_none one = nothing (λ p. has p i) (pairs ks) (each_imp (Sharing ks) (λ p. has p i ≡ 0) (pairs ks) off (pairs_each ks))
      where
        off : (p : ℕ × ℕ) → Sharing ks p → has p i ≡ 0
        off p q = go (has p i) refl
          where
            go : (k : ℕ) → has p i ≡ k → k ≡ 0
            go zero e = refl
            go (suc k) e = absurd (omega (arith, one, ap length (of_pair p i q (omega arith))))

    -- and one that shares its key stands in one pair
    module _ (u v : ℕ) (only : users ks i ≡ u ∷ v ∷ []) where
      apart : u ≢ v
      apart q = unfold sum in omega (arith, rw only at (users_le ks i u), hit_same u, ap (hit u) q)

      at_u : (u < length ks) × (key ks i ≡ key ks u)
      at_u = users_all ks i u (rw only (here u (v ∷ [])))

      u_only : users ks u ≡ u ∷ v ∷ []
      u_only = users_key ks u i (sym at_u.1) ∙ only

      one_of : has (u, v) i ≡ 1
      one_of = go (hit_cases u i) (hit_cases v i) (rw only at (users_has ks i i h refl))
        where
          go : ((u ≡ i) × (hit u i ≡ 1)) ⊎ ((u ≢ i) × (hit u i ≡ 0)) → ((v ≡ i) × (hit v i ≡ 1)) ⊎ ((v ≢ i) × (hit v i ≡ 0)) → 1 ≤ sum (hit i) (u ∷ v ∷ []) → hit u i + hit v i ≡ 1
          go (inl c) (inl d) m = absurd (apart (c.0 ∙ sym d.0))
          go (inl c) (inr d) m = omega (arith, c.1, d.1)
          go (inr c) (inl d) m = omega (arith, c.1, d.1)
          go (inr c) (inr d) m = ⊎_elim (λ e. absurd (c.0 (sym e))) (λ k. ⊎_elim (λ e. absurd (d.0 (sym e))) (λ k. none i k) (cases_in i v [] k)) (cases_in i u (v ∷ []) m)

      led_u : sum (λ p. has p i) (led u (users ks u)) ≡ 1
      unfolding sum led
      led_u = rw (u_only, led, hit_same u) (omega (arith, one_of))

      led_off : (j : ℕ) (l : List ℕ) → users ks j ≡ l → j ≢ u → sum (λ p. has p i) (led j l) ≡ 0
      unfolding sum led
      led_off j [] e n = refl
      led_off j (a ∷ []) e n = refl
      led_off j (a ∷ b ∷ []) e n = go (hit j a) refl (hit_cases j a)
        where
          at_b : key ks j ≡ key ks b
          at_b = (users_all ks j b (rw e (there_b))).1
            where
              there_b : 1 ≤ sum (hit b) (a ∷ b ∷ [])
              there_b = unfold sum in omega (arith, hit_same b)

          at_a : key ks j ≡ key ks a
          at_a = (users_all ks j a (rw e (here a (b ∷ [])))).1

          away : (x : ℕ) → j ≡ a → key ks j ≡ key ks x → hit x i ≡ 0
          away x q k = hit_not x i (λ r. n (q ∙ head-eq_of_cons-eq (sym e ∙ users_key ks j i (k ∙ ap (key ks) r) ∙ only)))

          go : (t : ℕ) → hit j a ≡ t → ((j ≡ a) × (hit j a ≡ 1)) ⊎ ((j ≢ a) × (hit j a ≡ 0)) → sum (λ p. has p i) (elim t as (λ _. List (ℕ × ℕ)) [ zero ↦ [] | suc _ ↦ (a, b) ∷ [] ]) ≡ 0
          go zero q c = refl
          go (suc t) q (inl c) = omega (arith, away a c.0 at_a, away b c.0 at_b)
          go (suc t) q (inr c) = absurd (omega (arith, c.1))
      led_off j (a ∷ b ∷ c ∷ l) e n = refl

      in_one : sum (λ p. has p i) (pairs ks) ≡ 1
      unfolding pairs
      in_one = sum_flat (λ p. has p i) (λ j. led j (users ks j)) (order ks) ∙ sum_order (λ j. sum (λ p. has p i) (led j (users ks j))) ks
          ∙ full_only (λ j. sum (λ p. has p i) (led j (users ks j))) (length ks) u at_u.0 (λ j l n. led_off j (users ks j) refl n) ∙ led_u

    either : length (users ks i) ≤ 2 → pick (hit 1 (length (users ks i))) 1 + sum (λ p. has p i) (pairs ks) ≡ 1
    unfolding pick
    either few = go (users ks i) refl few
      where
        go : (l : List ℕ) → users ks i ≡ l → length l ≤ 2 → pick (hit 1 (length (users ks i))) 1 + sum (λ p. has p i) (pairs ks) ≡ 1
        go [] e f = none i (rw e at (users_has ks i i h refl))
        go (u ∷ []) e f = rw (ap length e) (rw (hit_same 1) (omega (arith, in_none (ap length e))))
        go (u ∷ v ∷ []) e f = rw (ap length e) (omega (arith, hit_not 1 2 (λ q. omega arith), ap (λ t. pick t 1) (hit_not 1 2 (λ q. omega arith)), in_one u v e))
        go (u ∷ v ∷ w ∷ l) e f = absurd (omega arith)

  -- all places = the lone ones + twice the pairs
  pub places_count : Two ks → length ks ≡ length (lone ks) + 2 * length (pairs ks)
  places_count two = omega (
    arith,
    ones (length ks),
    sum_one (lone ks),
    sum_lone (λ _. 1) ks,
    twice (λ p. full (has p) (length ks)) (pairs ks) (each_imp (Sharing ks) (λ p. full (has p) (length ks) ≡ 2) (pairs ks) has_two (pairs_each ks)),
    swap has (pairs ks) (length ks),
    full_add (λ i. pick (hit 1 (length (users ks i))) 1) (λ i. sum (λ p. has p i) (pairs ks)) (length ks),
    full_ext (λ i. pick (hit 1 (length (users ks i))) 1 + sum (λ p. has p i) (pairs ks)) (λ _. 1) (length ks) (λ i l. either i l (two i l)),
  )
