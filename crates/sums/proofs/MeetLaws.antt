-- Neighbours through a key that two places share.
use Rattle.std.specs.Prelude.{◌≡◌, ◌⊎◌, ◌≢◌, ℕ, ◌+◌, ◌≤◌, ◌<◌, length}
use Rattle.std.proofs.Math.Path.{refl, sym}
use Rattle.std.proofs.Common.{◌∙◌, inl, inr}
use Rattle.std.proofs.Math.Logic.{⊎_elim}
use mathlib.Core.List.{List, [], ◌∷◌, map}
use native.Mathlib.Omega.{arith}
use Rattle.sums.specs.Sum.{sum, hit, hit_cases, hit_same, occ, pick, ◌∈◌, Each, none, cases_in, some_of}
use Rattle.sums.specs.Keys.{order, users, led, pairs, nbr, nbrs}
use Rattle.sums.specs.KeyLaws.{Sharing}
use Rattle.sums.proofs.KeyLaws.{sum_flat, sum_order, full_at_least, occ_nbr, pairs_each, users_has, users_key}
use Rattle.sums.specs.MeetLaws.{Meet, Two, owners}

both_hit : (a c d b : ℕ) → 1 ≤ pick (hit a c) (hit d b) → (a ≡ c) × (d ≡ b)
both_hit a c d b h = go (hit_cases a c) (hit_cases d b)
  where
    go : ((a ≡ c) × (hit a c ≡ 1)) ⊎ ((a ≢ c) × (hit a c ≡ 0)) → ((d ≡ b) × (hit d b ≡ 1)) ⊎ ((d ≢ b) × (hit d b ≡ 0)) → (a ≡ c) × (d ≡ b)
    go (inl u) (inl v) = (u.0, v.0)
    go (inl u) (inr v) = absurd (unfold pick in omega (arith, rw (u.1, v.1) at h))
    go (inr u) v = absurd (unfold pick in omega (arith, rw u.1 at h))

hit_both : (a d : ℕ) → pick (hit a a) (hit d d) ≡ 1
unfolding pick
hit_both a d = rw (hit_same a) (hit_same d)

-- a list of at most two that has two
pub only_two : (l : List ℕ) (x y : ℕ) → length l ≤ 2 → x ∈ l → y ∈ l → x ≢ y → (l ≡ x ∷ y ∷ []) ⊎ (l ≡ y ∷ x ∷ [])
only_two [] x y n a b ne = none x a
only_two (u ∷ []) x y n a b ne = absurd (ne (one x a ∙ sym (one y b)))
  where
    one : (z : ℕ) → z ∈ (u ∷ []) → z ≡ u
    one z m = ⊎_elim (λ e. e) (λ k. none z k) (cases_in z u [] m)
only_two (u ∷ v ∷ []) x y n a b ne = go (two x a) (two y b)
  where
    two : (z : ℕ) → z ∈ (u ∷ v ∷ []) → (z ≡ u) ⊎ (z ≡ v)
    two z m = ⊎_elim (λ e. inl e) (λ k. ⊎_elim (λ e. inr e) (λ k. none z k) (cases_in z v [] k)) (cases_in z u (v ∷ []) m)

    go : (x ≡ u) ⊎ (x ≡ v) → (y ≡ u) ⊎ (y ≡ v) → (u ∷ v ∷ [] ≡ x ∷ y ∷ []) ⊎ (u ∷ v ∷ [] ≡ y ∷ x ∷ [])
    go (inl p) (inl q) = absurd (ne (p ∙ sym q))
    go (inl p) (inr q) = inl (cc (p, q))
    go (inr p) (inl q) = inr (cc (p, q))
    go (inr p) (inr q) = absurd (ne (p ∙ sym q))
only_two (u ∷ v ∷ w ∷ l) x y n a b ne = absurd (omega arith)

module _ (ks : List (List ℕ)) (g : ℕ → ℕ) where
  -- what a pair gives to the neighbours of c: d, so often
  joins : ℕ → ℕ → ℕ × ℕ → ℕ
  joins c d p = pick (hit (g p.0) c) (hit d (g p.1)) + pick (hit (g p.1) c) (hit d (g p.0))

  nbrs_sum : (ps : List (ℕ × ℕ)) (c d : ℕ) → occ d (nbrs (map (owners g) ps) c) ≡ sum (joins c d) ps
  unfolding sum nbrs joins
  nbrs_sum [] c d = refl
  nbrs_sum (p ∷ ps) c d =
      let a = g p.0 in let b = g p.1 in
      omega (arith, occ_nbr d a b (hit a c) (nbr b a (hit b c) (nbrs (map (owners g) ps) c)), occ_nbr d b a (hit b c) (nbrs (map (owners g) ps) c), nbrs_sum ps c d)

  joins_meet : (c d : ℕ) (p : ℕ × ℕ) → Sharing ks p → 1 ≤ joins c d p → Meet ks g c d
  unfolding joins
  joins_meet c d p q h = go (some_of (pick (hit (g p.0) c) (hit d (g p.1))) (pick (hit (g p.1) c) (hit d (g p.0))) h)
    where
      go : (1 ≤ pick (hit (g p.0) c) (hit d (g p.1))) ⊎ (1 ≤ pick (hit (g p.1) c) (hit d (g p.0))) → Meet ks g c d
      go (inl k) = let e = both_hit (g p.0) c d (g p.1) k in
          record { x = p.0; y = p.1; x_in = q.first; y_in = q.second; apart = q.apart; alike = q.alike; x_of = e.0; y_of = sym e.1 }
      go (inr k) = let e = both_hit (g p.1) c d (g p.0) k in
          record { x = p.1; y = p.0; x_in = q.second; y_in = q.first; apart = λ r. q.apart (sym r); alike = sym q.alike; x_of = e.0; y_of = sym e.1 }

  find : (ps : List (ℕ × ℕ)) (c d : ℕ) → Each (Sharing ks) ps → 1 ≤ sum (joins c d) ps → Meet ks g c d
  unfolding sum
  find [] c d e m = absurd (omega arith)
  find (p ∷ ps) c d e m = ⊎_elim (λ h. joins_meet c d p e.0 h) (λ h. find ps c d e.1 h) (some_of (joins c d p) (sum (joins c d) ps) m)

  pub near_meet : (c d : ℕ) → d ∈ nbrs (map (owners g) (pairs ks)) c → Meet ks g c d
  near_meet c d m = find (pairs ks) c d (pairs_each ks) (omega (arith, nbrs_sum (pairs ks) c d))

  -- the pair of u and v is there
  pair_sum : (w : ℕ × ℕ → ℕ) (u v : ℕ) → u < length ks → users ks u ≡ u ∷ v ∷ [] → w (u, v) ≤ sum w (pairs ks)
  unfolding pairs led sum
  pair_sum w u v h e = omega (
    arith,
    sum_flat w (λ i. led i (users ks i)) (order ks),
    sum_order (λ i. sum w (led i (users ks i))) ks,
    full_at_least (λ i. sum w (led i (users ks i))) (length ks) u h,
    one,
  )
    where
      one : sum w (led u (users ks u)) ≡ w (u, v) + 0
      one = rw (e, led, hit_same u) refl

  pub meet_near : Two ks → (c d : ℕ) → Meet ks g c d → d ∈ nbrs (map (owners g) (pairs ks)) c
  unfolding joins
  meet_near two c d m = go (only_two (users ks m.x) m.x m.y (two m.x m.x_in) (users_has ks m.x m.x m.x_in refl) (users_has ks m.x m.y m.y_in m.alike) m.apart)
    where
      at : (x y : ℕ) → g x ≡ c → g y ≡ d → pick (hit (g x) c) (hit d (g y)) ≡ 1
      at x y e f = rw (e, f) (hit_both c d)

      go : (users ks m.x ≡ m.x ∷ m.y ∷ []) ⊎ (users ks m.x ≡ m.y ∷ m.x ∷ []) → d ∈ nbrs (map (owners g) (pairs ks)) c
      go (inl e) = omega (arith, nbrs_sum (pairs ks) c d, pair_sum (joins c d) m.x m.y m.x_in e, at m.x m.y m.x_of m.y_of)
      go (inr e) = omega (arith, nbrs_sum (pairs ks) c d, pair_sum (joins c d) m.y m.x m.y_in (users_key ks m.y m.x (sym m.alike) ∙ e), at m.x m.y m.x_of m.y_of)
