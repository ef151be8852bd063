-- Each edge of a body is run once each way.
use Rattle.std.specs.Prelude.{◌≡◌, ◌⊎◌, ◌≢◌, false, length, T, eqb, Ok}
use Rattle.std.proofs.Math.Path.{refl}
use Rattle.std.proofs.Common.{sym, ap, ap₂, ◌∙◌, subst, inl, inr, ⊎_elim, arith}
use mathlib.Core.List.{List, [], ◌∷◌, map, head-eq_of_cons-eq, tail-eq_of_cons-eq}
use Prim.Native.Nat.{ℕ, suc, ◌≤◌, ◌<◌, min, max}
use Rattle.std.proofs.Math.Decide.{dec_le}
use Rattle.std.proofs.Math.ListN.{length-map}
use Rattle.std.proofs.Math.Dec.{eqb_refl}
use Rattle.refusal.specs.Outcome.{Outcome}
use Rattle.refusal.specs.Laws.{unless_ok, never_ok}
use Rattle.refusal.specs.Tests.{or_false}
use Rattle.lists.specs.Walks.{cyclic}
use Rattle.sums.specs.Sum.{sum, hit, hit_cases, hit_same, less, less_cases, pick, ◌∈◌, none, here, there, cases_in}
use Rattle.sums.specs.Keys.{key, order, users}
use Rattle.sums.proofs.KeyLaws.{sum_append, sum_map, sum_order, full_hit, full_find, full_only, full_at_least, full_list, get_d_map_lt, each_in, users_all, users_has}
use Rattle.bodies.specs.Fusing.{Facet, vertices_of, faces_of, Run, no_run, run_at, run_of, runs, rises, edge_keys, Sense, judge_edge, check_edges}
use Rattle.bodies.specs.Passed.{walk_ok}
use Rattle.bodies.specs.ListLaws.{BodyMade}
use Rattle.bodies.specs.EdgeLaws.{goes, runs_edge, ran}

goes_le : (a d : ℕ) (r : Run) → goes a d r ≤ 1
unfolding pick
goes_le a d r = ⊎_elim (λ c. rw c.1 (⊎_elim (λ e. omega (arith, e.1)) (λ e. omega (arith, e.1)) (hit_cases d r.tip))) (λ c. rw c.1 (omega arith)) (hit_cases a r.tail)

pub goes_of : (a d : ℕ) (r : Run) → 1 ≤ goes a d r → (a ≡ r.tail) × (d ≡ r.tip)
goes_of a d r h = go (hit_cases a r.tail) (hit_cases d r.tip)
  where
    go : ((a ≡ r.tail) × (hit a r.tail ≡ 1)) ⊎ ((a ≢ r.tail) × (hit a r.tail ≡ 0)) → ((d ≡ r.tip) × (hit d r.tip ≡ 1)) ⊎ ((d ≢ r.tip) × (hit d r.tip ≡ 0)) → (a ≡ r.tail) × (d ≡ r.tip)
    go (inl c) (inl e) = (c.0, e.0)
    go (inl c) (inr e) = absurd (unfold pick in omega (arith, rw (c.1, e.1) at h))
    go (inr c) e = absurd (unfold pick in omega (arith, rw c.1 at h))

pub goes_is : (r : Run) → goes r.tail r.tip r ≡ 1
unfolding pick
goes_is r = rw (hit_same r.tail) (hit_same r.tip)

-- Every edge passed its test.
pub edge_judged : (rs : List Run) → check_edges rs ≡ Ok tt → (x : ℕ) → x < length rs → judge_edge rs (users (edge_keys rs) x) ≡ Ok tt
unfolding check_edges
edge_judged rs fine x h =
    let ks = edge_keys rs in
    let size : length ks ≡ length rs = length-map rs _ in
    each_in (λ x. judge_edge rs (users ks x) ≡ Ok tt) (order ks) x (walk_ok (λ x. judge_edge rs (users ks x)) (order ks) tt fine)
    (omega (arith, sum_order (hit x) ks, full_hit x (length ks) (omega arith)))

module _ (rs : List Run) (fine : check_edges rs ≡ Ok tt) where
  ks : List (List ℕ)
  ks = edge_keys rs

  at_key : (x : ℕ) → x < length rs → key ks x ≡ min (run_at rs x).tail (run_at rs x).tip ∷ max (run_at rs x).tail (run_at rs x).tip ∷ []
  unfolding ks
  at_key x h = get_d_map_lt (λ r. min r.tail r.tip ∷ max r.tail r.tip ∷ []) rs no_run [] x h

  size : length ks ≡ length rs
  unfolding ks
  size = length-map rs _

  judged : (x : ℕ) → x < length rs → judge_edge rs (users ks x) ≡ Ok tt
  unfolding ks
  judged = edge_judged rs fine

  -- Two runs of one edge: the same, or one comes back.
  ends : (x y : ℕ) → x < length rs → y < length rs → key ks x ≡ key ks y →
      (min (run_at rs x).tail (run_at rs x).tip ≡ min (run_at rs y).tail (run_at rs y).tip) × (max (run_at rs x).tail (run_at rs x).tip ≡ max (run_at rs y).tail (run_at rs y).tip)
  ends x y hx hy e = (head-eq_of_cons-eq k, head-eq_of_cons-eq (tail-eq_of_cons-eq k))
    where
      k : min (run_at rs x).tail (run_at rs x).tip ∷ max (run_at rs x).tail (run_at rs x).tip ∷ [] ≡ min (run_at rs y).tail (run_at rs y).tip ∷ max (run_at rs y).tail (run_at rs y).tip ∷ []
      k = sym (at_key x hx) ∙ e ∙ at_key y hy

  back : (x y : ℕ) → x < length rs → y < length rs → key ks x ≡ key ks y → rises (run_at rs x) ≢ rises (run_at rs y) →
      ((run_at rs x).tail ≡ (run_at rs y).tip) × ((run_at rs x).tip ≡ (run_at rs y).tail)
  back x y hx hy e n = go (less_cases (run_at rs x).tail (run_at rs x).tip) (less_cases (run_at rs y).tail (run_at rs y).tip) (ends x y hx hy e)
    where
      a : ℕ
      a = (run_at rs x).tail

      b : ℕ
      b = (run_at rs x).tip

      c : ℕ
      c = (run_at rs y).tail

      d : ℕ
      d = (run_at rs y).tip

      go : ((a < b) × (less a b ≡ 1)) ⊎ ((b ≤ a) × (less a b ≡ 0)) → ((c < d) × (less c d ≡ 1)) ⊎ ((d ≤ c) × (less c d ≡ 0)) → (min a b ≡ min c d) × (max a b ≡ max c d) → (a ≡ d) × (b ≡ c)
      go (inl p) (inl q) m = absurd (n (p.1 ∙ sym q.1))
      go (inl p) (inr q) m = omega arith
      go (inr p) (inl q) m = omega arith
      go (inr p) (inr q) m = absurd (n (p.1 ∙ sym q.1))

  -- The other run of an edge.
  record Other (x : ℕ) : Type 0 where
    y : ℕ
    inn : y < length rs
    turn : rises (run_at rs y) ≢ rises (run_at rs x)
    alike : key ks x ≡ key ks y
    all : (z : ℕ) → z < length rs → key ks x ≡ key ks z → (z ≡ x) ⊎ (z ≡ y)

  pair_cases : (z u v : ℕ) → z ∈ (u ∷ v ∷ []) → (z ≡ u) ⊎ (z ≡ v)
  pair_cases z u v m = ⊎_elim (λ e. inl e) (λ k. ⊎_elim (λ e. inr e) (λ k. none z k) (cases_in z v [] k)) (cases_in z u (v ∷ []) m)

  differ : (m n : ℕ) → eqb m n ≡ false → m ≢ n
  differ m n e q = subst T (ap (eqb m) q ∙ e) (eqb_refl m)

  other_of : (x u v : ℕ) → x < length rs → users ks x ≡ u ∷ v ∷ [] → rises (run_at rs u) ≢ rises (run_at rs v) → Other x
  other_of x u v h e n = ⊎_elim
      (λ q. record {
        y = v;
        inn = at_v.0;
        turn = λ r. n (sym (r ∙ ap (λ k. rises (run_at rs k)) q));
        alike = at_v.1;
        all = λ z l k. ⊎_elim (λ w. inl (w ∙ sym q)) (λ w. inr w) (pair_cases z u v (rw e at (users_has ks x z (omega (arith, size)) k)));
      })
      (λ q. record {
        y = u;
        inn = at_u.0;
        turn = λ r. n (r ∙ ap (λ k. rises (run_at rs k)) q);
        alike = at_u.1;
        all = λ z l k. ⊎_elim (λ w. inr w) (λ w. inl (w ∙ sym q)) (pair_cases z u v (rw e at (users_has ks x z (omega (arith, size)) k)));
      })
      (pair_cases x u v (rw e at (users_has ks x x (omega (arith, size)) refl)))
    where
      at_u : (u < length rs) × (key ks x ≡ key ks u)
      at_u = let m = users_all ks x u (rw e (here u (v ∷ []))) in (omega (arith, size, m.0), m.1)

      at_v : (v < length rs) × (key ks x ≡ key ks v)
      at_v = let m = users_all ks x v (rw e (there v u (v ∷ []) (here v []))) in (omega (arith, size, m.0), m.1)

  other : (x : ℕ) → x < length rs → Other x
  unfolding judge_edge
  other x h = go (users ks x) refl (judged x h)
    where
      go : (l : List ℕ) → users ks x ≡ l → judge_edge rs l ≡ Ok tt → Other x
      go [] e j = never_ok j
      go (u ∷ []) e j = never_ok j
      go (u ∷ v ∷ []) e j = other_of x u v h e (differ (rises (run_at rs u)) (rises (run_at rs v))
          (or_false (eqb (run_at rs u).face (run_at rs v).face) (eqb (rises (run_at rs u)) (rises (run_at rs v))) (unless_ok _ 20 (Ok tt) tt j).0).1)
      go (u ∷ v ∷ w ∷ l) e j = never_ok j

  -- Two runs that go the same way are one.
  unique : (x z : ℕ) → x < length rs → z < length rs → (run_at rs x).tail ≡ (run_at rs z).tail → (run_at rs x).tip ≡ (run_at rs z).tip → z ≡ x
  unique x z hx hz p q = ⊎_elim (λ e. e) (λ e. absurd ((other x hx).turn (sym (rises_eq ∙ ap (λ k. rises (run_at rs k)) e)))) ((other x hx).all z hz (at_key x hx ∙ key_eq ∙ sym (at_key z hz)))
    where
      key_eq : min (run_at rs x).tail (run_at rs x).tip ∷ max (run_at rs x).tail (run_at rs x).tip ∷ [] ≡ min (run_at rs z).tail (run_at rs z).tip ∷ max (run_at rs z).tail (run_at rs z).tip ∷ []
      key_eq = cc

      rises_eq : rises (run_at rs x) ≡ rises (run_at rs z)
      rises_eq = cc

  once_at : (a d x : ℕ) → x < length rs → a ≡ (run_at rs x).tail → d ≡ (run_at rs x).tip → sum (goes a d) rs ≤ 1
  once_at a d x h p q = omega (arith, full_list (goes a d) no_run rs, goes_le a d (run_at rs x), full_only (λ z. goes a d (run_at rs z)) (length rs) x h (λ z l n. not_at z l n))
    where
      not_at : (z : ℕ) → z < length rs → z ≢ x → goes a d (run_at rs z) ≡ 0
      not_at z l n = go (dec_le 1 (goes a d (run_at rs z)))
        where
          go : Dec (1 ≤ goes a d (run_at rs z)) → goes a d (run_at rs z) ≡ 0
          go (yes g) = let e = goes_of a d (run_at rs z) g in absurd (n (unique x z h l (sym p ∙ e.0) (sym q ∙ e.1)))
          go (no g) = omega arith

  both_at : (a d x : ℕ) → x < length rs → a ≡ (run_at rs x).tail → d ≡ (run_at rs x).tip → 1 ≤ sum (goes d a) rs
  both_at a d x h p q = go (other x h)
    where
      go : Other x → 1 ≤ sum (goes d a) rs
      go o = omega (arith, full_list (goes d a) no_run rs, full_at_least (λ z. goes d a (run_at rs z)) (length rs) o.y o.inn, met)
        where
          b : ((run_at rs x).tail ≡ (run_at rs o.y).tip) × ((run_at rs x).tip ≡ (run_at rs o.y).tail)
          b = back x o.y h o.inn o.alike (λ e. o.turn (sym e))

          met : goes d a (run_at rs o.y) ≡ 1
          met = rw (p ∙ b.0, q ∙ b.1) (goes_is (run_at rs o.y))

  found : (a d : ℕ) → 1 ≤ sum (goes a d) rs → (x : ℕ) × (x < length rs) × (a ≡ (run_at rs x).tail) × (d ≡ (run_at rs x).tip)
  found a d h =
      let r = full_find (λ x. goes a d (run_at rs x)) (length rs) (omega (arith, full_list (goes a d) no_run rs)) in
      let p = goes_of a d (run_at rs r.0) r.2 in
      (r.0, r.1, p.0, p.1)

  pub once : (a d : ℕ) → sum (goes a d) rs ≤ 1
  once a d = go (dec_le 1 (sum (goes a d) rs))
    where
      go : Dec (1 ≤ sum (goes a d) rs) → sum (goes a d) rs ≤ 1
      go (no h) = omega arith
      go (yes h) = let r = found a d h in once_at a d r.0 r.1 r.2 r.3

  both : (a d : ℕ) → 1 ≤ sum (goes a d) rs → 1 ≤ sum (goes d a) rs
  both a d h = let r = found a d h in both_at a d r.0 r.1 r.2 r.3

  pub each_way : (a d : ℕ) → sum (goes a d) rs ≡ sum (goes d a) rs
  each_way a d = go (dec_le 1 (sum (goes a d) rs)) (dec_le 1 (sum (goes d a) rs))
    where
      go : Dec (1 ≤ sum (goes a d) rs) → Dec (1 ≤ sum (goes d a) rs) → sum (goes a d) rs ≡ sum (goes d a) rs
      go (yes h) k = omega (arith, once a d, once d a, both a d h)
      go (no h) (yes k) = absurd (h (both d a k))
      go (no h) (no k) = omega arith

  -- no edge goes from a vertex to itself
  no_loop_at : (a x : ℕ) → x < length rs → a ≡ (run_at rs x).tail → a ≡ (run_at rs x).tip → ⊥
  no_loop_at a x h p q = go (other x h)
    where
      go : Other x → ⊥
      go o = o.turn same
        where
          b : ((run_at rs x).tail ≡ (run_at rs o.y).tip) × ((run_at rs x).tip ≡ (run_at rs o.y).tail)
          b = back x o.y h o.inn o.alike (λ e. o.turn (sym e))

          same : rises (run_at rs o.y) ≡ rises (run_at rs x)
          same = ap₂ less (sym b.1 ∙ sym q ∙ p) (sym b.0 ∙ sym p ∙ q)

  pub no_loop : (a : ℕ) → sum (goes a a) rs ≡ 0
  no_loop a = go (dec_le 1 (sum (goes a a) rs))
    where
      go : Dec (1 ≤ sum (goes a a) rs) → sum (goes a a) rs ≡ 0
      go (yes h) = let r = found a a h in absurd (no_loop_at a r.0 r.1 r.2 r.3)
      go (no h) = omega arith

ran_runs : (fs : List Facet) (a d p : ℕ) (l : List ℕ) → sum (goes a d) (runs fs p l) ≡ ran fs a d l
unfolding runs sum
ran_runs fs a d p [] = refl
ran_runs fs a d p (i ∷ l) = omega (
  arith,
  sum_append (goes a d) (map (run_of p) (cyclic (vertices_of fs i))) (runs fs (suc p) l),
  sum_map (goes a d) (run_of p) (cyclic (vertices_of fs i)),
  ran_runs fs a d (suc p) l,
)

-- Each edge of a body is run once each way.
pub body_edges : (volume : List ℕ → Outcome Sense) (fs : List Facet) (c : List ℕ) (b : List (List ℕ)) → BodyMade volume fs c b → (a d : ℕ) →
    (sum (ran fs a d) b ≤ 1) × (sum (ran fs a d) b ≡ sum (ran fs d a) b) × (sum (ran fs a a) b ≡ 0)
body_edges volume fs c b m a d =
    let faces = faces_of fs c in
    let fine = m.edges_fine in
    let f : (a d : ℕ) → sum (ran fs a d) b ≡ ran fs a d faces = λ a d. m.weight (λ i. runs_edge fs i a d) in (
      omega (arith, f a d, ran_runs fs a d 0 faces, once (runs fs 0 faces) fine a d),
      omega (arith, f a d, f d a, ran_runs fs a d 0 faces, ran_runs fs d a 0 faces, each_way (runs fs 0 faces) fine a d),
      omega (arith, f a a, ran_runs fs a a 0 faces, no_loop (runs fs 0 faces) fine a),
    )
