-- `components` finds the connected classes: each node in one group, once.
use Rattle.std.specs.Prelude.{◌≡◌, refl, ◌⊎◌, ◌≢◌, length, get_or, set, replicate}
use Rattle.std.proofs.Common.{ap, ◌∙◌, subst, inl, inr, ⊎_elim, length-set}
use mathlib.Core.List.{List, [], ◌∷◌}
use Prim.Native.Nat.{ℕ, zero, suc, ◌+◌, ◌≤◌, ◌<◌}
use native.Mathlib.Omega.{arith}
use Rattle.std.proofs.Math.Decide.{dec_le, dec_lt}
use Rattle.std.proofs.lemmas.List.{length-replicate, get_or-replicate}
use Rattle.sums.specs.Sum.{sum, hit, hit_cases, occ, flagged, open', flagged_set, closed_set, ◌∈◌, All, Each, none, here, there, cases_in, all_cons, seen_set, seen_keep, flag_le, flag_set, flag_of, full, flagged_all, flagged_zero, open_le, some_of}
use mathlib.Mathlib.Logic.Relation.ReflTransGenᴰ
use mathlib.Mathlib.Logic.Relation.{ReflTransGenᴰ}
use Rattle.sums.specs.Components.{St, start, components, comps, gather, visits, visit, visit'}
use Rattle.sums.specs.ComponentLaws.{Kept, Reach, Class, Ascend, Graph, Components}

-- of two neighbours the one pushed last is taken first
last_first : components 4 (λ i. elim i [ zero ↦ 2 ∷ 3 ∷ [] | suc _ ↦ 0 ∷ [] ]) ≡ (0 ∷ 3 ∷ 2 ∷ []) ∷ (1 ∷ []) ∷ []
unfolding components comps gather visits visit visit'
last_first = refl

visit_keeps : (f : ℕ → ℕ) (j : ℕ) (st : St) → Kept f st (visit j st)
unfolding visit visit' sum
visit_keeps f j st = go (get_or st.seen j 1) refl
  where
    go : (k : ℕ) → get_or st.seen j 1 ≡ k → Kept f st (visit' k j st)
    go zero e = record { weight = omega (arith, flagged_set f st.seen j e); turns = omega (arith, closed_set st.seen j e); size = length-set st.seen j 1 }
    go (suc k) e = record { weight = refl; turns = refl; size = refl }

pub visits_keep : (f : ℕ → ℕ) (js : List ℕ) (st : St) → Kept f st (visits js st)
unfolding visits
visits_keep f [] st = record { weight = refl; turns = refl; size = refl }
visits_keep f (j ∷ js) st =
    let a = visit_keeps f j st in
    let b = visits_keep f js (visit j st) in
    record { weight = omega arith; turns = omega arith; size = omega arith }

gather_weight : (adj : ℕ → List ℕ) (f : ℕ → ℕ) (n : ℕ) (s w : List ℕ) → sum open' s + length w ≤ n →
    sum f (gather adj n (record { seen = s; work = w })).group + flagged f s ≡ sum f w + flagged f (gather adj n (record { seen = s; work = w })).seen
unfolding gather sum
gather_weight adj f zero s [] h = refl
gather_weight adj f zero s (i ∷ w) h = absurd (omega arith)
gather_weight adj f (suc n) s [] h = refl
gather_weight adj f (suc n) s (i ∷ w) h =
    let st = visits (adj i) (record { seen = s; work = w }) in
    let k = visits_keep f (adj i) (record { seen = s; work = w }) in
    omega (arith, k.weight, gather_weight adj f n st.seen st.work (omega (arith, k.turns)))

-- What is seen stays seen, and what a visit names is seen after it.
visit_seen : (x j : ℕ) (st : St) → 1 ≤ get_or st.seen x 1 → 1 ≤ get_or (visit j st).seen x 1
unfolding visit visit'
visit_seen x j st h = go (get_or st.seen j 1)
  where
    go : (k : ℕ) → 1 ≤ get_or (visit' k j st).seen x 1
    go zero = seen_keep st.seen j x h
    go (suc k) = h

visit_sees : (j : ℕ) (st : St) → 1 ≤ get_or (visit j st).seen j 1
unfolding visit visit'
visit_sees j st = go (get_or st.seen j 1) refl
  where
    go : (k : ℕ) → get_or st.seen j 1 ≡ k → 1 ≤ get_or (visit' k j st).seen j 1
    go zero e = seen_set st.seen j
    go (suc k) e = omega arith

visits_seen : (x : ℕ) (js : List ℕ) (st : St) → 1 ≤ get_or st.seen x 1 → 1 ≤ get_or (visits js st).seen x 1
unfolding visits
visits_seen x [] st h = h
visits_seen x (j ∷ js) st h = visits_seen x js (visit j st) (visit_seen x j st h)

visits_see : (js : List ℕ) (st : St) → All (λ j. 1 ≤ get_or (visits js st).seen j 1) js
unfolding visits
visits_see [] st x h = none x h
visits_see (j ∷ js) st x h = ⊎_elim (λ e. rw e (visits_seen j js (visit j st) (visit_sees j st))) (λ m. visits_see js (visit j st) x m) (cases_in x j js h)

gather_seen : (adj : ℕ → List ℕ) (x n : ℕ) (s w : List ℕ) → 1 ≤ get_or s x 1 → 1 ≤ get_or (gather adj n (record { seen = s; work = w })).seen x 1
unfolding gather
gather_seen adj x zero s w h = h
gather_seen adj x (suc n) s [] h = h
gather_seen adj x (suc n) s (i ∷ w) h =
    let st = visits (adj i) (record { seen = s; work = w }) in
    gather_seen adj x n st.seen st.work (visits_seen x (adj i) (record { seen = s; work = w }) h)

-- All neighbours of the group are seen after the walk.
gather_sees : (adj : ℕ → List ℕ) (n : ℕ) (s w : List ℕ) (x j : ℕ) → x ∈ (gather adj n (record { seen = s; work = w })).group → j ∈ adj x →
    1 ≤ get_or (gather adj n (record { seen = s; work = w })).seen j 1
unfolding gather
gather_sees adj zero s w x j h a = none x h
gather_sees adj (suc n) s [] x j h a = none x h
gather_sees adj (suc n) s (i ∷ w) x j h a =
    let st = visits (adj i) (record { seen = s; work = w }) in
    ⊎_elim
    (λ e. gather_seen adj j n st.seen st.work (visits_see (adj i) (record { seen = s; work = w }) j (subst (λ (y : ℕ). j ∈ adj y) e a)))
    (λ m. gather_sees adj n st.seen st.work x j m a)
    (cases_in x i (gather adj n st).group h)

-- A property that goes from a node to its neighbours goes from the work to the group.
module _ (adj : ℕ → List ℕ) (P : ℕ → Type 0) (step : (i j : ℕ) → P i → j ∈ adj i → P j) where
  visit_all : (j : ℕ) (st : St) → P j → All P st.work → All P (visit j st).work
  unfolding visit visit'
  visit_all j st p a = go (get_or st.seen j 1)
    where
      go : (k : ℕ) → All P (visit' k j st).work
      go zero = all_cons P j st.work p a
      go (suc k) = a

  visits_all : (js : List ℕ) (st : St) → All P js → All P st.work → All P (visits js st).work
  unfolding visits
  visits_all [] st ps a = a
  visits_all (j ∷ js) st ps a = visits_all js (visit j st) (λ x h. ps x (there x j js h)) (visit_all j st (ps j (here j js)) a)

  gather_all : (n : ℕ) (s w : List ℕ) → All P w → All P (gather adj n (record { seen = s; work = w })).group
  unfolding gather
  gather_all zero s w a = λ x h. none x h
  gather_all (suc n) s [] a = λ x h. none x h
  gather_all (suc n) s (i ∷ w) a =
      let p = a i (here i w) in
      let st = visits (adj i) (record { seen = s; work = w }) in
      all_cons P i (gather adj n st).group p
      (gather_all n st.seen st.work (visits_all (adj i) (record { seen = s; work = w }) (λ j h. step i j p h) (λ x h. a x (there x i w h))))

-- One step of `comps`, by the root's flag.
pub comps_new : (adj : ℕ → List ℕ) (n k r : ℕ) (s : List ℕ) → get_or s r 1 ≡ 0 →
    comps adj n (suc k) r s ≡ (gather adj n (start s r)).group ∷ comps adj n k (suc r) (gather adj n (start s r)).seen
unfolding comps
comps_new adj n k r s e = rw (e, comps)

pub comps_old : (adj : ℕ → List ℕ) (n k r : ℕ) (s : List ℕ) (b : ℕ) → get_or s r 1 ≡ suc b → comps adj n (suc k) r s ≡ comps adj n k (suc r) s
unfolding comps
comps_old adj n k r s b e = rw (e, comps)

-- What a root that is not seen gives.
module _ (adj : ℕ → List ℕ) (n r : ℕ) (s : List ℕ) (size : length s ≡ n) (new : get_or s r 1 ≡ 0) where
  pub root_weight : (f : ℕ → ℕ) → sum f (gather adj n (start s r)).group + flagged f s ≡ flagged f (gather adj n (start s r)).seen
  unfolding sum
  root_weight f = omega (arith, gather_weight adj f n (set s r 1) (r ∷ []) (omega (arith, closed_set s r new, open_le s)), flagged_set f s r new)

gather_size : (adj : ℕ → List ℕ) (n : ℕ) (s w : List ℕ) → length (gather adj n (record { seen = s; work = w })).seen ≡ length s
unfolding gather
gather_size adj zero s w = refl
gather_size adj (suc n) s [] = refl
gather_size adj (suc n) s (i ∷ w) =
    let st = visits (adj i) (record { seen = s; work = w }) in
    gather_size adj n st.seen st.work ∙ (visits_keep (λ _. 0) (adj i) (record { seen = s; work = w })).size

pub root_size : (adj : ℕ → List ℕ) (n r : ℕ) (s : List ℕ) → length (gather adj n (start s r)).seen ≡ length s
root_size adj n r s = gather_size adj n (set s r 1) (r ∷ []) ∙ length-set s r 1

root_keeps : (adj : ℕ → List ℕ) (n r : ℕ) (s : List ℕ) (x : ℕ) → 1 ≤ get_or s x 1 → 1 ≤ get_or (gather adj n (start s r)).seen x 1
root_keeps adj n r s x h = gather_seen adj x n (set s r 1) (r ∷ []) (seen_keep s r x h)

root_sees : (adj : ℕ → List ℕ) (n r : ℕ) (s : List ℕ) (x : ℕ) → x < suc r → ((y : ℕ) → y < r → 1 ≤ get_or s y 1) → 1 ≤ get_or (gather adj n (start s r)).seen x 1
root_sees adj n r s x l below = go (hit_cases x r)
  where
    go : ((x ≡ r) × (hit x r ≡ 1)) ⊎ ((x ≢ r) × (hit x r ≡ 0)) → 1 ≤ get_or (gather adj n (start s r)).seen x 1
    go (inl c) = rw c.0 (gather_seen adj r n (set s r 1) (r ∷ []) (seen_set s r))
    go (inr c) = root_keeps adj n r s x (below x (omega (arith, c.0)))

old_below : (r : ℕ) (s : List ℕ) (b : ℕ) → get_or s r 1 ≡ suc b → ((y : ℕ) → y < r → 1 ≤ get_or s y 1) → (y : ℕ) → y < suc r → 1 ≤ get_or s y 1
old_below r s b e below y l = go (hit_cases y r)
  where
    go : ((y ≡ r) × (hit y r ≡ 1)) ⊎ ((y ≢ r) × (hit y r ≡ 0)) → 1 ≤ get_or s y 1
    go (inl c) = rw c.0 (omega arith)
    go (inr c) = below y (omega (arith, c.0))

-- so none of them is empty
pub none_empty : (b : ℕ) (gs : List (List ℕ)) → Ascend b gs → Each (λ g. 0 < length g) gs
none_empty b [] w = tt
none_empty b (g ∷ gs) w = (omega (arith, ap length w.2), none_empty (suc w.0) gs w.5)

-- What is seen before a root is taken: every earlier node, and with a node its neighbours.
record Past (adj : ℕ → List ℕ) (n r : ℕ) (s : List ℕ) : Type 0 where
  size : length s ≡ n
  below : (x : ℕ) → x < r → 1 ≤ get_or s x 1
  closed : (x y : ℕ) → x < n → 1 ≤ get_or s x 1 → y ∈ adj x → 1 ≤ get_or s y 1

module _ (adj : ℕ → List ℕ) (n r : ℕ) (s : List ℕ) (G : Graph n adj) (past : Past adj n r s) (new : get_or s r 1 ≡ 0) where
  g : List ℕ
  g = (gather adj n (start s r)).group

  s' : List ℕ
  s' = (gather adj n (start s r)).seen

  -- a node is in the group, was seen before, or is not seen yet
  node : (x : ℕ) → occ x g + flagged (hit x) s ≡ flagged (hit x) s'
  unfolding g s'
  node x = root_weight adj n r s past.size new (hit x)

  size' : length s' ≡ n
  unfolding s'
  size' = root_size adj n r s ∙ past.size

  -- what is seen after the walk is in the group, or was seen before
  fresh : (x : ℕ) → x < n → 1 ≤ get_or s' x 1 → (1 ≤ get_or s x 1) ⊎ x ∈ g
  fresh x l b = go (dec_le 1 (get_or s x 1))
    where
      z : flagged (hit x) s' ≡ 1
      z = flag_set x s' (omega (arith, size')) b

      go : Dec (1 ≤ get_or s x 1) → (1 ≤ get_or s x 1) ⊎ x ∈ g
      go (yes h) = inl h
      go (no h) = ⊎_elim (λ (c : (1 ≤ flagged (hit x) s)). inl (flag_of x s c).1) (λ c. inr c) (some_of (flagged (hit x) s) (occ x g) (omega (arith, node x, z)))

  -- a node of the group is a node, and was not seen before
  inside : (x : ℕ) → x ∈ g → (x < n) × (get_or s x 1 ≡ 0)
  inside x h = (l, none_seen (dec_le 1 (get_or s x 1)))
    where
      l : x < n
      l = omega (arith, (flag_of x s' (omega (arith, node x))).0, size')

      none_seen : Dec (1 ≤ get_or s x 1) → get_or s x 1 ≡ 0
      none_seen (yes b) = absurd (omega (arith, node x, flag_le x s', flag_set x s (omega (arith, l, past.size)) b))
      none_seen (no b) = omega arith

  neighbour_seen : (x y : ℕ) → x ∈ g → y ∈ adj x → 1 ≤ get_or s' y 1
  unfolding g s'
  neighbour_seen x y h a = gather_sees adj n (set s r 1) (r ∷ []) x y h a

  -- a neighbour of the group is in the group
  spreads : (x y : ℕ) → x ∈ g → y ∈ adj x → y ∈ g
  spreads x y h a = ⊎_elim
      (λ b. absurd (omega (arith, (inside x h).1, past.closed y x (G.inside x y a) b (G.both x y a))))
      (λ m. m)
      (fresh y (G.inside x y a) (neighbour_seen x y h a))

  reaches_in : (x y : ℕ) → x ∈ g → Reach adj x y → y ∈ g
  reaches_in x y h ReflTransGenᴰ.refl = h
  reaches_in x y h (ReflTransGenᴰ.tail {b = z} p a) = spreads z y (reaches_in x z h p) a

  from_root : All (Reach adj r) g
  unfolding g
  from_root = gather_all adj (Reach adj r) (λ i j p a. ReflTransGenᴰ.tail p a) n (set s r 1) (r ∷ [])
      (all_cons (Reach adj r) r [] ReflTransGenᴰ.refl (λ x h. none x h))

  class : Class adj g
  class x y h = (λ m. ReflTransGenᴰ.trans (ReflTransGenᴰ.symm (record { symm = λ i j a. G.both i j a }) (from_root x h)) (from_root y m), λ p. reaches_in x y h p)

  kept : (x : ℕ) → 1 ≤ get_or s x 1 → 1 ≤ get_or s' x 1
  unfolding s'
  kept x b = root_keeps adj n r s x b

  past' : Past adj n (suc r) s'
  past' = record { size = size'; below = below'; closed = closed' }
    where
      below' : (x : ℕ) → x < suc r → 1 ≤ get_or s' x 1
      below' = unfold s' in (λ x l. root_sees adj n r s x l past.below)

      closed' : (x y : ℕ) → x < n → 1 ≤ get_or s' x 1 → y ∈ adj x → 1 ≤ get_or s' y 1
      closed' x y l b a = ⊎_elim (λ c. kept y (past.closed x y l c a)) (λ m. neighbour_seen x y m a) (fresh x l b)

  lowest : All (λ x. r ≤ x) g
  lowest x h = go (dec_lt x r)
    where
      go : Dec (x < r) → r ≤ x
      go (yes l) = absurd (omega (arith, (inside x h).1, past.below x l))
      go (no l) = omega arith

-- the group begins with its root
head : (adj : ℕ → List ℕ) (m r : ℕ) (s : List ℕ) → 1 ≤ m → (rest : List ℕ) × ((gather adj m (start s r)).group ≡ r ∷ rest)
unfolding gather
head adj zero r s h = absurd (omega arith)
head adj (suc m) r s h = ((gather adj m (visits (adj r) (record { seen = set s r 1; work = [] }))).group, refl)

-- What `comps` gives from a root on.
record Found (adj : ℕ → List ℕ) (n r : ℕ) (s : List ℕ) (gs : List (List ℕ)) : Type 0 where
  weight : (f : ℕ → ℕ) → sum (sum f) gs + flagged f s ≡ full f n
  classes : Each (Class adj) gs
  ascend : Ascend r gs

ascend_down : (r : ℕ) (gs : List (List ℕ)) → Ascend (suc r) gs → Ascend r gs
ascend_down r [] a = tt
ascend_down r (g ∷ gs) a = (a.0, a.1, a.2, omega (arith, a.3), a.4, a.5)

step_found : (adj : ℕ → List ℕ) (n k r : ℕ) (s : List ℕ) → Graph n adj → suc r ≤ n → Past adj n r s →
    ((s₁ : List ℕ) → Past adj n (suc r) s₁ → Found adj n (suc r) s₁ (comps adj n k (suc r) s₁)) →
    (b : ℕ) → get_or s r 1 ≡ b → Found adj n r s (comps adj n (suc k) r s)
step_found adj n k r s G l past ih zero e =
    let q = ih (gather adj n (start s r)).seen (unfold s' in past' adj n r s G past e) in
    let hd = head adj n r s (omega arith) in
    rw (comps_new adj n k r s e) (record {
      weight = λ f. unfold sum in omega (arith, root_weight adj n r s past.size e f, q.weight f);
      classes = (unfold g in class adj n r s G past e, q.classes);
      ascend = (r, hd.0, hd.1, omega arith, unfold g in lowest adj n r s G past e, q.ascend);
    })
step_found adj n k r s G l past ih (suc b) e =
    let q = ih s (record { size = past.size; below = old_below r s b e past.below; closed = past.closed }) in
    rw (comps_old adj n k r s b e) (record { weight = q.weight; classes = q.classes; ascend = ascend_down r (comps adj n k (suc r) s) q.ascend })

comps_found : (adj : ℕ → List ℕ) (n k r : ℕ) (s : List ℕ) → Graph n adj → r + k ≡ n → Past adj n r s → Found adj n r s (comps adj n k r s)
unfolding comps sum
comps_found adj n zero r s G p past = record { weight = λ f. omega (arith, flagged_all f s (λ x l. past.below x (omega (arith, past.size))) ∙ ap (full f) past.size); classes = tt; ascend = tt }
comps_found adj n (suc k) r s G p past = step_found adj n k r s G (omega arith) past (λ s₁ q. comps_found adj n k (suc r) s₁ G (omega arith) q) (get_or s r 1) refl

replicate_open : (n x : ℕ) → x < n → ◌≡◌ {A = ℕ} (get_or (replicate n 0) x 1) 0
replicate_open n x h = get_or-replicate n x 0 1 h

pub components_found : (n : ℕ) (adj : ℕ → List ℕ) → Graph n adj → Components n adj (components n adj)
unfolding components
components_found n adj G =
    let q = comps_found adj n n 0 (replicate n 0) G (omega arith) (record {
      size = length-replicate n 0;
      below = λ x l. absurd (omega arith);
      closed = λ x y l b a. absurd (omega (arith, replicate_open n x l));
    }) in
    record { once = λ f. omega (arith, q.weight f, flagged_zero f n); classes = q.classes; ascend = q.ascend }
