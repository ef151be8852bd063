-- Two facets of a body are in one shell exactly when they connect through edges inside that body.
use Rattle.std.proofs.Math.Path.{◌≡◌, sym, ap, subst}
use Rattle.std.specs.Prelude.{refl, ◌⊎◌, ◌≢◌, get_or, Ok}
use Rattle.std.proofs.Common.{◌∙◌, inl, inr}
use Rattle.std.proofs.Math.Logic.{⊎_elim}
use mathlib.Core.List.{List, [], ◌∷◌, map, head-eq_of_cons-eq, tail-eq_of_cons-eq}
use mathlib.Mathlib.Logic.Relation.{ReflTransGenᴰ}
use Prim.Native.Nat.{ℕ, zero, suc, ◌+◌, ◌≤◌, ◌<◌, min, max}
use native.Mathlib.Omega.{arith}
use Rattle.std.proofs.Math.Decide.{dec_lt, dec_le}
use Rattle.std.proofs.Math.ListN.{length}
use Rattle.std.proofs.lemmas.List.{length-map}
use Rattle.lists.specs.Walks.{Pair, cyclic}
use Rattle.sums.specs.Sum.{sum, hit, hit_cases, hit_same, occ, pick, full, ◌∈◌, Each, none, here, there, cases_in}
use Rattle.sums.specs.Components.{components}
use Rattle.sums.specs.ComponentLaws.{Components, Reach, Class}
use Rattle.sums.proofs.ComponentLaws.{components_found}
use Rattle.sums.specs.Keys.{key, users}
use Rattle.sums.proofs.KeyLaws.{sum_append, sum_map, full_find, full_list, full_get_d, full_zero, full_at_least, get_d_map_lt, each_map, each_append, each_imp, each_get_d, each_both, pick_both}
use Rattle.sums.specs.MeetLaws.{Meet, Two}
use Rattle.sums.proofs.MeetLaws.{near_meet, meet_near}
use Rattle.bodies.specs.Fusing.{Facet, vertices_of, faces_of, Run, no_run, run_at, run_of, runs, edge_keys, edges, neighbors, judge_edge, check_edges, shells_of}
use Rattle.bodies.proofs.ListLaws.{edges_graph}
use Rattle.bodies.specs.EdgeLaws.{goes, runs_edge}
use Rattle.bodies.proofs.EdgeLaws.{goes_of, edge_judged}
use Rattle.bodies.specs.ShellLaws.{Touch, OneShell}

-- places of a list of numbers
pub place_of : (l : List ℕ) (i : ℕ) → i ∈ l → (p : ℕ) × (p < length l) × (get_or l p 0 ≡ i)
place_of l i m =
    let r = full_find (λ p. hit i (get_or l p 0)) (length l) (omega (arith, full_get_d (hit i) l)) in
    (r.0, r.1, ⊎_elim (λ c. sym c.0) (λ c. absurd (omega (arith, c.1, r.2))) (hit_cases i (get_or l r.0 0)))

pub place_in : (l : List ℕ) (p : ℕ) → p < length l → get_or l p 0 ∈ l
place_in l p h = omega (arith, full_get_d (hit (get_or l p 0)) l, full_at_least (λ q. hit (get_or l p 0) (get_or l q 0)) (length l) p h, hit_same (get_or l p 0))

-- an edge of a list of edges stands in it
abbrev stands : ℕ → ℕ → List (Pair ℕ) → ℕ
stands a d es = sum (λ e. pick (hit a e.from) (hit d e.to)) es

stands_self : (es : List (Pair ℕ)) → Each (λ e. 1 ≤ stands e.from e.to es) es
unfolding sum pick
stands_self [] = tt
stands_self (x ∷ es) = (omega (arith, one), each_imp (λ e. 1 ≤ stands e.from e.to es) (λ e. 1 ≤ stands e.from e.to (x ∷ es)) es (λ e h. omega arith) (stands_self es))
  where
    one : pick (hit x.from x.from) (hit x.to x.to) ≡ 1
    one = rw (hit_same x.from) (hit_same x.to)

-- The runs of the facet at a place.
module _ (fs : List Facet) where
  abbrev at_face : ℕ → ℕ → ℕ → Run → ℕ
  at_face q a d r = pick (hit q r.face) (goes a d r)

  runs_at : (k p q : ℕ) (l : List ℕ) (a d : ℕ) → q ≡ k + p → p < length l → runs_edge fs (get_or l p 0) a d ≤ sum (at_face q a d) (runs fs k l)
  unfolding runs
  runs_at k p q [] a d e h = absurd (omega arith)
  runs_at k zero q (i ∷ l) a d e h = omega (
    arith,
    sum_append (at_face q a d) (map (run_of k) (cyclic (vertices_of fs i))) (runs fs (suc k) l),
    sum_map (at_face q a d) (run_of k) (cyclic (vertices_of fs i)),
    here_at,
  )
    where
      at_k : q ≡ k
      at_k = omega arith

      here_at : sum (λ (x : Pair ℕ). pick (hit q k) (pick (hit a x.from) (hit d x.to))) (cyclic (vertices_of fs i)) ≡ runs_edge fs i a d
      here_at = unfold pick in (rw (at_k, hit_same k) refl)
  runs_at k (suc p) q (i ∷ l) a d e h = omega (
    arith,
    sum_append (at_face q a d) (map (run_of k) (cyclic (vertices_of fs i))) (runs fs (suc k) l),
    runs_at (suc k) p q l a d (omega arith) (omega arith),
  )

  -- what a run of a body is
  record Known (k : ℕ) (l : List ℕ) (r : Run) : Type 0 where
    p : ℕ
    p_in : p < length l
    face_is : r.face ≡ k + p
    in_ring : 1 ≤ runs_edge fs (get_or l p 0) r.tail r.tip

  runs_known : (k : ℕ) (l : List ℕ) → Each (Known k l) (runs fs k l)
  unfolding runs
  runs_known k [] = tt
  runs_known k (i ∷ l) = each_append (Known k (i ∷ l)) (map (run_of k) (cyclic (vertices_of fs i))) (runs fs (suc k) l)
      (each_map (Known k (i ∷ l)) (run_of k) (cyclic (vertices_of fs i))
      (each_imp (λ e. 1 ≤ stands e.from e.to (cyclic (vertices_of fs i))) (λ e. Known k (i ∷ l) (run_of k e)) (cyclic (vertices_of fs i))
      (λ e h. record { p = 0; p_in = omega arith; face_is = omega arith; in_ring = h }) (stands_self (cyclic (vertices_of fs i)))))
      (each_imp (Known (suc k) l) (Known k (i ∷ l)) (runs fs (suc k) l)
      (λ r q. record { p = suc q.p; p_in = omega (arith, q.p_in); face_is = omega (arith, q.face_is); in_ring = q.in_ring }) (runs_known (suc k) l))

-- Touching facets are neighbours.
module _ (fs : List Facet) (faces : List ℕ) (fine : check_edges (runs fs 0 faces) ≡ Ok tt) where
  rs : List Run
  rs = runs fs 0 faces

  face : ℕ → ℕ
  face x = (run_at rs x).face

  two_runs : (l : List ℕ) → judge_edge rs l ≡ Ok tt → length l ≤ 2
  unfolding judge_edge
  two_runs [] e = omega arith
  two_runs (a ∷ []) e = omega arith
  two_runs (a ∷ b ∷ []) e = omega arith
  two_runs (a ∷ b ∷ c ∷ l) e = let z : ◌≡◌ {A = ℕ} 0 1 = cc in absurd (omega arith)

  size : length (edge_keys rs) ≡ length rs
  size = length-map rs _

  two : Two (edge_keys rs)
  unfolding rs
  two i h = two_runs (users (edge_keys rs) i) (edge_judged rs fine i (omega (arith, size)))

  at_key : (x : ℕ) → x < length rs → key (edge_keys rs) x ≡ min (run_at rs x).tail (run_at rs x).tip ∷ max (run_at rs x).tail (run_at rs x).tip ∷ []
  at_key x h = get_d_map_lt (λ r. min r.tail r.tip ∷ max r.tail r.tip ∷ []) rs no_run [] x h

  -- a run of the facet at p along a and d
  record Found (p a d : ℕ) : Type 0 where
    x : ℕ
    x_in : x < length rs
    on : face x ≡ p
    edge : key (edge_keys rs) x ≡ min a d ∷ max a d ∷ []

  found_at : (p a d x : ℕ) → x < length rs → 1 ≤ at_face fs p a d (run_at rs x) → Found p a d
  unfolding face
  found_at p a d x h m =
      let b = pick_both (hit p (run_at rs x).face) (goes a d (run_at rs x)) m in
      let g = goes_of a d (run_at rs x) b.1 in
      record {
        x = x;
        x_in = h;
        on = ⊎_elim (λ c. sym c.0) (λ c. absurd (omega (arith, c.1, b.0))) (hit_cases p (run_at rs x).face);
        edge = at_key x h ∙ ap (λ t. min t (run_at rs x).tip ∷ max t (run_at rs x).tip ∷ []) (sym g.0) ∙ ap (λ t. min a t ∷ max a t ∷ []) (sym g.1);
      }

  found_one : (p a d : ℕ) → p < length faces → 1 ≤ runs_edge fs (get_or faces p 0) a d → Found p a d
  unfolding rs
  found_one p a d h m =
      let r = full_find (λ x. at_face fs p a d (run_at rs x)) (length rs) (omega (arith, full_list (at_face fs p a d) no_run rs, runs_at fs 0 p p faces a d (omega arith) h)) in
      found_at p a d r.0 r.1 r.2

  flip_edge : (a d : ℕ) → min d a ∷ max d a ∷ [] ≡ min a d ∷ max a d ∷ []
  flip_edge a d = let p : min d a ≡ min a d = omega arith in let q : max d a ≡ max a d = omega arith in cc

  found : (p a d : ℕ) → p < length faces → 1 ≤ runs_edge fs (get_or faces p 0) a d + runs_edge fs (get_or faces p 0) d a → Found p a d
  found p a d h m = go (dec_le 1 (runs_edge fs (get_or faces p 0) a d))
    where
      go : Dec (1 ≤ runs_edge fs (get_or faces p 0) a d) → Found p a d
      go (yes k) = found_one p a d h k
      go (no k) = let f = found_one p d a h (omega arith) in record { x = f.x; x_in = f.x_in; on = f.on; edge = f.edge ∙ flip_edge a d }

  -- Touching facets at two places are neighbours, and the other way round.
  touch_meet : (p q : ℕ) → p < length faces → q < length faces → p ≢ q → Touch fs faces (get_or faces p 0) (get_or faces q 0) → Meet (edge_keys rs) face p q
  touch_meet p q hp hq ne t =
      let x = found p t.a t.d hp t.i_runs in
      let y = found q t.a t.d hq t.j_runs in
      record { x = x.x; y = y.x; x_in = omega (arith, x.x_in, size); y_in = omega (arith, y.x_in, size); apart = λ e. ne (sym x.on ∙ ap face e ∙ y.on); alike = x.edge ∙ sym y.edge; x_of = x.on; y_of = y.on }

  known : (x : ℕ) → x < length rs → Known fs 0 faces (run_at rs x)
  unfolding rs
  known x h = each_get_d (Known fs 0 faces) rs no_run x (runs_known fs 0 faces) h

  swap_edge : (a b c d : ℕ) → min a b ∷ max a b ∷ [] ≡ min c d ∷ max c d ∷ [] → ((a ≡ c) × (b ≡ d)) ⊎ ((a ≡ d) × (b ≡ c))
  swap_edge a b c d e = go (dec_lt a b) (dec_lt c d) (head-eq_of_cons-eq e) (head-eq_of_cons-eq (tail-eq_of_cons-eq e))
    where
      go : Dec (a < b) → Dec (c < d) → min a b ≡ min c d → max a b ≡ max c d → ((a ≡ c) × (b ≡ d)) ⊎ ((a ≡ d) × (b ≡ c))
      go (yes p) (yes q) m n = inl (omega arith)
      go (yes p) (no q) m n = inr (omega arith)
      go (no p) (yes q) m n = inr (omega arith)
      go (no p) (no q) m n = inl (omega arith)

  meet_touch : (p q : ℕ) → Meet (edge_keys rs) face p q → Touch fs faces (get_or faces p 0) (get_or faces q 0)
  unfolding face
  meet_touch p q m =
      let hx : m.x < length rs = omega (arith, m.x_in, size) in
      let hy : m.y < length rs = omega (arith, m.y_in, size) in
      let u = known m.x hx in
      let v = known m.y hy in
      let pu : u.p ≡ p = omega (arith, u.face_is, m.x_of) in
      let qv : v.p ≡ q = omega (arith, v.face_is, m.y_of) in
      let r = run_at rs m.x in
      let t = run_at rs m.y in
      let ru : 1 ≤ runs_edge fs (get_or faces p 0) r.tail r.tip = subst (λ k. 1 ≤ runs_edge fs (get_or faces k 0) r.tail r.tip) pu u.in_ring in
      let rv : 1 ≤ runs_edge fs (get_or faces q 0) t.tail t.tip = subst (λ k. 1 ≤ runs_edge fs (get_or faces k 0) t.tail t.tip) qv v.in_ring in
      record {
        a = r.tail;
        d = r.tip;
        i_in = place_in faces p (omega (arith, u.p_in, pu));
        j_in = place_in faces q (omega (arith, v.p_in, qv));
        i_runs = omega arith;
        j_runs = ⊎_elim
            (λ (e : (r.tail ≡ t.tail) × (r.tip ≡ t.tip)). rw (e.0, e.1) (omega arith))
            (λ (e : (r.tail ≡ t.tip) × (r.tip ≡ t.tail)). rw (e.0, e.1) (omega arith))
            (swap_edge r.tail r.tip t.tail t.tip (sym (at_key m.x hx) ∙ m.alike ∙ at_key m.y hy));
      }

  near_touch : (p q : ℕ) → q ∈ neighbors rs p → Touch fs faces (get_or faces p 0) (get_or faces q 0)
  unfolding edges face
  near_touch p q m = meet_touch p q (near_meet (edge_keys rs) face p q m)

  touch_near : (p q : ℕ) → p < length faces → q < length faces → p ≢ q → Touch fs faces (get_or faces p 0) (get_or faces q 0) → q ∈ neighbors rs p
  unfolding edges face
  touch_near p q hp hq ne t = meet_near (edge_keys rs) face two p q (touch_meet p q hp hq ne t)

  reach_touch : (p q : ℕ) → Reach (neighbors rs) p q → ReflTransGenᴰ (Touch fs faces) (get_or faces p 0) (get_or faces q 0)
  reach_touch p q ReflTransGenᴰ.refl = ReflTransGenᴰ.refl
  reach_touch p q (ReflTransGenᴰ.tail {b = b} r m) = ReflTransGenᴰ.tail (reach_touch p b r) (near_touch b q m)

  -- along touching facets there is a way along their places
  touch_reach : (p j : ℕ) → p < length faces → ReflTransGenᴰ (Touch fs faces) (get_or faces p 0) j → (q : ℕ) × (q < length faces) × (get_or faces q 0 ≡ j) × Reach (neighbors rs) p q
  touch_reach p j h ReflTransGenᴰ.refl = (p, h, refl, ReflTransGenᴰ.refl)
  touch_reach p j h (ReflTransGenᴰ.tail {b = z} r t) = step (touch_reach p z h r) (place_of faces j t.j_in)
    where
      step : (q : ℕ) × (q < length faces) × (get_or faces q 0 ≡ z) × Reach (neighbors rs) p q → (o : ℕ) × (o < length faces) × (get_or faces o 0 ≡ j) →
          (q : ℕ) × (q < length faces) × (get_or faces q 0 ≡ j) × Reach (neighbors rs) p q
      step u v = go (hit_cases u.0 v.0)
        where
          go : ((u.0 ≡ v.0) × (hit u.0 v.0 ≡ 1)) ⊎ ((u.0 ≢ v.0) × (hit u.0 v.0 ≡ 0)) → (q : ℕ) × (q < length faces) × (get_or faces q 0 ≡ j) × Reach (neighbors rs) p q
          go (inl c) = (u.0, u.1, ap (λ k. get_or faces k 0) c.0 ∙ v.2, u.3)
          go (inr c) = (
            v.0,
            v.1,
            v.2,
            ReflTransGenᴰ.tail u.3 (touch_near u.0 v.0 u.1 v.1 c.0
                (subst (λ k. Touch fs faces (get_or faces u.0 0) k) (sym v.2) (subst (λ k. Touch fs faces k j) (sym u.2) t))),
          )

  at : ℕ → ℕ
  at p = get_or faces p 0

  map_in : (g : List ℕ) (i : ℕ) → i ∈ map at g → (p : ℕ) × (p ∈ g) × (at p ≡ i)
  map_in [] i m = none i m
  map_in (x ∷ g) i m = ⊎_elim (λ e. (x, here x g, sym e)) (λ k. (let r = map_in g i k in (r.0, there r.0 x g r.1, r.2))) (cases_in i (at x) (map at g) m)

  in_map : (g : List ℕ) (p : ℕ) → p ∈ g → at p ∈ map at g
  in_map [] p m = none p m
  in_map (x ∷ g) p m = ⊎_elim (λ e. rw e (here (at x) (map at g))) (λ k. there (at p) (at x) (map at g) (in_map g p k)) (cases_in p x g m)

  one_shell : (g : List ℕ) → Class (neighbors rs) g → ((p : ℕ) → p ∈ g → p < length faces) → OneShell fs faces fine (map at g)
  unfolding OneShell at
  one_shell g cl ins i j hi hj = (to (map_in g i hi), fro (map_in g i hi))
    where
      to : (p : ℕ) × (p ∈ g) × (at p ≡ i) → j ∈ map at g → ReflTransGenᴰ (Touch fs faces) i j
      to u m = let v = map_in g j m in
          subst (λ k. ReflTransGenᴰ (Touch fs faces) i k) v.2 (subst (λ k. ReflTransGenᴰ (Touch fs faces) k (at v.0)) u.2
          (reach_touch u.0 v.0 ((cl u.0 v.0 u.1).0 v.1)))

      fro : (p : ℕ) × (p ∈ g) × (at p ≡ i) → ReflTransGenᴰ (Touch fs faces) i j → j ∈ map at g
      fro u r = let w = touch_reach u.0 j (ins u.0 u.1) (subst (λ k. ReflTransGenᴰ (Touch fs faces) k j) (sym u.2) r) in
          subst (λ k. k ∈ map at g) w.2 (in_map g w.0 ((cl u.0 w.0 u.1).1 w.3))

-- every group is among the groups
each_member : (gs : List (List ℕ)) → Each (λ g. (p : ℕ) → occ p g ≤ sum (occ p) gs) gs
unfolding sum
each_member [] = tt
each_member (g ∷ gs) = (λ p. omega arith, each_imp (λ g'. (p : ℕ) → occ p g' ≤ sum (occ p) gs) (λ g'. (p : ℕ) → occ p g' ≤ sum (occ p) (g ∷ gs)) gs (λ g' h p. omega (arith, h p)) (each_member gs))

groups_in : (n : ℕ) (adj : ℕ → List ℕ) (gs : List (List ℕ)) → Components n adj gs → Each (λ g. (p : ℕ) → p ∈ g → p < n) gs
groups_in n adj gs c = each_imp (λ g. (p : ℕ) → occ p g ≤ sum (occ p) gs) (λ g. (p : ℕ) → p ∈ g → p < n) gs (λ g h p m. go p (omega (arith, h p, c.once (hit p))) (dec_lt p n)) (each_member gs)
  where
    go : (p : ℕ) → 1 ≤ full (hit p) n → Dec (p < n) → p < n
    go p m (yes h) = h
    go p m (no h) = absurd (omega (arith, full_zero (hit p) n (λ i l. ⊎_elim (λ c. absurd (omega (arith, c.0))) (λ c. c.1) (hit_cases p i))))

-- The shells of a body.
pub one_shells : (fs : List Facet) (c : List ℕ) (fine : check_edges (runs fs 0 (faces_of fs c)) ≡ Ok tt) → Each (OneShell fs (faces_of fs c) fine) (shells_of fs c)
unfolding shells_of rs at
one_shells fs c fine =
    let faces = faces_of fs c in
    let adj = neighbors (runs fs 0 faces) in
    let f = components_found (length faces) adj (edges_graph fs faces) in
    let gs = components (length faces) adj in
    each_map (OneShell fs faces fine) (map (λ p. get_or faces p 0)) gs
    (each_imp (λ g. Class adj g × ((p : ℕ) → p ∈ g → p < length faces)) (λ g. OneShell fs faces fine (map (λ p. get_or faces p 0) g)) gs
    (λ g h. one_shell fs faces fine g h.0 h.1)
    (each_both (Class adj) (λ g. (p : ℕ) → p ∈ g → p < length faces) gs f.classes (groups_in (length faces) adj gs f)))
