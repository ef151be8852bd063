-- What fusing lists: the facets that no other facet meets, each once.
use Rattle.std.proofs.Math.Path.{◌≡◌, refl, sym, ap, subst}
use Rattle.std.proofs.Common.{◌∙◌}
use Rattle.std.proofs.Math.Logic.{⊎_elim}
use Rattle.std.specs.Prelude.{◌≢◌, ℕ, zero, suc, ◌+◌, ◌≤◌, ◌<◌, get_or, Ok, Err}
use mathlib.Core.List.{List, [], ◌∷◌, ◌++◌, map, append_assoc, append-nil}
use native.Mathlib.Omega.{arith}
use Rattle.std.proofs.Math.ListN.{length}
use Rattle.std.proofs.lemmas.List.{length-map}
use Rattle.refusal.specs.Outcome.{Outcome, walk, each}
use Rattle.refusal.specs.Laws.{then_ok}
use Rattle.lists.specs.Walks.{cyclic}
use Rattle.sums.specs.Sum.{sum, hit, hit_cases, hit_same, occ, pick, Each}
use Rattle.sums.specs.Components.{components}
use Rattle.sums.specs.ComponentLaws.{Graph, Components}
use Rattle.sums.proofs.ComponentLaws.{components_found}
use Rattle.sums.specs.Keys.{put, keep, users, pairs}
use Rattle.sums.specs.KeyLaws.{Sharing}
use Rattle.sums.proofs.KeyLaws.{sum_ext, sum_append, sum_map, sum_put, full_get_d, full_hit, each_append, each_map, each_all, each_imp, each_get_d, graph_of, all_each, sum_plus, occ_lone, lone_in, own_one, shared_more, pairs_each}
use Rattle.bodies.specs.Fusing.{Facet, cell_of, vertices_of, keys, exterior, interfaces, adjacency, faces_of, no_run, run_at, run_of, runs, edge_keys, edges, neighbors, check_facets, check_edges, Sense, outward, inward, Shells, place_outer, place_by, outer_first, place_shell, order_shells, shells_of, body_of, materials, Bodies, fuse}
use Rattle.bodies.specs.Passed.{each_ok, Made}
use Rattle.bodies.specs.ListLaws.{is_outward, is_inward, out_of, in_of, Certified, Ordered, BodyMade, Valid, listed, key_of, Answered}

module _ (volume : List ℕ → Outcome Sense) where
  -- What a walk over shells leaves.
  record Placed (s : Shells) (gs : List (List ℕ)) (s' : Shells) : Type 0 where
    outs : s'.outer ≡ s.outer ++ out_of volume gs
    ins : s'.inner ≡ s.inner ++ in_of volume gs
    few : length s.outer ≤ 1 → length s'.outer ≤ 1
    all : Each (Certified volume) gs

  outer_free : (o i : List (List ℕ)) (g : List ℕ) (s : Shells) → place_outer o i g ≡ Ok s → (o ≡ []) × (s ≡ record { outer = g ∷ []; inner = i })
  unfolding place_outer
  outer_free [] i g s e = (refl, cc)
  outer_free (o ∷ os) i g s e = let z : ◌≡◌ {A = ℕ} 0 1 = cc in absurd (omega arith)

  placed_by : (s : Shells) (g : List ℕ) (gs : List (List ℕ)) (s' t : Shells) (w : Sense) → volume g ≡ Ok w → place_by s g w ≡ Ok t → Placed t gs s' → Placed s (g ∷ gs) s'
  unfolding place_by keep put
  placed_by s g gs s' t outward v p rest =
      let f = outer_free s.outer s.inner g t p in
      let o : out_of volume (g ∷ gs) ≡ g ∷ out_of volume gs = rw (v, put) in
      let i : in_of volume (g ∷ gs) ≡ in_of volume gs = rw (v, put) in
      record {
        outs = rest.outs ∙ ap (λ x. x.outer ++ out_of volume gs) f.1 ∙ sym o ∙ ap (λ x. x ++ out_of volume (g ∷ gs)) (sym f.0);
        ins = rest.ins ∙ ap (λ x. x.inner ++ in_of volume gs) f.1 ∙ ap (λ x. s.inner ++ x) (sym i);
        few = λ _. rest.few (omega (arith, ap (λ x. length x.outer) f.1));
        all = (rw v refl, rest.all);
      }
  placed_by s g gs s' t inward v p rest =
      let f : t ≡ record { outer = s.outer; inner = s.inner ++ (g ∷ []) } = cc in
      let o : out_of volume (g ∷ gs) ≡ out_of volume gs = rw (v, put) in
      let i : in_of volume (g ∷ gs) ≡ g ∷ in_of volume gs = rw (v, put) in
      record {
        outs = rest.outs ∙ ap (λ x. x.outer ++ out_of volume gs) f ∙ ap (λ x. s.outer ++ x) (sym o);
        ins = rest.ins ∙ ap (λ x. x.inner ++ in_of volume gs) f ∙ append_assoc s.inner (g ∷ []) (in_of volume gs) ∙ ap (λ x. s.inner ++ x) (sym i);
        few = λ n. rest.few (omega (arith, ap (λ x. length x.outer) f));
        all = (rw v refl, rest.all);
      }

  placed : (s : Shells) (gs : List (List ℕ)) (s' : Shells) → walk (place_shell volume) s gs ≡ Ok s' → Placed s gs s'
  unfolding walk keep place_shell
  placed s [] s' e =
      let q : s ≡ s' = cc in
      record { outs = ap (λ x. x.outer) (sym q) ∙ sym (append-nil s.outer); ins = ap (λ x. x.inner) (sym q) ∙ sym (append-nil s.inner); few = λ h. subst (λ x. length x.outer ≤ 1) q h; all = tt }
  placed s (g ∷ gs) s' e =
      let h = then_ok (place_shell volume s g) (λ t. walk (place_shell volume) t gs) s' e in
      let k = then_ok (volume g) (place_by s g) h.0 h.1 in
      placed_by s g gs s' h.0 k.0 k.1 k.2 (placed h.0 gs s' h.2)

  outer_met : (o i b : List (List ℕ)) → outer_first o i ≡ Ok b → (b ≡ o ++ i) × (1 ≤ length o)
  unfolding outer_first
  outer_met [] i b e = let z : ◌≡◌ {A = ℕ} 0 1 = cc in absurd (omega arith)
  outer_met (o ∷ os) i b e = (cc, omega arith)

  pub ordered : (gs b : List (List ℕ)) → order_shells volume gs ≡ Ok b → Ordered volume gs b
  unfolding order_shells
  ordered gs b e =
      let h = then_ok (walk (place_shell volume) (record { outer = []; inner = [] }) gs) (λ s. outer_first s.outer s.inner) b e in
      let p = placed (record { outer = []; inner = [] }) gs h.0 h.1 in
      let m = outer_met h.0.outer h.0.inner b h.2 in
      record { parts = m.0 ∙ ap (λ x. x ++ h.0.inner) p.outs ∙ ap (λ x. out_of volume gs ++ x) p.ins; one = omega (arith, p.few (omega arith), m.1, ap length p.outs); all = p.all }

  weigh : (F : List ℕ → ℕ) (g : List ℕ) (o : Outcome Sense) → is_outward o + is_inward o ≡ 1 → pick (is_outward o) (F g) + pick (is_inward o) (F g) ≡ F g
  unfolding pick
  weigh F g (Ok outward) e = omega arith
  weigh F g (Ok inward) e = omega arith
  weigh F g (Err r) e = absurd (omega arith)

  shells_weight : (F : List ℕ → ℕ) (gs : List (List ℕ)) → Each (Certified volume) gs → sum F (out_of volume gs) + sum F (in_of volume gs) ≡ sum F gs
  unfolding sum keep
  shells_weight F [] e = refl
  shells_weight F (g ∷ gs) e = omega (arith, sum_put F (is_outward (volume g)) g (out_of volume gs), sum_put F (is_inward (volume g)) g (in_of volume gs), weigh F g (volume g) e.0, shells_weight F gs e.1)

-- ---- the facets of a body's shells are the facets of the body
-- A run of a body names a facet of it.
runs_face : (fs : List Facet) (p : ℕ) (is : List ℕ) → Each (λ r. r.face < p + length is) (runs fs p is)
unfolding runs
runs_face fs p [] = tt
runs_face fs p (i ∷ is) = each_append (λ r. r.face < p + length (i ∷ is)) (map (run_of p) (cyclic (vertices_of fs i))) (runs fs (suc p) is)
    (each_map (λ r. r.face < p + length (i ∷ is)) (run_of p) (cyclic (vertices_of fs i)) (each_all (λ e. p < p + length (i ∷ is)) (cyclic (vertices_of fs i)) (λ e. omega arith)))
    (each_imp (λ r. r.face < suc p + length is) (λ r. r.face < p + length (i ∷ is)) (runs fs (suc p) is) (λ r h. omega arith) (runs_face fs (suc p) is))

-- The edges of a body join facets of it.
pub edges_graph : (fs : List Facet) (faces : List ℕ) → Graph (length faces) (neighbors (runs fs 0 faces))
unfolding edges
edges_graph fs faces =
    let rs = runs fs 0 faces in
    let ks = edge_keys rs in
    let size : length ks ≡ length rs = length-map rs _ in
    let inn : (x : ℕ) → x < length ks → (run_at rs x).face < length faces = λ x h. omega (arith, each_get_d (λ r. r.face < 0 + length faces) rs no_run x (runs_face fs 0 faces) (omega arith)) in
    graph_of (length faces) (edges rs)
    (each_map _ (λ p. ((run_at rs p.0).face, (run_at rs p.1).face)) (pairs ks)
    (each_imp (Sharing ks) _ (pairs ks) (λ p q. (inn p.0 q.first, inn p.1 q.second)) (pairs_each ks)))

shells_of_weight : (fs : List Facet) (f : ℕ → ℕ) (c : List ℕ) → sum (sum f) (shells_of fs c) ≡ sum f (faces_of fs c)
unfolding shells_of
shells_of_weight fs f c =
    let faces = faces_of fs c in
    let gs = components (length faces) (neighbors (runs fs 0 faces)) in
    let h : ℕ → ℕ = λ p. get_or faces p 0 in
    sum_map (sum f) (map h) gs
    ∙ sum_ext (λ g. sum f (map h g)) (sum (λ p. f (h p))) gs (λ g. sum_map f h g)
    ∙ (components_found (length faces) (neighbors (runs fs 0 faces)) (edges_graph fs faces)).once (λ p. f (h p))
    ∙ full_get_d f faces

pub body_made : (volume : List ℕ → Outcome Sense) (fs : List Facet) (c : List ℕ) (b : List (List ℕ)) → body_of volume fs c ≡ Ok b → BodyMade volume fs c b
unfolding body_of
body_made volume fs c b e =
    let h = then_ok (check_edges (runs fs 0 (faces_of fs c))) (λ _. order_shells volume (shells_of fs c)) b e in
    let o = ordered volume (shells_of fs c) b h.2 in
    let gs = shells_of fs c in
    record {
      edges_fine = h.1;
      shells = o;
      weight = λ f. ap (sum (sum f)) o.parts ∙ sum_append (sum f) (out_of volume gs) (in_of volume gs) ∙ shells_weight volume (sum f) gs o.all ∙ shells_of_weight fs f c;
    }

bodies_weight : (volume : List ℕ → Outcome Sense) (fs : List Facet) (f : ℕ → ℕ) (cs : List (List ℕ)) (bs : Bodies) → Made (body_of volume fs) cs bs →
    sum (sum (sum f)) bs ≡ sum (λ c. sum f (faces_of fs c)) cs
unfolding sum
bodies_weight volume fs f [] [] m = refl
bodies_weight volume fs f [] (b ∷ bs) m = absurd m
bodies_weight volume fs f (c ∷ cs) [] m = absurd m
bodies_weight volume fs f (c ∷ cs) (b ∷ bs) m = omega (arith, (body_made volume fs c b m.0).weight f, bodies_weight volume fs f cs bs m.1)

-- ---- a facet whose cell stands in the groups once is in the facets of one body
pick_none : (t : List ℕ → ℕ) (v : ℕ) (cs : List (List ℕ)) → sum t cs ≡ 0 → sum (λ c. pick (t c) v) cs ≡ 0
unfolding sum pick
pick_none t v [] e = refl
pick_none t v (c ∷ cs) e = go (t c) (omega arith) (pick_none t v cs (omega arith))
  where
    go : (a : ℕ) → a ≡ 0 → sum (λ c. pick (t c) v) cs ≡ 0 → pick a v + sum (λ c. pick (t c) v) cs ≡ 0
    go zero l h = omega arith
    go (suc a) l h = absurd (omega arith)

pick_one : (t : List ℕ → ℕ) (v : ℕ) (cs : List (List ℕ)) → sum t cs ≡ 1 → sum (λ c. pick (t c) v) cs ≡ v
unfolding sum pick
pick_one t v [] e = absurd (omega arith)
pick_one t v (c ∷ cs) e = go (t c) e (λ h. pick_one t v cs h)
  where
    go : (a : ℕ) → a + sum t cs ≡ 1 → (sum t cs ≡ 1 → sum (λ c. pick (t c) v) cs ≡ v) → pick a v + sum (λ c. pick (t c) v) cs ≡ v
    go zero l ih = omega (arith, ih (omega arith))
    go (suc a) l ih = omega (arith, pick_none t v cs (omega arith))

sum_nothing : (cs : List (List ℕ)) → sum (λ c. 0) cs ≡ 0
unfolding sum
sum_nothing [] = refl
sum_nothing (c ∷ cs) = omega (arith, sum_nothing cs)

pub spread : (f g : ℕ → ℕ) (cs : List (List ℕ)) (l : List ℕ) → Each (λ i. sum (occ (g i)) cs ≡ 1) l →
    sum (λ c. sum f (keep (λ i. occ (g i) c) l)) cs ≡ sum f l
unfolding keep sum
spread f g cs [] e = sum_nothing cs
spread f g cs (i ∷ l) e =
    sum_ext (λ c. sum f (put (occ (g i) c) i (keep (λ i. occ (g i) c) l))) (λ c. pick (occ (g i) c) (f i) + sum f (keep (λ i. occ (g i) c) l)) cs (λ c. sum_put f (occ (g i) c) i (keep (λ i. occ (g i) c) l))
    ∙ omega (arith, sum_plus (λ c. pick (occ (g i) c) (f i)) (λ c. sum f (keep (λ i. occ (g i) c) l)) cs, pick_one (occ (g i)) (f i) cs e.0, spread f g cs l e.1)

pub size : (fs : List Facet) → length (keys fs) ≡ length fs
size fs = length-map fs _

cells_graph : (fs : List Facet) (n : ℕ) → Valid fs n → Graph n (adjacency fs)
cells_graph fs n valid = graph_of n (interfaces fs)
    (each_map (λ p. (p.0 < n) × (p.1 < n)) (λ p. (cell_of fs p.0, cell_of fs p.1)) (pairs (keys fs))
    (each_imp (Sharing (keys fs)) (λ p. (cell_of fs p.0 < n) × (cell_of fs p.1 < n)) (pairs (keys fs))
    (λ p q. (valid p.0 (omega (arith, q.first, size fs)), valid p.1 (omega (arith, q.second, size fs)))) (pairs_each (keys fs))))

pub cells : (fs : List Facet) (n : ℕ) → Valid fs n → Components n (adjacency fs) (materials fs n)
unfolding materials
cells fs n valid = components_found n (adjacency fs) (cells_graph fs n valid)

pub answered : (volume : List ℕ → Outcome Sense) (fs : List Facet) (n : ℕ) (bs : Bodies) → fuse volume fs n ≡ Ok bs → Answered volume fs n bs
unfolding fuse
answered volume fs n bs e =
    let h = then_ok (check_facets fs) (λ _. each (body_of volume fs) [] (materials fs n)) bs e in
    let k = each_ok (body_of volume fs) [] (materials fs n) bs h.2 in
    record { facets_fine = h.1; made = subst (Made (body_of volume fs) (materials fs n)) (sym k.1) k.2 }

module _ (volume : List ℕ → Outcome Sense) (fs : List Facet) (n : ℕ) (bs : Bodies) (valid : Valid fs n) (a : Answered volume fs n bs) where
  -- any weight of all that is listed is that of the facets that no other facet meets
  pub listed_weight : (f : ℕ → ℕ) → sum (sum (sum f)) bs ≡ sum f (exterior fs)
  unfolding faces_of
  listed_weight f =
      bodies_weight volume fs f (materials fs n) bs a.made
      ∙ spread f (cell_of fs) (materials fs n) (exterior fs)
      (all_each (λ i. sum (occ (cell_of fs i)) (materials fs n) ≡ 1) (exterior fs)
      (λ i m. (cells fs n valid).once (hit (cell_of fs i)) ∙ full_hit (cell_of fs i) n (valid i (omega (arith, lone_in (keys fs) i m, size fs)))))

  listed_lone : (i : ℕ) → i < length fs → listed i bs ≡ pick (hit 1 (length (users (keys fs) i))) 1
  listed_lone i h = listed_weight (hit i) ∙ occ_lone (keys fs) i (omega (arith, size fs))

  -- a facet that no other meets is listed once
  pub owned_once : (i : ℕ) → i < length fs → ((j : ℕ) → j < length fs → key_of fs i ≡ key_of fs j → j ≡ i) → listed i bs ≡ 1
  unfolding pick
  owned_once i h own =
      let z = size fs in
      listed_lone i h ∙ (rw (own_one (keys fs) i (omega arith) (λ j l k. own j (omega arith) k)) (rw (hit_same 1)))

  -- one that another meets is not
  pub shared_never : (i j : ℕ) → i < length fs → j < length fs → key_of fs i ≡ key_of fs j → j ≢ i → listed i bs ≡ 0
  unfolding pick
  shared_never i j hi hj k d =
      let z = size fs in
      let two = shared_more (keys fs) i j (omega arith) (omega arith) k d in
      listed_lone i hi ∙ ⊎_elim (λ c. absurd (omega (arith, c.0))) (λ c. ap (λ t. pick t 1) c.1) (hit_cases 1 (length (users (keys fs) i)))
