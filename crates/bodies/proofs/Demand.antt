-- DEMAND 3, clause by clause, in one record about an answer of fusing.
use Rattle.std.specs.Prelude.{◌≡◌, ◌⊎◌, ◌≢◌, Bool, List, [], ◌∷◌, ◌++◌, ℕ, ◌+◌, ◌*◌, ◌≤◌, length, eqb, Ok, Err}
use Rattle.std.proofs.Math.Path.{refl, sym, ap, subst}
use Rattle.std.proofs.Common.{◌∙◌, inl, inr, arith}
use Rattle.std.proofs.Math.Bool.{true, false, not}
use mathlib.Mathlib.Logic.Relation.{ReflTransGenᴰ}
use Rattle.std.proofs.lemmas.List.{length-map}
use Rattle.std.proofs.Math.Dec.{T, eqb_refl}
use Rattle.refusal.specs.Outcome.{Outcome}
use Rattle.refusal.specs.Laws.{unless_ok}
use Rattle.refusal.specs.Tests.{or_false}
use Rattle.sums.specs.Sum.{sum, sum_one, hit, occ, Each}
use Rattle.sums.specs.Keys.{users, pairs}
use Rattle.sums.proofs.KeyLaws.{sum_ext, each_imp, each_all, users_has}
use Rattle.sums.specs.MeetLaws.{Two}
use Rattle.sums.proofs.MeetLaws.{only_two}
use Rattle.sums.proofs.CountLaws.{places_count}
use Rattle.sums.proofs.OrderLaws.{sorted_lone, sorted_keep}
use Rattle.bodies.specs.Fusing.{Facet, cell_of, vertices_of, same_cycle, keys, exterior, interfaces, faces_of, judge_users, Sense, outward, inward, shells_of, body_of, materials, Bodies, fuse}
use Rattle.bodies.specs.Passed.{made_each, made_pairwise}
use Rattle.bodies.specs.ListLaws.{is_outward, is_inward, out_of, in_of, Valid, BodyMade}
use Rattle.bodies.proofs.ListLaws.{size, listed_weight, owned_once, shared_never, cells, body_made, answered}
use Rattle.bodies.proofs.EdgeLaws.{body_edges}
use Rattle.bodies.proofs.BodyLaws.{one_bodies, users_judged, two_keys}
use Rattle.bodies.specs.ShellLaws.{Touch, OneShell}
use Rattle.bodies.proofs.ShellLaws.{one_shells}
use Rattle.bodies.specs.Full.{Full}
use Rattle.bodies.proofs.Full.{each_keep, each_shell, full_body, only_facets}
use Rattle.bodies.specs.Demand.{Beside, Shelled, IsBody, Interface, Demand}

-- ---- the parts
is_out : (s : Outcome Sense) → 1 ≤ is_outward s → s ≡ Ok outward
is_out (Ok outward) h = refl
is_out (Ok inward) h = absurd (omega arith)
is_out (Err r) h = absurd (omega arith)

is_in : (s : Outcome Sense) → 1 ≤ is_inward s → s ≡ Ok inward
is_in (Ok outward) h = absurd (omega arith)
is_in (Ok inward) h = refl
is_in (Err r) h = absurd (omega arith)

single : {A : Type 0} (l : List A) → length l ≡ 1 → (x : A) × (l ≡ x ∷ [])
single [] e = absurd (omega arith)
single (x ∷ []) e = (x, refl)
single (x ∷ y ∷ l) e = absurd (omega arith)

module _ (volume : List ℕ → Outcome Sense) (fs : List Facet) (c : List ℕ) (b : List (List ℕ)) (m : BodyMade volume fs c b) where
  beside : (i j : ℕ) → Touch fs (faces_of fs c) i j → Beside fs b i j
  beside i j t = record { a = t.a; d = t.d; i_in = omega (arith, m.weight (hit i), t.i_in); j_in = omega (arith, m.weight (hit j), t.j_in); i_runs = t.i_runs; j_runs = t.j_runs }

  touch : (i j : ℕ) → Beside fs b i j → Touch fs (faces_of fs c) i j
  touch i j t = record { a = t.a; d = t.d; i_in = omega (arith, m.weight (hit i), t.i_in); j_in = omega (arith, m.weight (hit j), t.j_in); i_runs = t.i_runs; j_runs = t.j_runs }

  to : (i j : ℕ) → ReflTransGenᴰ (Touch fs (faces_of fs c)) i j → ReflTransGenᴰ (Beside fs b) i j
  to i j ReflTransGenᴰ.refl = ReflTransGenᴰ.refl
  to i j (ReflTransGenᴰ.tail {b = z} r t) = ReflTransGenᴰ.tail (to i z r) (beside z j t)

  fro : (i j : ℕ) → ReflTransGenᴰ (Beside fs b) i j → ReflTransGenᴰ (Touch fs (faces_of fs c)) i j
  fro i j ReflTransGenᴰ.refl = ReflTransGenᴰ.refl
  fro i j (ReflTransGenᴰ.tail {b = z} r t) = ReflTransGenᴰ.tail (fro i z r) (touch z j t)

  shells_found : Each (Shelled fs b) (shells_of fs c)
  unfolding OneShell
  shells_found = each_imp (OneShell fs (faces_of fs c) m.edges_fine) (Shelled fs b) (shells_of fs c)
      (λ g h i j hi hj. let e = h i j hi (omega (arith, m.weight (hit j))) in (λ k. to i j (e.0 k), λ r. e.1 (fro i j r)))
      (one_shells fs c m.edges_fine)

  is_body : IsBody volume fs c b
  unfolding faces_of
  is_body =
      let gs = shells_of fs c in
      let o = single (out_of volume gs) m.shells.one in
      let q : Each (λ g. volume g ≡ Ok outward) (o.0 ∷ []) = subst (Each (λ g. volume g ≡ Ok outward)) o.1 (each_keep (λ g. volume g ≡ Ok outward) (λ g. is_outward (volume g)) gs (λ g h. is_out (volume g) h)) in
      record {
        shell = each_shell volume fs c b m (Shelled fs b) shells_found;
        edge = body_edges volume fs c b m;
        outer = o.0;
        inner = in_of volume gs;
        parts = m.shells.parts ∙ ap (λ l. l ++ in_of volume gs) o.1;
        out = q.0;
        inn = each_keep (λ g. volume g ≡ Ok inward) (λ g. is_inward (volume g)) gs (λ g h. is_in (volume g) h);
        facets = m.weight;
        sorted = sorted_keep (keys fs) (λ i. occ (cell_of fs i) c) (exterior fs) (sorted_lone (keys fs));
        found = (sym o.1, refl);
      }

-- what 18 and 19 leave
module _ (fs : List Facet) where
  pair_fine : (a b : ℕ) → judge_users fs (a ∷ b ∷ []) ≡ Ok tt → (cell_of fs a ≢ cell_of fs b) × (same_cycle (vertices_of fs a) (vertices_of fs b) ≡ true)
  unfolding judge_users
  pair_fine a b j =
      let h = or_false (eqb (cell_of fs a) (cell_of fs b)) (not (same_cycle (vertices_of fs a) (vertices_of fs b))) (unless_ok _ 18 (Ok tt) tt j).0 in
      (λ q. subst T (ap (eqb (cell_of fs a)) q ∙ h.0) (eqb_refl (cell_of fs a)), turned (same_cycle (vertices_of fs a) (vertices_of fs b)) h.1)
    where
      turned : (t : Bool) → not t ≡ false → t ≡ true
      turned true e = refl
      turned false e = sym e

  interface_of : (i j : ℕ) → judge_users fs (users (keys fs) i) ≡ Ok tt → (users (keys fs) i ≡ i ∷ j ∷ []) ⊎ (users (keys fs) i ≡ j ∷ i ∷ []) → Interface fs i j
  interface_of i j k (inl e) = let h = pair_fine i j (rw e at k) in record { cells = h.0; turned = inl h.1; alone = ap length e }
  interface_of i j k (inr e) = let h = pair_fine j i (rw e at k) in record { cells = λ q. h.0 (sym q); turned = inr h.1; alone = ap length e }

pub demand : (volume : List ℕ → Outcome Sense) (fs : List Facet) (n : ℕ) → Valid fs n → (bs : Bodies) → fuse volume fs n ≡ Ok bs → Demand volume fs n bs
demand volume fs n valid bs e =
    let a = answered volume fs n bs e in
    let z = size fs in
    record {
      owned = owned_once volume fs n bs valid a;
      shared = shared_never volume fs n bs valid a;
      interface = λ i j hi hj k d. interface_of fs i j (users_judged fs a.facets_fine i hi)
          (only_two (users (keys fs) i) i j (two_keys fs a.facets_fine i (omega arith)) (users_has (keys fs) i i (omega arith) refl) (users_has (keys fs) i j (omega arith) k) (λ q. d (sym q)));
      body = one_bodies volume fs n bs valid a;
      cells = cells fs n valid;
      made = a.made;
      each = made_pairwise (body_of volume fs) (IsBody volume fs) (materials fs n) bs (λ c b m. is_body volume fs c b (body_made volume fs c b m)) a.made;
      full = made_each (body_of volume fs) (λ c. Unit {0}) Full (materials fs n) bs (λ c b m _. full_body volume fs c b (body_made volume fs c b m)) a.made (each_all (λ c. Unit {0}) (materials fs n) (λ c. tt));
      inside = only_facets volume fs n bs valid a;
      count = counted (listed_weight volume fs n bs valid a (λ _. 1)) (two_keys fs a.facets_fine);
    }
  where
    lengths : sum (sum (sum (λ _. 1))) bs ≡ sum (sum length) bs
    lengths = sum_ext (sum (sum (λ _. 1))) (sum length) bs (λ b. sum_ext (sum (λ _. 1)) length b (λ g. sum_one g))

    counted : sum (sum (sum (λ _. 1))) bs ≡ sum (λ _. 1) (exterior fs) → Two (keys fs) → length fs ≡ sum (sum length) bs + 2 * length (interfaces fs)
    counted w two = omega (arith, w, lengths, size fs, places_count (keys fs) two, sum_one (exterior fs), length-map {B = ℕ × ℕ} (pairs (keys fs)) (λ p. (cell_of fs p.0, cell_of fs p.1)))
