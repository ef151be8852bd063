-- Two listed facets are in one body exactly when their cells connect through shared facets.
use Rattle.std.specs.Prelude.{◌≡◌, refl, ◌↔◌, List, [], ◌∷◌, ℕ, ◌≤◌, ◌<◌, length, Ok}
use Rattle.std.proofs.Common.{◌∙◌, arith}
use mathlib.Mathlib.Logic.Relation.{ReflTransGenᴰ}
use Rattle.refusal.specs.Outcome.{Outcome}
use Rattle.sums.specs.Sum.{sum, hit, occ, pick, ◌∈◌, Each}
use Rattle.sums.specs.ComponentLaws.{Reach, Class}
use Rattle.sums.specs.Keys.{order, users}
use Rattle.sums.proofs.KeyLaws.{sum_order, full_hit, each_in, keep_occ, pick_both, both_pick}
use Rattle.sums.specs.MeetLaws.{Two}
use Rattle.sums.proofs.MeetLaws.{near_meet, meet_near}
use Rattle.bodies.specs.Fusing.{Facet, cell_of, keys, exterior, adjacency, faces_of, Sense, judge_users, check_facets, body_of, materials, Bodies}
use Rattle.bodies.specs.Passed.{walk_ok, made_each}
use Rattle.bodies.specs.ListLaws.{Valid, BodyMade, Answered}
use Rattle.bodies.proofs.ListLaws.{size, cells, listed_weight, body_made}
use Rattle.bodies.specs.BodyLaws.{Joined, OneBody}

-- Every key passed its test.
pub users_judged : (fs : List Facet) → check_facets fs ≡ Ok tt → (i : ℕ) → i < length fs → judge_users fs (users (keys fs) i) ≡ Ok tt
unfolding check_facets
users_judged fs e i h = each_in (λ i. judge_users fs (users (keys fs) i) ≡ Ok tt) (order (keys fs)) i
    (walk_ok (λ i. judge_users fs (users (keys fs) i)) (order (keys fs)) tt e)
    (omega (arith, sum_order (hit i) (keys fs), full_hit i (length (keys fs)) (omega (arith, size fs))))

two_users : (fs : List Facet) (l : List ℕ) → judge_users fs l ≡ Ok tt → length l ≤ 2
unfolding judge_users
two_users fs [] e = omega arith
two_users fs (a ∷ []) e = omega arith
two_users fs (a ∷ b ∷ []) e = omega arith
two_users fs (a ∷ b ∷ c ∷ l) e = let z : ◌≡◌ {A = ℕ} 0 1 = cc in absurd (omega arith)

pub two_keys : (fs : List Facet) → check_facets fs ≡ Ok tt → Two (keys fs)
two_keys fs e i h = two_users fs (users (keys fs) i) (users_judged fs e i (omega (arith, size fs)))

-- A facet is in a body exactly when it is listed and its cell is in the body's group.
in_body : (volume : List ℕ → Outcome Sense) (fs : List Facet) (c : List ℕ) (b : List (List ℕ)) → BodyMade volume fs c b → (i : ℕ) → (1 ≤ sum (occ i) b) ↔ ((cell_of fs i ∈ c) × (i ∈ exterior fs))
unfolding faces_of
in_body volume fs c b m i =
    let k : sum (occ i) b ≡ pick (occ (cell_of fs i) c) (occ i (exterior fs)) = m.weight (hit i) ∙ keep_occ (λ i. occ (cell_of fs i) c) (exterior fs) i in
    (λ h. pick_both (occ (cell_of fs i) c) (occ i (exterior fs)) (omega arith), λ h. (let m = both_pick (occ (cell_of fs i) c) (occ i (exterior fs)) h.0 h.1 in omega arith))

reach_joined : (fs : List Facet) (c d : ℕ) → Reach (adjacency fs) c d → Joined fs c d
unfolding Joined
reach_joined fs c d ReflTransGenᴰ.refl = ReflTransGenᴰ.refl
reach_joined fs c d (ReflTransGenᴰ.tail {b = b} p h) = ReflTransGenᴰ.tail (reach_joined fs c b p) (near_meet (keys fs) (cell_of fs) b d h)

joined_reach : (fs : List Facet) → Two (keys fs) → (c d : ℕ) → Joined fs c d → Reach (adjacency fs) c d
unfolding Joined
joined_reach fs two c d ReflTransGenᴰ.refl = ReflTransGenᴰ.refl
joined_reach fs two c d (ReflTransGenᴰ.tail {b = b} p h) = ReflTransGenᴰ.tail (joined_reach fs two c b p) (meet_near (keys fs) (cell_of fs) two b d h)

module _ (volume : List ℕ → Outcome Sense) (fs : List Facet) (n : ℕ) (bs : Bodies) (valid : Valid fs n) (a : Answered volume fs n bs) where
  one_body : (c : List ℕ) (b : List (List ℕ)) → body_of volume fs c ≡ Ok b → Class (adjacency fs) c → OneBody fs bs b
  one_body c b e cl i j hi hj =
      let m = body_made volume fs c b e in
      let p = (in_body volume fs c b m i).0 hi in (
        λ h. reach_joined fs (cell_of fs i) (cell_of fs j) ((cl (cell_of fs i) (cell_of fs j) p.0).0 ((in_body volume fs c b m j).0 h).0),
        λ r. (in_body volume fs c b m j).1 ((cl (cell_of fs i) (cell_of fs j) p.0).1 (joined_reach fs (two_keys fs a.facets_fine) (cell_of fs i) (cell_of fs j) r), omega (arith, listed_weight volume fs n bs valid a (hit j))),
      )

  pub one_bodies : Each (OneBody fs bs) bs
  one_bodies = made_each (body_of volume fs) (Class (adjacency fs)) (OneBody fs bs) (materials fs n) bs one_body a.made (cells fs n valid).classes
