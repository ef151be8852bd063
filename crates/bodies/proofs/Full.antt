-- Each body of an answer has a shell and each shell a facet, and only facets are listed.
use Rattle.std.proofs.Common.{sym, subst, arith}
use Rattle.std.proofs.Math.Path.{ap}
use Rattle.std.specs.Prelude.{List, [], ◌∷◌, map, ℕ, zero, suc, ◌≤◌, ◌<◌}
use Rattle.std.proofs.Math.ListN.{length, get_or, length-append}
use Rattle.std.proofs.lemmas.List.{length-map}
use Rattle.refusal.specs.Outcome.{Outcome}
use Rattle.sums.specs.Sum.{sum, hit, occ, Each}
use Rattle.sums.specs.Keys.{put, keep}
use Rattle.sums.proofs.KeyLaws.{all_each, each_map, each_imp, each_append, lone_in}
use Rattle.sums.specs.Components.{components}
use Rattle.sums.proofs.ComponentLaws.{components_found, none_empty}
use Rattle.bodies.specs.Fusing.{Facet, Sense, Bodies, keys, faces_of, runs, neighbors, shells_of}
use Rattle.bodies.specs.ListLaws.{Valid, listed, Answered, is_outward, is_inward, out_of, in_of, BodyMade}
use Rattle.bodies.proofs.ListLaws.{size, listed_weight, edges_graph}
use Rattle.bodies.specs.Full.{Full}

-- ---- kept elements are elements, and pass the test
each_put {ℓ} : {A : Type ℓ} (P : A → Type 0) (t : ℕ) (x : A) (l : List A) → (1 ≤ t → P x) → Each P l → Each P (put t x l)
unfolding put
each_put P zero x l p e = e
each_put P (suc t) x l p e = (p (omega arith), e)

pub each_keep {ℓ} : {A : Type ℓ} (P : A → Type 0) (t : A → ℕ) (l : List A) → ((x : A) → 1 ≤ t x → P x) → Each P (keep t l)
unfolding keep
each_keep P t [] h = tt
each_keep P t (x ∷ l) h = each_put P (t x) x (keep t l) (h x) (each_keep P t l h)

pub each_kept {ℓ} : {A : Type ℓ} (P : A → Type 0) (t : A → ℕ) (l : List A) → Each P l → Each P (keep t l)
unfolding keep
each_kept P t [] e = tt
each_kept P t (x ∷ l) e = each_put P (t x) x (keep t l) (λ _. e.0) (each_kept P t l e.1)

-- ---- groups that are not empty, by other names
pub each_some : (h : ℕ → ℕ) (gs : List (List ℕ)) → Each (λ g. 0 < length g) gs → Each (λ g. 0 < length g) (map (map h) gs)
each_some h gs e = each_map (λ g. 0 < length g) (map h) gs (each_imp (λ g. 0 < length g) (λ g. 0 < length (map h g)) gs (λ g l. omega (arith, l, length-map g h)) e)

module _ (volume : List ℕ → Outcome Sense) (fs : List Facet) (c : List ℕ) (b : List (List ℕ)) (m : BodyMade volume fs c b) where
  -- a body's shells, as the outward and the inward ones of those found
  pub each_shell : (P : List ℕ → Type 0) → Each P (shells_of fs c) → Each P b
  each_shell P e =
      let gs = shells_of fs c in
      subst (Each P) (sym m.shells.parts) (each_append P (out_of volume gs) (in_of volume gs) (each_kept P (λ g. is_outward (volume g)) gs e) (each_kept P (λ g. is_inward (volume g)) gs e))

  pub full_body : Full b
  unfolding shells_of
  full_body =
      let faces = faces_of fs c in
      let cs = components (length faces) (neighbors (runs fs 0 faces)) in
      let gs = shells_of fs c in
      record {
        some = omega (arith, ap length m.shells.parts, length-append (out_of volume gs) (in_of volume gs), m.shells.one);
        each = each_shell (λ g. 0 < length g) (each_some (λ p. get_or faces p 0) cs (none_empty 0 cs (components_found (length faces) (neighbors (runs fs 0 faces)) (edges_graph fs faces)).ascend));
      }

-- ---- what holds of each number that is listed
each_in : (P : ℕ → Type 0) (b : List (List ℕ)) → ((i : ℕ) → 1 ≤ sum (occ i) b → P i) → Each (Each P) b
unfolding sum
each_in P [] h = tt
each_in P (g ∷ b) h = (all_each P g (λ i m. h i (omega (arith, m))), each_in P b (λ i m. h i (omega (arith, m))))

each_listed : (P : ℕ → Type 0) (bs : Bodies) → ((i : ℕ) → 1 ≤ listed i bs → P i) → Each (Each (Each P)) bs
unfolding sum
each_listed P [] h = tt
each_listed P (b ∷ bs) h = (each_in P b (λ i m. h i (omega (arith, m))), each_listed P bs (λ i m. h i (omega (arith, m))))

pub only_facets : (volume : List ℕ → Outcome Sense) (fs : List Facet) (n : ℕ) (bs : Bodies) → Valid fs n → Answered volume fs n bs → Each (Each (Each (λ i. i < length fs))) bs
only_facets volume fs n bs valid a = each_listed (λ i. i < length fs) bs (λ i m. omega (arith, size fs, lone_in (keys fs) i (subst (λ k. 1 ≤ k) (listed_weight volume fs n bs valid a (hit i)) m)))
