-- What the call tells, in the words of the code.
use Rattle.std.specs.Prelude.{Ok, Err}
use mathlib.Core.Path.{◌≡◌, refl, sym, ap, ◌∙◌, subst}
use mathlib.Core.Bool.{Bool, true, false, not, ◌&&◌}
use mathlib.Core.List.{List, [], ◌∷◌}
use Prim.Native.Nat.{ℕ, ◌+◌, ◌≤◌}
use native.Mathlib.Omega.{arith}
use native.Mathlib.Numerals.{add-three}
use lib.ListN.{length}
use lib.Seq.{sets, take_at}
use lib.Dec.{leb, ltb}
use lib.Ieee.{Float}
use borrow.Author.Tests.{leb-true, ltb-false}
use Rattle.refusal.specs.Outcome.{Outcome, unless, number_of}
use Rattle.refusal.specs.Tests.{and_true}
use Rattle.space.specs.declared.Plane.{Plane}
use Rattle.space.specs.declared.Precision.{Precision}
use Rattle.space.specs.Shapes.{Face}
use Rattle.ears.specs.declared.Triangle.{Triangle}
use Rattle.mesh.specs.declared.Triples.{Triples}
use Rattle.mesh.specs.Mesh.{facet, mesh_of, fair_facet, mesh_on, triples, meshed}
use Rattle.mesh.specs.Theorems.{facet_mesh}
use Rattle.mesh_leaf.specs.Drawing.{triangles_in, places, places_told, count_told, Few, places_by, count_by, Drawn, mesh_fits, mesh_lent}

-- one triangle, and then others
pub places_next : (s : List ℕ) (o : ℕ) (w : Triangle) (l : List Triangle) → sets s o (places (w ∷ l)) ≡ sets (sets s o (w.a ∷ w.b ∷ w.c ∷ [])) (o + 3) (places l)
unfolding places
places_next s o w l = rw add-three refl

pub places_none : (s : List ℕ) (o : ℕ) → sets s o (places []) ≡ s
unfolding places
places_none s o = refl

triples_are : (l : List Triangle) → triangles_in (triples l) ≡ l
triples_are l = take_at l _ _ refl

-- ---- at most 126 triangles

few_corners : (p : Precision) (f : Face) (l : List Triangle) → mesh_of p f ≡ Ok l → length f.points ≤ 128
unfolding mesh_of
few_corners p f l e = by (ltb 128 (length f.points)) refl e
  where
    by : (b : Bool) → ltb 128 (length f.points) ≡ b → unless b 12 (unless (not (fair_facet p f)) 2 (mesh_on p f)) ≡ Ok l → length f.points ≤ 128
    by true h q = let z : ◌≡◌ {A = ℕ} 0 1 = cc in absurd (omega arith)
    by false h q = ltb-false 128 (length f.points) h

few_by : (p : Precision) (f : Face) (o : Outcome (List Triangle)) → mesh_of p f ≡ o → Few (meshed o)
unfolding meshed
few_by p f (Ok l) e =
    let m = facet_mesh p f l e in
    omega (arith, few_corners p f l e, m.many, m.mesh.most)
few_by p f (Err r) e = tt

pub few_triangles : (p : Precision) (f : Face) (m : Outcome Triples) → m ≡ meshed (mesh_of p f) → Few m
few_triangles p f m e = subst Few (sym e) (few_by p f (mesh_of p f) refl)

-- ---- the answer

drawn_short : (o : Outcome (List Triangle)) (d n : List ℕ) → Drawn (unless (not false) 64 o) 64 d n d n
unfolding number_of places_told count_told
drawn_short o d n = record { number = refl; drawn = refl; count = refl }

drawn_made : (o : Outcome (List Triangle)) (m : Outcome Triples) (r : ℕ) (d n d' n' : List ℕ) → m ≡ meshed o → r ≡ number_of m →
    d' ≡ places_by m d → n' ≡ count_by m n → Drawn o r d n d' n'
unfolding meshed number_of places_by count_by places_told count_told
drawn_made (Ok l) m r d n d' n' e a b c = record {
  number = a ∙ ap number_of e;
  drawn = b ∙ ap (λ x. places_by x d) e ∙ ap (λ x. sets d 0 (places x)) (triples_are l);
  count = c ∙ ap (λ x. count_by x n) e;
}
drawn_made (Err f) m r d n d' n' e a b c = record {
  number = a ∙ ap number_of e;
  drawn = b ∙ ap (λ x. places_by x d) e;
  count = c ∙ ap (λ x. count_by x n) e;
}

pub mesh_places : (w d n : ℕ) (f : Bool) → f ≡ mesh_fits w d n → f ≡ true → (378 ≤ d) × (1 ≤ n)
unfolding mesh_fits
mesh_places w d n f fits e =
    let r = (and_true (leb 12 w) (leb 378 d && leb 1 n) (sym fits ∙ e)).1 in
    (leb-true 378 d (and_true (leb 378 d) (leb 1 n) r).0, leb-true 1 n (and_true (leb 378 d) (leb 1 n) r).1)

module _ (p : Precision) (w : Plane) (s : List Float) (d n : List ℕ) (f g : Bool) (fits : f ≡ g) where
  pub mesh_short : f ≡ false → Drawn (mesh_lent g p w s) 64 d n d n
  unfolding mesh_lent
  mesh_short e = subst (λ b. Drawn (unless (not b) 64 (mesh_of p (facet w s))) 64 d n d n) (sym e ∙ fits) (drawn_short (mesh_of p (facet w s)) d n)

  pub mesh_done : (v : Plane) (m : Outcome Triples) (r : ℕ) (d' n' : List ℕ) → f ≡ true → v ≡ w → m ≡ meshed (mesh_of p (facet v s)) → r ≡ number_of m →
      d' ≡ places_by m d → n' ≡ count_by m n → Drawn (mesh_lent g p w s) r d n d' n'
  unfolding mesh_lent
  mesh_done v m r d' n' e h q a b c =
      let is = q ∙ ap (λ x. meshed (mesh_of p (facet x s))) h in
      subst (λ b. Drawn (unless (not b) 64 (mesh_of p (facet w s))) r d n d' n') (sym e ∙ fits) (drawn_made (mesh_of p (facet w s)) m r d n d' n' is a b c)
