-- `indexed`: the points of a cell, each once, and its faces by their places; the first near point wins: 6. Fusing merges its vertices
-- by the same walk, where a point may be near one other only: 6, 13. Definitions only.
use Rattle.std.specs.Prelude.{ℕ, suc, Bool, true, false, not, List, [], ◌∷◌, ◌++◌, length, eqb, Ok, Err}
use Rattle.refusal.specs.Outcome.{Outcome, then, unless, walk}
use Rattle.lists.specs.Walks.{numbered}
use Rattle.space.specs.declared.Point3.{Point3}
use Rattle.space.specs.declared.Precision.{Precision}
use Rattle.space.specs.declared.Closeness.{Closeness}
use Rattle.space.specs.declared.Closeness.TheVariants.{Near, Apart}
use Rattle.space.specs.Near.{near_of}
use Rattle.space.specs.Shapes.{Face, Cell, Solid}
use Rattle.indexed.specs.declared.Pick.{Pick}
use Rattle.indexed.specs.declared.Pick.TheVariants.{First, Only}

-- how a point is looked for among others: the place of one near it, and the place after the last if there is none
abbrev pub Search : Type 0
Search = Point3 → List Point3 → Outcome ℕ

-- the place of the first point near q, from i on, and the place after the last if there is none; one that is unresolved before it refuses
unfoldable pub place_in : Precision → Point3 → ℕ → List Point3 → Outcome ℕ
place_in t q i [] = Ok i
place_in t q i (r ∷ l) = elim (near_of t q r) [ Ok Near ↦ Ok i | Ok Apart ↦ place_in t q (suc i) l | Err x ↦ Err x ]

-- what is found among n points, h so far (n: none), once the i-th is met; a second near point refuses
unfoldable pub met : Outcome Closeness → ℕ → ℕ → ℕ → Outcome ℕ
met (Ok Near) n h i = unless (not (eqb h n)) 13 (Ok i)
met (Ok Apart) n h i = Ok h
met (Err x) n h i = Err x

-- the place of the one point near q, where every point is tested
unfoldable pub only_in : Precision → Point3 → List Point3 → Outcome ℕ
only_in t q l = walk (λ h r. met (near_of t q r.it) (length l) h r.place) (length l) (numbered 0 l)

unfoldable pub search_by : Pick → Precision → Search
search_by First t q l = place_in t q 0 l
search_by Only t q l = only_in t q l

-- the points so far, and the places of the face at hand
pub record Places : Type 0 where
  pub points : List Point3
  pub places : List ℕ

-- a new point joins the others
abbrev pub joined : List Point3 → Point3 → Bool → List Point3
joined l q true = l ++ (q ∷ [])
joined l q false = l

abbrev pub placed : Places → Point3 → ℕ → Places
placed s q i = record { points = joined s.points q (eqb i (length s.points)); places = s.places ++ (i ∷ []) }

unfoldable pub index_point : Search → Places → Point3 → Outcome Places
index_point find s q = then (find q s.points) (λ i. Ok (placed s q i))

-- the corners of one face
abbrev pub index_points : Search → List Point3 → List Point3 → Outcome Places
index_points find ps l = walk (index_point find) (record { points = ps; places = [] }) l

abbrev pub with_face : Solid → Places → Solid
with_face s r = record { points = r.points; faces = s.faces ++ (r.places ∷ []) }

unfoldable pub index_face : Search → Solid → Face → Outcome Solid
index_face find s f = then (index_points find s.points f.points) (λ r. Ok (with_face s r))

abbrev pub index_faces : Search → Cell → Outcome Solid
index_faces find c = walk (index_face find) (record { points = []; faces = [] }) c

unfoldable pub indexed : Precision → Cell → Outcome Solid
indexed t c = index_faces (λ q l. place_in t q 0 l) c
