-- Fusing on small arrangements of boxes: what each refusal and each rule of the order looks like.
use Rattle.std.specs.Prelude.{◌≡◌, refl, List, [], ◌∷◌, ◌++◌, map, ℕ, zero, suc, ◌+◌, ◌-◌, min, length, Ok}
use Rattle.refusal.specs.Outcome.{Outcome, refuse, walk, each}
use Rattle.lists.specs.Walks.{pairs_to, cyclic}
use Rattle.sums.specs.Keys.{keep, range, sorted, order, users, lone, pairs, nbrs}
use Rattle.sums.specs.Sum.{bit, hit, less, sum}
use Rattle.sums.specs.Components.{components}
use Rattle.bodies.specs.Fusing.{Facet, Sense, outward, inward, every, some, turned_by, same_cycle, judge_users, check_facets, exterior, faces_of, runs, judge_edge, check_edges, edges, place_outer, place_by, outer_first, place_shell, order_shells, shells_of, materials, body_of, fuse}

-- all that a case computes with
opening : Unit {0}
unfolding walk each pairs_to cyclic keep range sorted order users lone pairs nbrs bit hit less sum components every some turned_by same_cycle judge_users check_facets faces_of runs judge_edge check_edges edges place_outer place_by outer_first place_shell order_shells shells_of materials body_of fuse
opening = tt

facet : ℕ → ℕ → List ℕ → Facet
facet c b l = record { cell = c; vertices = map (λ v. b + v) l }

-- the unit box whose lowest corner is vertex b, on a grid of 4 vertices a row and 4 rows a layer
box : ℕ → ℕ → List Facet
unfolding facet
box c b = map (facet c b) ((16 ∷ 20 ∷ 4 ∷ 0 ∷ []) ∷ (5 ∷ 21 ∷ 17 ∷ 1 ∷ []) ∷ (0 ∷ 1 ∷ 17 ∷ 16 ∷ []) ∷ (4 ∷ 20 ∷ 21 ∷ 5 ∷ []) ∷ (0 ∷ 4 ∷ 5 ∷ 1 ∷ []) ∷ (17 ∷ 21 ∷ 20 ∷ 16 ∷ []) ∷ [])

tetrahedron : ℕ → ℕ → List Facet
unfolding facet
tetrahedron c b = map (facet c b) ((0 ∷ 1 ∷ 2 ∷ []) ∷ (0 ∷ 3 ∷ 1 ∷ []) ∷ (1 ∷ 3 ∷ 2 ∷ []) ∷ (0 ∷ 2 ∷ 3 ∷ []) ∷ [])

always : Sense → List ℕ → Outcome Sense
always s g = Ok s

-- a shell of six facets or more is outward, a smaller one inward
by_size : List ℕ → Outcome Sense
by_size g = elim (6 - length g) [ zero ↦ Ok outward | suc _ ↦ Ok inward ]

-- boxes that share a face: one body of ten facets
beside : fuse (always outward) (box 0 0 ++ box 1 1) 2 ≡ Ok (((4 ∷ 3 ∷ 5 ∷ 11 ∷ 7 ∷ 8 ∷ 9 ∷ 10 ∷ 0 ∷ 2 ∷ []) ∷ []) ∷ [])
unfolding box always facet opening
beside = refl

-- boxes that share only an edge: edges are counted per body, so these are two
edge_only : fuse (always outward) (box 0 0 ++ box 1 5) 2 ≡ Ok (((4 ∷ 3 ∷ 5 ∷ 1 ∷ 0 ∷ 2 ∷ []) ∷ []) ∷ ((10 ∷ 9 ∷ 11 ∷ 7 ∷ 6 ∷ 8 ∷ []) ∷ []) ∷ [])
unfolding box always facet opening
edge_only = refl

-- bodies by lowest cell, although the second box's facets come first by their keys
by_cell : fuse (always outward) (box 1 0 ++ box 0 2) 2 ≡ Ok (((10 ∷ 9 ∷ 11 ∷ 7 ∷ 6 ∷ 8 ∷ []) ∷ []) ∷ ((4 ∷ 3 ∷ 5 ∷ 1 ∷ 0 ∷ 2 ∷ []) ∷ []) ∷ [])
unfolding box always facet opening
by_cell = refl

-- the outward shell first, then the inward ones as found
outer_first_lem : fuse by_size (tetrahedron 0 30 ++ box 0 0 ++ tetrahedron 0 40) 1 ≡ Ok (((8 ∷ 7 ∷ 9 ∷ 5 ∷ 4 ∷ 6 ∷ []) ∷ (0 ∷ 2 ∷ 3 ∷ 1 ∷ []) ∷ (10 ∷ 12 ∷ 13 ∷ 11 ∷ []) ∷ []) ∷ [])
unfolding box tetrahedron by_size facet opening
outer_first_lem = refl

-- a vertex list with a repeat is no other's key
repeat : exterior (facet 0 0 (0 ∷ 1 ∷ 2 ∷ 1 ∷ []) ∷ facet 1 0 (0 ∷ 1 ∷ 2 ∷ []) ∷ []) ≡ 0 ∷ 1 ∷ []
unfolding facet opening
repeat = refl

one_cell : fuse (always outward) (box 0 0 ++ box 0 1) 1 ≡ refuse 18
unfolding box always facet opening
one_cell = refl

third : fuse (always outward) (box 0 0 ++ box 1 1 ++ (facet 2 0 (1 ∷ 17 ∷ 21 ∷ 5 ∷ []) ∷ [])) 3 ≡ refuse 19
unfolding box always facet opening
third = refl

opened : fuse (always outward) (facet 0 0 (0 ∷ 1 ∷ 2 ∷ []) ∷ []) 1 ≡ refuse 20
unfolding always facet opening
opened = refl

uncertified : fuse (λ g. refuse 21) (box 0 0) 1 ≡ refuse 21
unfolding box facet opening
uncertified = refl

second_outer : fuse (always outward) (box 0 0 ++ tetrahedron 0 40) 1 ≡ refuse 22
unfolding box tetrahedron always facet opening
second_outer = refl

no_outer : fuse (always inward) (box 0 0) 1 ≡ refuse 23
unfolding box always facet opening
no_outer = refl
