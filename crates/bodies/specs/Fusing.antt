-- Fusing, after `conform`: which facets are listed, in which bodies and shells, in which order, and which refusal comes first. Definitions only.
use Rattle.std.specs.Prelude.{Bool, true, false, not, ◌||◌, ◌&&◌, List, [], ◌∷◌, ◌++◌, map, ℕ, zero, suc, ◌+◌, ◌-◌, ◌%◌, min, max, length, get_or, eqb, Ok}
use Rattle.refusal.specs.Outcome.{Outcome, refuse, then, unless, walk, each}
use Rattle.lists.specs.Walks.{Pair, cyclic}
use Rattle.sums.specs.Sum.{less, occ}
use Rattle.sums.specs.Keys.{keep, range, sorted, order, users, lone, pairs, nbrs}
use Rattle.sums.specs.Components.{components}

-- `Use` of fuse.rs without its plane, which decides nothing here. A facet is named by its place in the list.
pub record Facet : Type 0 where
  pub cell : ℕ
  pub vertices : List ℕ

abbrev pub no_facet : Facet
no_facet = record { cell = 0; vertices = [] }

-- a test of each number of a list, and of some
unfoldable pub every : (ℕ → Bool) → List ℕ → Bool
every t [] = true
every t (i ∷ l) = t i && every t l

unfoldable pub some : (ℕ → Bool) → List ℕ → Bool
some t [] = false
some t (i ∷ l) = t i || some t l

-- `same_cycle`: a is b turned back to front
unfoldable pub turned_by : List ℕ → List ℕ → ℕ → Bool
turned_by a b shift = every (λ i. eqb (get_or a i 0) (get_or b ((shift + length b - i) % length b) 0)) (range (length a))

unfoldable pub same_cycle : List ℕ → List ℕ → Bool
same_cycle a b = eqb (length a) (length b) && some (turned_by a b) (range (length b))

-- A facet of a body runs an edge: the facet by its place in the body.
pub record Run : Type 0 where
  pub face : ℕ
  pub tail : ℕ
  pub tip : ℕ

abbrev pub no_run : Run
no_run = record { face = 0; tail = 0; tip = 0 }

abbrev pub run_of : ℕ → Pair ℕ → Run
run_of p e = record { face = p; tail = e.from; tip = e.to }

-- The sense of a shell's certified volume.
pub data Sense : Type 0 where
  outward inward : Sense

-- Bodies, their shells, their facets.
abbrev pub Bodies : Type 0
Bodies = List (List (List ℕ))

-- ---- facets meet by equal sorted vertex lists, repeats counted

module _ (fs : List Facet) where
  abbrev pub cell_of : ℕ → ℕ
  cell_of i = (get_or fs i no_facet).cell

  abbrev pub vertices_of : ℕ → List ℕ
  vertices_of i = (get_or fs i no_facet).vertices

  abbrev pub keys : List (List ℕ)
  keys = map (λ f. sorted f.vertices) fs

  -- 18 and 19, of those that share a key
  unfoldable pub judge_users : List ℕ → Outcome (Unit {0})
  judge_users [] = Ok tt
  judge_users (a ∷ []) = Ok tt
  judge_users (a ∷ b ∷ []) = unless (eqb (cell_of a) (cell_of b) || not (same_cycle (vertices_of a) (vertices_of b))) 18 (Ok tt)
  judge_users (a ∷ b ∷ c ∷ l) = refuse 19

  unfoldable pub check_facets : Outcome (Unit {0})
  check_facets = walk (λ _ i. judge_users (users keys i)) tt (order keys)

  abbrev pub exterior : List ℕ
  exterior = lone keys

  abbrev pub interfaces : List (ℕ × ℕ)
  interfaces = map (λ p. (cell_of p.0, cell_of p.1)) (pairs keys)

  abbrev pub adjacency : ℕ → List ℕ
  adjacency = nbrs interfaces

  -- ---- edges, per body

  -- the facets of a body, in the order of their keys
  unfoldable pub faces_of : List ℕ → List ℕ
  faces_of c = keep (λ i. occ (cell_of i) c) exterior

  -- the edges that a body's facets run, facet by facet
  unfoldable pub runs : ℕ → List ℕ → List Run
  runs p [] = []
  runs p (i ∷ is) = map (run_of p) (cyclic (vertices_of i)) ++ runs (suc p) is

abbrev pub rises : Run → ℕ
rises r = less r.tail r.tip

module _ (rs : List Run) where
  abbrev pub run_at : ℕ → Run
  run_at x = get_or rs x no_run

  abbrev pub edge_keys : List (List ℕ)
  edge_keys = map (λ r. min r.tail r.tip ∷ max r.tail r.tip ∷ []) rs

  -- 20, of the runs that share an edge
  unfoldable pub judge_edge : List ℕ → Outcome (Unit {0})
  judge_edge [] = refuse 20
  judge_edge (x ∷ []) = refuse 20
  judge_edge (x ∷ y ∷ []) = unless (eqb (run_at x).face (run_at y).face || eqb (rises (run_at x)) (rises (run_at y))) 20 (Ok tt)
  judge_edge (x ∷ y ∷ z ∷ l) = refuse 20

  unfoldable pub check_edges : Outcome (Unit {0})
  check_edges = walk (λ _ x. judge_edge (users edge_keys x)) tt (order edge_keys)

  unfoldable pub edges : List (ℕ × ℕ)
  edges = map (λ p. ((run_at p.0).face, (run_at p.1).face)) (pairs edge_keys)

  abbrev pub neighbors : ℕ → List ℕ
  neighbors = nbrs edges

-- ---- shells

-- The shells of a body so far: the outward one, once met, and the inward ones as found.
pub record Shells : Type 0 where
  pub outer : List (List ℕ)
  pub inner : List (List ℕ)

unfoldable pub place_outer : List (List ℕ) → List (List ℕ) → List ℕ → Outcome Shells
place_outer [] inner g = Ok (record { outer = g ∷ []; inner = inner })
place_outer (o ∷ os) inner g = refuse 22

unfoldable pub place_by : Shells → List ℕ → Sense → Outcome Shells
place_by s g outward = place_outer s.outer s.inner g
place_by s g inward = Ok (record { outer = s.outer; inner = s.inner ++ (g ∷ []) })

unfoldable pub outer_first : List (List ℕ) → List (List ℕ) → Outcome (List (List ℕ))
outer_first [] inner = refuse 23
outer_first (o ∷ os) inner = Ok ((o ∷ os) ++ inner)

-- The sign of a shell's volume is a parameter: 21 where it is not certified.
module _ (volume : List ℕ → Outcome Sense) where
  unfoldable pub place_shell : Shells → List ℕ → Outcome Shells
  place_shell s g = then (volume g) (place_by s g)

  unfoldable pub order_shells : List (List ℕ) → Outcome (List (List ℕ))
  order_shells gs = then (walk place_shell (record { outer = []; inner = [] }) gs) (λ s. outer_first s.outer s.inner)

-- ---- bodies

module _ (fs : List Facet) where
  -- the shells of a body, as found
  unfoldable pub shells_of : List ℕ → List (List ℕ)
  shells_of c =
      let faces = faces_of fs c in
      map (map (λ p. get_or faces p 0)) (components (length faces) (neighbors (runs fs 0 faces)))

  -- the cells of each body
  unfoldable pub materials : ℕ → List (List ℕ)
  materials n = components n (adjacency fs)

module _ (volume : List ℕ → Outcome Sense) (fs : List Facet) where
  -- the shells of the body of some cells, the outward one first
  unfoldable pub body_of : List ℕ → Outcome (List (List ℕ))
  body_of c = then (check_edges (runs fs 0 (faces_of fs c))) (λ _. order_shells volume (shells_of fs c))

  -- the bodies of n cells
  unfoldable pub fuse : ℕ → Outcome Bodies
  fuse n = then (check_facets fs) (λ _. each body_of [] (materials fs n))
