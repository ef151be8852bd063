-- What fusing lists: the facets that no other facet meets, each once.
use Rattle.std.proofs.Math.Path.{◌≡◌}
use Rattle.std.specs.Prelude.{ℕ, ◌+◌, ◌<◌, Ok, Err}
use mathlib.Core.List.{List, ◌++◌}
use Rattle.std.proofs.Math.ListN.{length}
use Rattle.refusal.specs.Outcome.{Outcome}
use Rattle.sums.specs.Sum.{sum, occ, Each}
use Rattle.sums.specs.Keys.{keep, key}
use Rattle.bodies.specs.Fusing.{Facet, cell_of, keys, faces_of, runs, check_facets, check_edges, Sense, outward, inward, shells_of, body_of, materials, Bodies}
use Rattle.bodies.specs.Passed.{Made}

-- ---- the shells of a body are the outward one and the inward ones
abbrev pub is_outward : Outcome Sense → ℕ
is_outward (Ok outward) = 1
is_outward (Ok inward) = 0
is_outward (Err r) = 0

abbrev pub is_inward : Outcome Sense → ℕ
is_inward (Ok outward) = 0
is_inward (Ok inward) = 1
is_inward (Err r) = 0

module _ (volume : List ℕ → Outcome Sense) where
  abbrev pub out_of : List (List ℕ) → List (List ℕ)
  out_of gs = keep (λ g. is_outward (volume g)) gs

  abbrev pub in_of : List (List ℕ) → List (List ℕ)
  in_of gs = keep (λ g. is_inward (volume g)) gs

  -- Every shell is certified, one way or the other.
  abbrev pub Certified : List ℕ → Type 0
  Certified g = is_outward (volume g) + is_inward (volume g) ≡ 1

  -- The shells of a body in order: the outward one, and then the inward ones as found.
  pub record Ordered (gs b : List (List ℕ)) : Type 0 where
    pub parts : b ≡ out_of gs ++ in_of gs
    pub one : length (out_of gs) ≡ 1
    pub all : Each Certified gs

-- What a body is made of.
pub record BodyMade (volume : List ℕ → Outcome Sense) (fs : List Facet) (c : List ℕ) (b : List (List ℕ)) : Type 0 where
  pub edges_fine : check_edges (runs fs 0 (faces_of fs c)) ≡ Ok tt
  pub shells : Ordered volume (shells_of fs c) b
  -- any weight of a body is that of its facets
  pub weight : (f : ℕ → ℕ) → sum (sum f) b ≡ sum f (faces_of fs c)

-- Each facet names a cell.
abbrev pub Valid : List Facet → ℕ → Type 0
Valid fs n = (i : ℕ) → i < length fs → cell_of fs i < n

-- How often a facet stands in an answer.
abbrev pub listed : ℕ → Bodies → ℕ
listed i bs = sum (sum (occ i)) bs

abbrev pub key_of : List Facet → ℕ → List ℕ
key_of fs i = key (keys fs) i

-- What an answer tells.
pub record Answered (volume : List ℕ → Outcome Sense) (fs : List Facet) (n : ℕ) (bs : Bodies) : Type 0 where
  pub facets_fine : check_facets fs ≡ Ok tt
  pub made : Made (body_of volume fs) (materials fs n) bs
