-- The faces of a solid among each other: 4. A face is the list of its corners' places among the points. Definitions only.
use Rattle.std.specs.Prelude.{ℕ, suc, ◌+◌, ◌/◌, Bool, true, false, ◌&&◌, cond, List, [], ◌∷◌, ◌++◌, map, length, eqb, ltb}
use Rattle.lists.specs.Walks.{Pair, cyclic, all}
use Rattle.sums.specs.Components.{components}
use Rattle.groups.specs.Chain.{up_from}
use Rattle.groups.specs.Groups.{joins_of}
use Rattle.solids.specs.Sides.{has}

-- a corner of a face: the face's number, the point there, and the next point of the face; a directed edge leads from the one to the other
pub record Corner : Type 0 where
  pub face : ℕ
  pub point : ℕ
  pub next : ℕ

abbrev pub corner_of : ℕ → Pair ℕ → Corner
corner_of k e = record { face = k; point = e.from; next = e.to }

-- the corners of all faces, which are numbered from k on
unfoldable pub corners_of : ℕ → List (List ℕ) → List Corner
corners_of k [] = []
corners_of k (f ∷ fs) = map (corner_of k) (cyclic f) ++ corners_of (suc k) fs

-- n, and how many elements pass a test
unfoldable pub count : {A : Type 0} → (A → Bool) → ℕ → List A → ℕ
count t n [] = n
count t n (x ∷ l) = count t (cond (t x) (n + 1) n) l

abbrev pub once : {A : Type 0} → (A → Bool) → List A → Bool
once t l = eqb (count t 0 l) 1

-- the point x of face f
abbrev pub is_point : ℕ → ℕ → Corner → Bool
is_point f x c = eqb c.face f && eqb c.point x

-- the directed edge from a to b
abbrev pub is_edge : ℕ → ℕ → Corner → Bool
is_edge a b c = eqb c.point a && eqb c.next b

-- of a corner among all, with m points: "indices in range, none twice in a face, each directed edge once and its reverse once"
unfoldable pub fits : ℕ → List Corner → Corner → Bool
fits m cs c =
    ((ltb c.point m && once (is_point c.face c.point) cs) && once (is_edge c.point c.next) cs) && once (is_edge c.next c.point) cs

-- "every point used": each number below m is the place of a corner
unfoldable pub used_all : ℕ → List Corner → Bool
used_all m cs = all (λ x. has x false (map (λ c. c.point) cs)) true (up_from 0 m)

-- the face that has the edge from a to b, or else f
unfoldable pub face_with : ℕ → ℕ → ℕ → List Corner → ℕ
face_with a b f [] = f
face_with a b f (c ∷ l) = face_with a b (cond (is_edge a b c) c.face f) l

-- the face across a corner's edge: the one that has its reverse
abbrev pub across : List Corner → Corner → ℕ
across cs c = face_with c.next c.point c.face cs

-- each edge joins its face and the one across
unfoldable pub joins : List Corner → List Corner → List ℕ
joins cs [] = []
joins cs (c ∷ l) = c.face ∷ across cs c ∷ joins cs l

-- "all faces connected through edges": n faces, so joined, are one class; `connected_chains` of specs/Chains says it of chains of faces
unfoldable pub connected : ℕ → List Corner → Bool
connected n cs = eqb (length (components n (joins_of (joins cs cs)))) 1

-- "points - edges + faces = 2", an edge being two directed ones
unfoldable pub rounded : ℕ → ℕ → ℕ → Bool
rounded m n c = eqb (m + n) (c / 2 + 2)

-- of m points, n faces and their corners
unfoldable pub sound_by : ℕ → ℕ → List Corner → Bool
sound_by m n cs = ((all (fits m cs) true cs && used_all m cs) && connected n cs) && rounded m n (length cs)

-- 4 where it is false
unfoldable pub sound : ℕ → List (List ℕ) → Bool
sound m fs = sound_by m (length fs) (corners_of 0 fs)
