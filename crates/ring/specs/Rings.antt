-- One face of a cell against the plane of a cut: 7; 7, 8, 9, 12. Definitions only.
use Rattle.std.specs.Prelude.{◌≡◌, ℕ, ◌≤◌, List, [], ◌∷◌, ◌++◌, length, leb, Float, Ok, Err}
use Rattle.std.specs.Result.{IfOk}
use Rattle.refusal.specs.Outcome.{Outcome, then, unless, walk}
use Rattle.lists.specs.Walks.{Pair, cyclic}
use Rattle.space.specs.declared.Point3.{Point3}
use Rattle.space.specs.declared.Plane.{Plane}
use Rattle.space.specs.declared.Precision.{Precision}
use Rattle.side.specs.declared.Side.{Side}
use Rattle.side.specs.Sides.{side_of}
use Rattle.polygon.specs.Memory.{points_at}
use Rattle.edge.specs.declared.Meet.{Meet}
use Rattle.edge.specs.declared.Meet.TheVariants.{Keep, Drop, Touch, Cut}
use Rattle.edge.specs.Meets.{Signs, noted, corner_meet, edge_meet}
use Rattle.ring.specs.declared.Ringed.{Ringed}

-- ---- the sides of its corners

unfoldable pub sign_one : Precision → Plane → Signs → Point3 → Outcome Signs
sign_one t w s q = noted s (side_of t w q)

-- ---- a face, corner by corner

-- what the face has so far, and the cap
pub record Ring : Type 0 where
  pub face : List Point3
  pub cap : List Point3

-- 01, "Room": 12 when a face would get its 129th corner or a cap its 1,025th point, before near ones are dropped
unfoldable pub push_face : Ring → Point3 → Outcome Ring
push_face s q = unless (leb 128 (length s.face)) 12 (Ok (record { face = s.face ++ (q ∷ []); cap = s.cap }))

unfoldable pub push_cap : Ring → Point3 → Outcome Ring
push_cap s q = unless (leb 1024 (length s.cap)) 12 (Ok (record { face = s.face; cap = s.cap ++ (q ∷ []) }))

unfoldable pub push_both : Ring → Point3 → Outcome Ring
push_both s q = then (push_face s q) (λ s'. push_cap s' q)

unfoldable pub pushed : Ring → Point3 → Outcome Meet → Outcome Ring
pushed s a (Ok Keep) = push_face s a
pushed s a (Ok Drop) = Ok s
pushed s a (Ok Touch) = push_both s a
pushed s a (Ok (Cut x y z)) = push_both s (record { x = x; y = y; z = z })
pushed s a (Err r) = Err r

-- the corner at the edge's start, then the point where the edge crosses the plane
unfoldable pub cut_by : Precision → Plane → Ring → Point3 → Point3 → Outcome Side → Outcome Side → Outcome Ring
cut_by t w s a b sa sb = then (pushed s a (corner_meet sa sb)) (λ s'. pushed s' a (edge_meet t w a b sa sb))

unfoldable pub cut_edge : Precision → Plane → Ring → Pair Point3 → Outcome Ring
cut_edge t w s e = cut_by t w s e.from e.to (side_of t w e.from) (side_of t w e.to)

unfoldable pub cut_ring : Precision → Plane → List Point3 → List Point3 → Outcome Ring
cut_ring t w cap l = walk (cut_edge t w) (record { face = []; cap = cap }) (cyclic l)

-- what the answer of a cut says: the corners and the cap's points stand at the front of two slices
unfoldable pub ring_of : Outcome Ringed → List Float → List Float → Outcome Ring
ring_of (Ok s) face cap = Ok (record { face = points_at face 0 s.corners; cap = points_at cap 0 s.caps })
ring_of (Err r) face cap = Err r

-- 128 corners and 1,024 points fit into the slices, and there are no more
pub record Roomy (s : Ringed) (face cap : List Float) : Type 0 where
  pub few : s.corners ≤ 128
  pub few_caps : s.caps ≤ 1024
  pub face_fits : 384 ≤ length face
  pub cap_fits : 3072 ≤ length cap

abbrev pub Bounded : Outcome Ringed → Type 0
Bounded r = IfOk r (λ x. (x.corners ≤ 128) × (x.caps ≤ 1024))

-- a point more behind the n points at the front of a slice, of which there may be as many as the limit
pub record Added (limit : ℕ) (q : Point3) (n : ℕ) (r : Outcome ℕ) (s s' : List Float) : Type 0 where
  pub is : then r (λ m. Ok (points_at s' 0 m)) ≡ unless (leb limit n) 12 (Ok (points_at s 0 n ++ (q ∷ [])))
  pub few : IfOk r (λ m. m ≤ limit)

-- one step of a cut
pub record Step (f : Ring → Outcome Ring) (s : Ringed) (r : Outcome Ringed) (face cap face' cap' : List Float) : Type 0 where
  pub is : ring_of r face' cap' ≡ then (ring_of (Ok s) face cap) f
  pub few : Bounded r

-- the same of one slice, whatever the other holds
pub record FaceStep (q : Point3) (s : Ringed) (r : Outcome Ringed) (face face' : List Float) : Type 0 where
  pub is : (cap : List Float) → ring_of r face' cap ≡ then (ring_of (Ok s) face cap) (λ x. push_face x q)
  pub few : Bounded r

pub record CapStep (q : Point3) (s : Ringed) (r : Outcome Ringed) (cap cap' : List Float) : Type 0 where
  pub is : (face : List Float) → ring_of r face cap' ≡ then (ring_of (Ok s) face cap) (λ x. push_cap x q)
  pub few : Bounded r

-- the ring of a face, and the cap with its points
pub record Rung (o : Outcome Ring) (r : Outcome Ringed) (face cap : List Float) : Type 0 where
  pub is : ring_of r face cap ≡ o
  pub few : Bounded r
