-- The bytes of the bodies that lie in slices. Definitions only.
use Rattle.std.specs.Prelude.{List, [], ◌∷◌, ◌++◌, ℕ, ◌+◌, ◌*◌, ◌≤◌, ◌<◌, length, take, get_or, Float, Ok}
use Rattle.std.proofs.lemmas.List.Edits.{sets}
use Rattle.refusal.specs.Outcome.{Outcome, then}
use Rattle.space.specs.Shapes.{Face}
use Rattle.words.specs.Little.{digits}
use Rattle.answer.specs.Answers.{shell_answer}
use Rattle.room.specs.Rooms.{counts_at, Within}
use Rattle.writer.specs.Rows.{row}
use Rattle.keys.specs.Rows.{Starts}
use Rattle.volume.specs.Shell.{Points}
use Rattle.fused_answer.specs.Fused.{body_bytes}
use Rattle.fused_answer.specs.Bodies.{bodies_at, Stacked}
use Rattle.fused_answer.specs.Spots.{spots_from}
use Rattle.fuse_list.specs.declared.Listing.{Listing}

-- the first shell of a body is outward, the others are inward
unfoldable pub shells_answer : ℕ → List (List Face) → List ℕ
shells_answer sense [] = []
shells_answer sense (g ∷ gs) = shell_answer sense g ++ shells_answer 0 gs

-- "for each body u32 shells"
unfoldable pub body_answer : List (List Face) → List ℕ
body_answer b = digits 4 (length b) ++ shells_answer 1 b

unfoldable pub fused_answer : List (List (List Face)) → List ℕ
fused_answer bs = row body_answer bs

unfoldable pub answer_of : Outcome (List (List (List Face))) → Outcome (List ℕ)
answer_of o = then o (λ bs. Ok (fused_answer bs))

-- d and n: the faces of the cells; p, c, s: the arrangement; x, z, b: its bodies
module _ (y : Listing) (d : List Float) (n : List ℕ) (p : List Float) (c s x z b spots : List ℕ) where
  -- where the planes stand
  unfoldable pub spots_at : List ℕ
  spots_at = sets spots 0 (spots_from 0 (counts_at n 0 y.layout.facets))

  -- the bodies' bytes, one behind another
  unfoldable pub printed : List ℕ
  printed = row (body_bytes d spots_at (take (3 * y.layout.points) p) (take y.layout.vertices c) (take (y.layout.facets + 1) s)) (bodies_at (take y.fused.facets x) z 0 0 (counts_at b 0 y.fused.bodies))

  -- the slices hold what was laid out, and there is room for the bytes
  pub record Printable (out : List ℕ) : Type 0 where
    pub few : y.layout.points ≤ 4096
    pub low : y.layout.facets ≤ 4611686018427387904
    pub points : 3 * y.layout.points ≤ length p
    pub cycles : y.layout.vertices ≤ length c
    pub starts : y.layout.facets < length s
    pub counts : y.layout.facets ≤ length n
    pub spotted : y.layout.facets ≤ length spots
    pub within : Within (counts_at n 0 y.layout.facets) 0 (length d)
    pub rows : Starts (take y.layout.vertices c) (take (y.layout.facets + 1) s) y.layout.facets
    pub vertices : Points (take (3 * y.layout.points) p) (take y.layout.vertices c)
    pub listed : y.fused.facets ≤ length x
    pub inside : (i : ℕ) → i < length (take y.fused.facets x) → get_or (take y.fused.facets x) i 0 < y.layout.facets
    pub bodies : y.fused.bodies ≤ length b
    pub stacked : Stacked (take y.fused.facets x) z 0 0 (counts_at b 0 y.fused.bodies)
    pub fits : length printed ≤ length out

-- the bytes of an answer; a refusal has none
unfoldable pub print_at : Outcome Listing → List Float → List ℕ → List Float → List ℕ → List ℕ → List ℕ → List ℕ → List ℕ → List ℕ → Outcome (List ℕ)
print_at r d n p c s x z b spots = then r (λ y. Ok (printed y d n p c s x z b spots))
