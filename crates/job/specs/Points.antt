-- The points of a solid and of a facet, one at a time, and where a solid's parts stand.
use Rattle.std.specs.Prelude.{◌≡◌, List, ◌∷◌, map, length, take, drop, get_or, Ok}
use Rattle.std.proofs.Math.Path.{refl, ap}
use Rattle.std.proofs.Common.{subst, ◌∙◌, arith, not-suc-le-zero, le_of_suc-le-suc, drop-drop, drop-cons}
use Prim.Native.Nat.{ℕ, zero, suc, ◌+◌, ◌*◌, ◌≤◌, ◌<◌}
use Rattle.std.proofs.Math.ListN.{length-map}
use Rattle.space.specs.declared.Point3.{Point3}
use Rattle.job.specs.declared.Span.{Span}
use Rattle.job.specs.Records.{standing, run_of, faces_of, span_end, span_faces, span_points, span_of, bodies, face_bodies}
use Rattle.job.specs.Bytes.{point_of, solid_of}
use Rattle.job.specs.Read.{point_from, point_at, bodies_at, solid_at}
use Rattle.job.specs.Runs.{stands_within}
use Rattle.job.specs.Parts.{passed, the_answer}
use Rattle.job.specs.Sound.{float_within}

pub length_bodies : (n c : ℕ) (s : List ℕ) → length (bodies n c s) ≡ c
unfolding bodies
length_bodies n zero s = refl
length_bodies n (suc c) s = ap suc (length_bodies n c (drop (suc n) s))

pub body_point : (s : List ℕ) → point_of (take 24 (drop 1 s)) ≡ point_from s
unfolding point_of point_from
body_point s =
    rw (float_within s 1 24 0 1 (omega arith) refl, float_within s 1 24 8 9 (omega arith) refl, float_within s 1 24 16 17 (omega arith) refl) refl

body_at : (n c i : ℕ) (s : List ℕ) (d : Point3) → i < c → get_or (map point_of (bodies 24 c s)) i d ≡ point_from (drop (25 * i) s)
unfolding bodies
body_at n zero i s d h = absurd (not-suc-le-zero h)
body_at n (suc c) zero s d h = body_point s
body_at n (suc c) (suc i) s d h =
    let k : 25 + 25 * i ≡ 25 * suc i = omega arith in
    body_at n c i (drop 25 s) d (le_of_suc-le-suc h) ∙ ap point_from (drop-drop (25 * i) 25 s ∙ ap (λ x. drop x s) k)

module _ (l : List ℕ) (at c : ℕ) where
  pub points_count : length (map point_of (bodies 24 c (drop at l))) ≡ c
  points_count = length-map (bodies 24 c (drop at l)) point_of ∙ length_bodies 24 c (drop at l)

  -- point i of those that begin at a place is the one that `point_at` reads
  pub point_is : (i : ℕ) (d : Point3) → i < c → get_or (map point_of (bodies 24 c (drop at l))) i d ≡ point_at l at i
  unfolding point_at
  point_is i d h = body_at 0 c i (drop at l) d h ∙ ap point_from (drop-drop (25 * i) at l)

module _ (l : List ℕ) (a : Span) where
  pub solid_count : length (solid_at l a).points ≡ a.points
  unfolding solid_at solid_of bodies_at
  solid_count = points_count l a.start a.points

  pub solid_point : (i : ℕ) (d : Point3) → i < a.points → get_or (solid_at l a).points i d ≡ point_at l a.start i
  unfolding solid_at solid_of bodies_at
  solid_point i d h = point_is l a.start a.points i d h

  -- the next point of a walk over them, and the rest
  pub solid_next : (i : ℕ) → i < a.points → drop i (solid_at l a).points ≡ point_at l a.start i ∷ drop (i + 1) (solid_at l a).points
  solid_next i h =
      let ps = (solid_at l a).points in
      let o = point_at l a.start i in
      let k : suc i ≡ i + 1 = omega arith in
      drop-cons ps i o (omega (arith, solid_count))
      ∙ ap (λ p. p ∷ drop (suc i) ps) (solid_point i o h)
      ∙ ap (λ x. o ∷ drop x ps) k

  length_faces : (n : ℕ) (s : List ℕ) → length (face_bodies n s) ≡ n
  unfolding face_bodies
  length_faces zero s = refl
  length_faces (suc n) s = ap suc (length_faces n (drop (1 + 3 * run_of 4 2 (drop 1 s)) s))

  pub face_count : length (solid_at l a).faces ≡ a.faces
  unfolding solid_at solid_of bodies_at
  face_count = length-map (face_bodies a.faces (drop a.middle l)) _ ∙ length_faces a.faces (drop a.middle l)

-- where the parts of a solid that was read stand
pub record Placed (l : List ℕ) (at : ℕ) (a : Span) : Type 0 where
  pub start : a.start ≡ at
  pub middle : a.middle ≡ at + 25 * a.points
  pub faces : record { faces = a.faces; corners = a.corners } ≡ faces_of (drop a.middle l)
  pub end : a.end ≡ a.middle + a.faces + 3 * a.corners + 1
  pub within : a.end ≤ length l

pub span_placed : (l : List ℕ) (at : ℕ) (a : Span) → span_of l at ≡ Ok a → Placed l at a
unfolding span_of span_points span_faces span_end faces_of
span_placed l at a e =
    let n = run_of 2 24 (drop at l) in
    let m = at + 25 * n in
    let f = faces_of (drop m l) in
    let last = m + f.faces + 3 * f.corners in
    let x : Span = record { start = at; points = n; middle = m; faces = f.faces; corners = f.corners; end = last + 1 } in
    subst (λ v. Placed l at v) (the_answer (standing 5 0 (drop last l)) x a e)
    (record { start = refl; middle = refl; faces = refl; end = refl; within = omega (arith, stands_within l last 5 0 (passed (standing 5 0 (drop last l)) x a e)) })
