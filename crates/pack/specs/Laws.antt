-- Laws of the flat forms, in the words of the code.
use Rattle.std.specs.Prelude.{◌≡◌, refl, true, false, List, [], ◌∷◌, ◌++◌, map, ℕ, suc, ◌+◌, ◌*◌, ◌-◌, ◌≤◌, ◌<◌, length, drop, set, Float}
use Rattle.std.proofs.Common.{sym, ap, ◌∙◌, arith, drop-drop}
use Rattle.std.proofs.lemmas.List.{length-map}
use Rattle.std.proofs.lemmas.List.Edits.{sets}
use Rattle.space.specs.declared.Point3.{Point3}
use Rattle.space.specs.declared.Precision.{Precision}
use Rattle.words.specs.Little.{little, digits, index_at, float_bytes}
use Rattle.words.specs.Laws.{length_float}
use Rattle.job.specs.declared.Operation.{Operation}
use Rattle.job.specs.declared.Span.{Span}
use Rattle.job.specs.Records.{standing, run_of, faces_of, bodies, face_bodies}
use Rattle.job.specs.Bytes.{point_of, solid_of, operation_byte}
use Rattle.job.specs.Written.{precision_bytes, point_bytes}
use Rattle.job.specs.Read.{point_at, bodies_at, solid_at}
use Rattle.job.specs.Runs.{faces_more, faces_none}
use Rattle.job.specs.Points.{length_bodies, body_point, Placed}
use Rattle.pack.specs.Flat.{coordinates, points_from, corners_from, faces_from, precision_record, point_record, corner_record, operation_record}

-- ---- stores one after the other

pub sets_more : {A : Type 0} (l : List A) (i : ℕ) (xs ys : List A) → sets l i (xs ++ ys) ≡ sets (sets l i xs) (i + length xs) ys
sets_more l i [] ys = let k : i ≡ i + 0 = omega arith in ap (λ x. sets l x ys) k
sets_more l i (a ∷ xs) ys =
    let k : suc i + length xs ≡ i + suc (length xs) = omega arith in
    sets_more (set l i a) (suc i) xs ys ∙ ap (λ x. sets (sets (set l i a) (suc i) xs) x ys) k

-- ---- how many points there are

pub length_from : (l : List ℕ) (at n : ℕ) → length (points_from l at n) ≡ n
unfolding points_from
length_from l at n = length-map (bodies 24 n (drop at l)) point_of ∙ length_bodies 24 n (drop at l)

-- ---- the corners of a face, one more in a turn

pub corners_more : (l : List ℕ) (at n j : ℕ) → j < n → corners_from l (at + 3 * j) (n - j) ≡ index_at l (at + 3 * j + 1) ∷ corners_from l (at + 3 * (j + 1)) (n - (j + 1))
unfolding corners_from bodies index_at
corners_more l at n j h =
    let e : n - j ≡ suc (n - (j + 1)) = omega arith in
    let k : at + 3 * j + 3 ≡ at + 3 * (j + 1) = omega arith in
    rw (e, drop-drop 1 (at + 3 * j) l, drop-drop 3 (at + 3 * j) l, k) refl

pub corners_none : (l : List ℕ) (at n j : ℕ) → n ≤ j → corners_from l at (n - j) ≡ []
unfolding corners_from bodies
corners_none l at n j h = let e : n - j ≡ 0 = omega arith in rw e refl

pub corners_count : (l : List ℕ) (at n : ℕ) → length (corners_from l at n) ≡ n
unfolding corners_from
corners_count l at n = length-map (bodies 2 n (drop at l)) little ∙ length_bodies 2 n (drop at l)

-- ---- faces, one more in a turn

pub face_more : (l : List ℕ) (at n : ℕ) → standing 3 0 (drop at l) ≡ true → n ≡ run_of 4 2 (drop (at + 1) l) → faces_from l at ≡ corners_from l (at + 1) n ∷ faces_from l (at + (1 + 3 * n))
unfolding faces_from corners_from face_bodies
face_more l at n e q =
    let d : drop 1 (drop at l) ≡ drop (at + 1) l = drop-drop 1 at l in
    let r : drop (1 + 3 * n) (drop at l) ≡ drop (at + (1 + 3 * n)) l = drop-drop (1 + 3 * n) at l in
    rw (faces_more l at n e q, d, ← q, r) refl

pub face_none : (l : List ℕ) (at : ℕ) → standing 3 0 (drop at l) ≡ false → faces_from l at ≡ []
unfolding faces_from face_bodies
face_none l at e = rw (faces_none (drop at l) e) refl

-- the faces of a solid that was read
pub solid_faces : (l : List ℕ) (at : ℕ) (a : Span) → Placed l at a → (solid_at l a).faces ≡ faces_from l a.middle
unfolding solid_at solid_of bodies_at faces_from faces_of
solid_faces l at a p = ap (λ f. map (map little) (face_bodies f.faces (drop a.middle l))) p.faces

pub solid_points : (l : List ℕ) (a : Span) → (solid_at l a).points ≡ points_from l a.start a.points
unfolding solid_at solid_of bodies_at points_from
solid_points l a = refl

-- ---- points, one more in a turn

pub points_more : (l : List ℕ) (start n i : ℕ) → i < n → points_from l (start + 25 * i) (n - i) ≡ point_at l start i ∷ points_from l (start + 25 * (i + 1)) (n - (i + 1))
unfolding points_from bodies point_at
points_more l start n i h =
    let e : n - i ≡ suc (n - (i + 1)) = omega arith in
    let k : start + 25 * i + 25 ≡ start + 25 * (i + 1) = omega arith in
    rw (e, body_point (drop (start + 25 * i) l), drop-drop 25 (start + 25 * i) l, k) refl

pub points_none : (l : List ℕ) (at n i : ℕ) → n ≤ i → points_from l at (n - i) ≡ []
unfolding points_from bodies
points_none l at n i h = let e : n - i ≡ 0 = omega arith in rw e refl

pub coordinates_more : (out : List Float) (at : ℕ) (p : Point3) (rest : List Float) → sets out at (coordinates p ++ rest) ≡ sets (sets out at (coordinates p)) (at + 3) rest
unfolding coordinates
coordinates_more out at p rest = sets_more out at (p.x ∷ p.y ∷ p.z ∷ []) rest

-- ---- records stored part by part

pub precision_stored : (out a b : List ℕ) (at : ℕ) (p : Precision) → a ≡ sets (set out at 1) (at + 1) (float_bytes p.linear) → b ≡ sets a (at + 9) (float_bytes p.local) → b ≡ sets out at (precision_record p)
unfolding precision_record precision_bytes
precision_stored out a b at p e f =
    let x = float_bytes p.linear in
    let y = float_bytes p.local in
    let i : at + 1 ≡ suc at = omega arith in
    let j : at + 9 ≡ suc at + length x = omega (arith, length_float p.linear) in
    f
    ∙ ap (λ l. sets l (at + 9) y) (e ∙ ap (λ k. sets (set out at 1) k x) i)
    ∙ ap (λ k. sets (sets (set out at 1) (suc at) x) k y) j
    ∙ sym (sets_more (set out at 1) (suc at) x y)

pub point_stored : (out a b c : List ℕ) (at : ℕ) (p : Point3) → a ≡ sets (set out at 2) (at + 1) (float_bytes p.x) → b ≡ sets a (at + 9) (float_bytes p.y) → c ≡ sets b (at + 17) (float_bytes p.z)
    → c ≡ sets out at (point_record p)
unfolding point_record point_bytes
point_stored out a b c at p e f g =
    let x = float_bytes p.x in
    let y = float_bytes p.y in
    let z = float_bytes p.z in
    let i : at + 1 ≡ suc at = omega arith in
    let j : at + 9 ≡ suc at + length x = omega (arith, length_float p.x) in
    let k : at + 17 ≡ suc at + length x + length y = omega (arith, length_float p.x, length_float p.y) in
    let first : a ≡ sets (set out at 2) (suc at) x = e ∙ ap (λ n. sets (set out at 2) n x) i in
    let second : b ≡ sets (sets (set out at 2) (suc at) x) (suc at + length x) y = f ∙ ap (λ n. sets a n y) j ∙ ap (λ l. sets l (suc at + length x) y) first in
    g
    ∙ ap (λ n. sets b n z) k
    ∙ ap (λ l. sets l (suc at + length x + length y) z) second
    ∙ sym (sets_more (sets (set out at 2) (suc at) x) (suc at + length x) y z)
    ∙ sym (sets_more (set out at 2) (suc at) x (y ++ z))

pub corner_stored : (out a : List ℕ) (at i : ℕ) → a ≡ sets (set out at 4) (at + 1) (digits 2 i) → a ≡ sets out at (corner_record i)
unfolding corner_record
corner_stored out a at i e = let k : at + 1 ≡ suc at = omega arith in e ∙ ap (λ n. sets (set out at 4) n (digits 2 i)) k

pub operation_stored : (out : List ℕ) (at : ℕ) (o : Operation) (b : ℕ) → b ≡ operation_byte o → set (set out at 6) (at + 1) b ≡ sets out at (operation_record o)
unfolding operation_record
operation_stored out at o b e = let k : at + 1 ≡ suc at = omega arith in ap (λ n. set (set out at 6) n b) k ∙ ap (λ v. set (set out at 6) (suc at) v) e
