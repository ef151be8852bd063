-- Laws of the writer's loops, in the words of the code.
use Rattle.std.specs.Prelude.{◌≡◌, refl, ℕ, ◌+◌, ◌*◌, ◌≤◌, set, Float}
use Rattle.std.proofs.Common.{sym, ◌∙◌, add-one}
use Rattle.std.proofs.Math.Path.{ap}
use mathlib.Core.List.{List, [], ◌∷◌, ◌++◌, map, append_assoc}
use native.Mathlib.Omega.{arith}
use Rattle.std.proofs.Math.ListN.{length, length-append}
use Rattle.std.proofs.lemmas.List.Edits.{sets}
use Rattle.space.specs.declared.Point3.{Point3}
use Rattle.space.specs.declared.Precision.{Precision}
use Rattle.space.specs.Shapes.{Solid}
use Rattle.words.specs.Little.{digits, float_bytes}
use Rattle.words.specs.Laws.{length_digits, length_float}
use Rattle.polygon.specs.Memory.{points_at}
use Rattle.polygon.specs.MemoryLaws.{length_points_at}
use Rattle.room.specs.Rooms.{counts_at}
use Rattle.room.specs.Laws.{sets_append}
use Rattle.job.specs.declared.Operation.{Operation}
use Rattle.job.specs.Bytes.{records_to, faces_to, solid_to, job_bytes, operation_byte}
use Rattle.job.specs.Written.{precision_bytes, point_bytes, solid_bodies, job_bodies, length_point}
use Rattle.pack.specs.Flat.{precision_record, point_record, corner_record, operation_record}
use Rattle.solids.specs.Frames.{faces_at}
use Rattle.writer.specs.Rows.{row, length_row, PointRow, points_end, NumberRow, numbers_end, FaceRow, faces_end}
use Rattle.writer.specs.Writing.{solid_in, face_record, faces_bytes, solid_bytes, written_job}

-- ---- records before other bytes

records_to_lem : (k : ℕ) (bs : List (List ℕ)) (s : List ℕ) → records_to k bs s ≡ records_to k bs [] ++ s
unfolding records_to
records_to_lem k [] s = refl
records_to_lem k (b ∷ bs) s = ap (λ r. k ∷ b ++ r) (records_to_lem k bs s) ∙ ap (λ r. k ∷ r) (sym (append_assoc b (records_to k bs []) s))

faces_to_lem : (fs : List (List (List ℕ))) (s : List ℕ) → faces_to fs s ≡ faces_to fs [] ++ s
unfolding faces_to
faces_to_lem [] s = refl
faces_to_lem (c ∷ fs) s =
    ap (λ r. 3 ∷ records_to 4 c r) (faces_to_lem fs s)
    ∙ ap (λ r. 3 ∷ r) (records_to_lem 4 c (faces_to fs [] ++ s) ∙ sym (append_assoc (records_to 4 c []) (faces_to fs []) s) ∙ ap (λ r. r ++ s) (sym (records_to_lem 4 c (faces_to fs []))))

solid_to_lem : (s : Solid) (r : List ℕ) → solid_to (solid_bodies s) r ≡ solid_bytes s ++ r
unfolding solid_to solid_bytes
solid_to_lem s r =
    let p = (solid_bodies s).points in
    let f = (solid_bodies s).faces in
    let e : faces_to f (5 ∷ r) ≡ faces_to f (5 ∷ []) ++ r = faces_to_lem f (5 ∷ r) ∙ sym (append_assoc (faces_to f []) (5 ∷ []) r) ∙ ap (λ x. x ++ r) (sym (faces_to_lem f (5 ∷ []))) in
    ap (records_to 2 p) e
    ∙ records_to_lem 2 p (faces_to f (5 ∷ []) ++ r)
    ∙ sym (append_assoc (records_to 2 p []) (faces_to f (5 ∷ [])) r)
    ∙ ap (λ x. x ++ r) (sym (records_to_lem 2 p (faces_to f (5 ∷ []))))

-- ---- lengths

-- ---- records of one kind are a row

points_row : (l : List Point3) → row point_record l ≡ records_to 2 (map point_bytes l) []
unfolding row records_to point_record
points_row [] = refl
points_row (p ∷ l) = ap (λ r. 2 ∷ point_bytes p ++ r) (points_row l)

corners_row : (l : List ℕ) → row corner_record l ≡ records_to 4 (map (digits 2) l) []
unfolding row records_to corner_record
corners_row [] = refl
corners_row (i ∷ l) = ap (λ r. 4 ∷ digits 2 i ++ r) (corners_row l)

pub length_point_record : (p : Point3) → length (point_record p) ≡ 25
unfolding point_record
length_point_record p = omega (arith, length_point p)

pub length_corner_record : (i : ℕ) → length (corner_record i) ≡ 3
unfolding corner_record
length_corner_record i = omega (arith, length_digits 2 i)

pub points_written : {s : List Float} {m : ℕ} {out₀ : List ℕ} {at : ℕ} {out : List ℕ} {i : ℕ} → PointRow point_record 25 s 0 m out₀ at out i → m ≤ i →
    out ≡ sets out₀ at (records_to 2 (map point_bytes (points_at s 0 m)) [])
points_written {s} {m} {out₀} {at} v h = points_end point_record 25 v h ∙ ap (sets out₀ at) (points_row (points_at s 0 m))

pub corners_written : {l : List ℕ} {k n : ℕ} {out₀ : List ℕ} {at : ℕ} {out : List ℕ} {i : ℕ} → NumberRow corner_record 3 l k n out₀ at out i → n ≤ i →
    out ≡ sets out₀ at (records_to 4 (map (digits 2) (counts_at l k n)) [])
corners_written {l} {k} {n} {out₀} {at} v h = numbers_end corner_record 3 v h ∙ ap (sets out₀ at) (corners_row (counts_at l k n))

length_points : (l : List Point3) → length (records_to 2 (map point_bytes l) []) ≡ 25 * length l
length_points l = sym (ap length (points_row l)) ∙ length_row point_record 25 length_point_record l

length_corners : (l : List ℕ) → length (records_to 4 (map (digits 2) l) []) ≡ 3 * length l
length_corners l = sym (ap length (corners_row l)) ∙ length_row corner_record 3 length_corner_record l

-- ---- a face is its opening and its corners

faces_row : (fs : List (List ℕ)) → row face_record fs ≡ faces_bytes fs
unfolding row face_record faces_bytes faces_to
faces_row [] = refl
faces_row (f ∷ fs) = ap (λ r. 3 ∷ records_to 4 (map (digits 2) f) [] ++ r) (faces_row fs) ∙ ap (λ r. 3 ∷ r) (sym (records_to_lem 4 (map (digits 2) f) (faces_to (map (map (digits 2)) fs) [])))

pub length_face_record : (f : List ℕ) → length (face_record f) ≡ 1 + 3 * length f
unfolding face_record
length_face_record f = omega (arith, length_corners f)

pub faces_room : (at m : ℕ) (fs : List (List ℕ)) → at + length (faces_bytes fs) ≤ m → at + length (row face_record fs) ≤ m
faces_room at m fs h = omega (arith, h, ap length (faces_row fs))

pub faces_written : {places counts : List ℕ} {n : ℕ} {out₀ : List ℕ} {at : ℕ} {out : List ℕ} {k o j : ℕ} → FaceRow face_record places counts n out₀ at out k o j → n ≤ j →
    (o ≡ at + length (faces_bytes (faces_at places 0 (counts_at counts 0 n)))) × (out ≡ sets out₀ at (faces_bytes (faces_at places 0 (counts_at counts 0 n))))
faces_written {places} {counts} {n} {out₀} {at} v h =
    let e = faces_end v h in
    let r = faces_row (faces_at places 0 (counts_at counts 0 n)) in
    (e.0 ∙ ap (λ l. at + length l) r, e.1 ∙ ap (sets out₀ at) r)

pub face_stored : (out a b : List ℕ) (at : ℕ) (f : List ℕ) → a ≡ set out at 3 → b ≡ sets a (at + 1) (records_to 4 (map (digits 2) f) []) → b ≡ sets out at (face_record f)
unfolding face_record
face_stored out a b at f e g =
    g ∙ ap (λ x. sets x (at + 1) (records_to 4 (map (digits 2) f) [])) e ∙ ap (λ k. sets (set out at 3) k (records_to 4 (map (digits 2) f) [])) (add-one at)

-- ---- a solid, and a job

length_solid : (s : Solid) → length (solid_bytes s) ≡ 25 * length s.points + length (faces_bytes s.faces) + 1
unfolding solid_bytes solid_to solid_bodies faces_bytes
length_solid s =
    let f = map (map (digits 2)) s.faces in
    omega (
      arith,
      ap length (records_to_lem 2 (map point_bytes s.points) (faces_to f (5 ∷ []))),
      length-append (records_to 2 (map point_bytes s.points) []) (faces_to f (5 ∷ [])),
      length_points s.points,
      ap length (faces_to_lem f (5 ∷ [])),
      length-append (faces_to f []) (5 ∷ []),
    )

-- the places of a solid's records
module _ (points : List Float) (m : ℕ) (places counts : List ℕ) (n : ℕ) where
  abbrev made : Solid
  made = solid_in points m places counts n

  abbrev faces : List ℕ
  faces = faces_bytes (faces_at places 0 (counts_at counts 0 n))

  abbrev dots : List ℕ
  dots = records_to 2 (map point_bytes (points_at points 0 m)) []

  size_solid : length (solid_bytes made) ≡ 25 * m + length faces + 1
  size_solid = omega (arith, length_solid made, length_points_at points 0 m)

  pub solid_room : (at k : ℕ) → at + length (solid_bytes made) ≤ k → at + 25 * m + length faces + 1 ≤ k
  solid_room at k h = omega (arith, h, size_solid)

  pub solid_end : (at e : ℕ) → e ≡ at + 25 * m + length faces → e + 1 ≡ at + length (solid_bytes made)
  solid_end at e h = omega (arith, h, size_solid)

  solid_parts : solid_bytes made ≡ dots ++ (faces ++ (5 ∷ []))
  unfolding solid_bytes solid_to solid_bodies faces_bytes
  solid_parts =
      let f = map (map (digits 2)) (faces_at places 0 (counts_at counts 0 n)) in
      records_to_lem 2 (map point_bytes (points_at points 0 m)) (faces_to f (5 ∷ [])) ∙ ap (λ x. dots ++ x) (faces_to_lem f (5 ∷ []))

  pub solid_stored : (out a b : List ℕ) (at e : ℕ) → a ≡ sets out at dots → b ≡ sets a (at + 25 * m) faces → e ≡ at + 25 * m + length faces → set b e 5 ≡ sets out at (solid_bytes made)
  solid_stored out a b at e p q h =
      let k : at + 25 * m ≡ at + length dots = omega (arith, length_points (points_at points 0 m), length_points_at points 0 m) in
      let g : e ≡ at + 25 * m + length faces = h in
      let i : at + 25 * m + length faces ≡ at + length (dots ++ faces) = omega (arith, length-append dots faces, k) in
      ap (λ x. sets x e (5 ∷ [])) (q ∙ ap (λ x. sets x (at + 25 * m) faces) p ∙ ap (λ x. sets (sets out at dots) x faces) k ∙ sets_append out at dots faces)
      ∙ ap (λ x. sets (sets out at (dots ++ faces)) x (5 ∷ [])) (g ∙ i)
      ∙ sets_append out at (dots ++ faces) (5 ∷ [])
      ∙ ap (sets out at) (append_assoc dots faces (5 ∷ []) ∙ sym solid_parts)

-- the places of a job's records
module _ (t : Precision) (o : Operation) (a b : Solid) where
  length_precision : length (precision_record t) ≡ 17
  unfolding precision_record precision_bytes
  length_precision = omega (arith, length-append (float_bytes t.linear) (float_bytes t.local), length_float t.linear, length_float t.local)

  job_parts : written_job t o a b ≡ precision_record t ++ (solid_bytes a ++ (solid_bytes b ++ operation_record o))
  unfolding written_job job_bytes job_bodies precision_record operation_record
  job_parts =
      ap (λ x. 1 ∷ precision_bytes t ++ x) (solid_to_lem a (solid_to (solid_bodies b) (6 ∷ operation_byte o ∷ [])) ∙ ap (λ x. solid_bytes a ++ x) (solid_to_lem b (6 ∷ operation_byte o ∷ [])))

  size_job : length (written_job t o a b) ≡ 17 + length (solid_bytes a) + length (solid_bytes b) + 2
  unfolding operation_record
  size_job =
      omega (
        arith,
        ap length job_parts,
        length-append (precision_record t) (solid_bytes a ++ (solid_bytes b ++ operation_record o)),
        length-append (solid_bytes a) (solid_bytes b ++ operation_record o),
        length-append (solid_bytes b) (operation_record o),
        length_precision,
      )

  pub job_room : (k : ℕ) → length (written_job t o a b) ≤ k → 17 + length (solid_bytes a) + length (solid_bytes b) + 2 ≤ k
  job_room k h = omega (arith, h, size_job)

  pub job_end : (f s : ℕ) → f ≡ 17 + length (solid_bytes a) → s ≡ f + length (solid_bytes b) → s + 2 ≡ length (written_job t o a b)
  job_end f s e g = omega (arith, e, g, size_job)

  pub job_stored : (out p x y z : List ℕ) (f s : ℕ) → p ≡ sets out 0 (precision_record t) → x ≡ sets p 17 (solid_bytes a) → f ≡ 17 + length (solid_bytes a) →
      y ≡ sets x f (solid_bytes b) → s ≡ f + length (solid_bytes b) → z ≡ sets y s (operation_record o) → z ≡ sets out 0 (written_job t o a b)
  job_stored out p x y z f s e1 e2 e3 e4 e5 e6 =
      let P = precision_record t in
      let k : 17 ≡ 0 + length P = omega (arith, length_precision) in
      let g2 : x ≡ sets out 0 (P ++ solid_bytes a) = e2 ∙ ap (λ u. sets u 17 (solid_bytes a)) e1 ∙ ap (λ i. sets (sets out 0 P) i (solid_bytes a)) k ∙ sets_append out 0 P (solid_bytes a) in
      let k3 : f ≡ 0 + length (P ++ solid_bytes a) = omega (arith, e3, k, length-append P (solid_bytes a)) in
      let g4 : y ≡ sets out 0 ((P ++ solid_bytes a) ++ solid_bytes b) =
      e4 ∙ ap (λ u. sets u f (solid_bytes b)) g2 ∙ ap (λ i. sets (sets out 0 (P ++ solid_bytes a)) i (solid_bytes b)) k3 ∙ sets_append out 0 (P ++ solid_bytes a) (solid_bytes b) in
      let k5 : s ≡ 0 + length ((P ++ solid_bytes a) ++ solid_bytes b) = omega (arith, e5, k3, length-append (P ++ solid_bytes a) (solid_bytes b)) in
      e6 ∙ ap (λ u. sets u s (operation_record o)) g4 ∙ ap (λ i. sets (sets out 0 ((P ++ solid_bytes a) ++ solid_bytes b)) i (operation_record o)) k5
      ∙ sets_append out 0 ((P ++ solid_bytes a) ++ solid_bytes b) (operation_record o)
      ∙ ap (sets out 0) (append_assoc (P ++ solid_bytes a) (solid_bytes b) (operation_record o) ∙ append_assoc P (solid_bytes a) (solid_bytes b ++ operation_record o) ∙ sym job_parts)
