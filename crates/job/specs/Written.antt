-- A job written and read again: the bytes that `job_bodies` gives a job are read as that job.
use Rattle.std.specs.Prelude.{◌≡◌, refl, List, [], ◌∷◌, ◌++◌, map, ℕ, ◌+◌, ◌≤◌, ◌<◌, length, take, drop, T, Float, Ok}
use Rattle.std.proofs.Common.{sym, ap, ◌∙◌, arith, length-append, take_at, drop_at, take_all, drop-drop}
use Rattle.std.specs.Float.{binary64}
use Rattle.std.specs.Float.Ieee.{fits, of_bits}
use Rattle.space.specs.declared.Point3.{Point3}
use Rattle.space.specs.declared.Precision.{Precision}
use Rattle.space.specs.Shapes.{Solid}
use Rattle.words.specs.Little.{little, digits, word_at, float_at, float_bytes}
use Rattle.words.specs.Laws.{length_digits, little_digits, length_float, float_back}
use Rattle.job.specs.Bytes.{SolidBodies, JobBodies, job_bytes, Sized, none, more, AllSized, SolidSized, JobSized, precision_of, point_of, solid_of, Job, job_of}
use Rattle.job.specs.Read.{read_job}
use Rattle.job.specs.Sound.{complete}

-- ---- the bodies of what is written

unfoldable pub precision_bytes : Precision → List ℕ
precision_bytes p = float_bytes p.linear ++ float_bytes p.local

unfoldable pub point_bytes : Point3 → List ℕ
point_bytes p = float_bytes p.x ++ (float_bytes p.y ++ float_bytes p.z)

unfoldable pub solid_bodies : Solid → SolidBodies
solid_bodies s = record { points = map point_bytes s.points; faces = map (map (digits 2)) s.faces }

unfoldable pub job_bodies : Job → JobBodies
job_bodies j = record { tolerances = precision_bytes j.precision; first = solid_bodies j.first; second = solid_bodies j.second; operation = j.operation }

-- ---- what the bytes can hold: every f64, a NaN too, and indices of two bytes

pub record HeldPoint (p : Point3) : Type 0 where
  pub x : T (fits binary64 p.x)
  pub y : T (fits binary64 p.y)
  pub z : T (fits binary64 p.z)

pub data HeldPoints : List Point3 → Type 0 where
  no_points : HeldPoints []
  more_points : {p : Point3} {ps : List Point3} → HeldPoint p → HeldPoints ps → HeldPoints (p ∷ ps)

pub data HeldFace : List ℕ → Type 0 where
  no_corners : HeldFace []
  more_corners : {i : ℕ} {f : List ℕ} → i < 65536 → HeldFace f → HeldFace (i ∷ f)

pub data HeldFaces : List (List ℕ) → Type 0 where
  no_faces : HeldFaces []
  more_faces : {f : List ℕ} {fs : List (List ℕ)} → HeldFace f → HeldFaces fs → HeldFaces (f ∷ fs)

pub record HeldSolid (s : Solid) : Type 0 where
  pub points : HeldPoints s.points
  pub faces : HeldFaces s.faces

pub record HeldJob (j : Job) : Type 0 where
  pub linear : T (fits binary64 j.precision.linear)
  pub local : T (fits binary64 j.precision.local)
  pub first : HeldSolid j.first
  pub second : HeldSolid j.second

-- ---- the lengths

pub length_point : (p : Point3) → length (point_bytes p) ≡ 24
unfolding point_bytes
length_point p =
    omega (
      arith,
      length-append (float_bytes p.x) (float_bytes p.y ++ float_bytes p.z),
      length-append (float_bytes p.y) (float_bytes p.z),
      length_float p.x,
      length_float p.y,
      length_float p.z,
    )

points_sized : (ps : List Point3) → Sized 24 (map point_bytes ps)
points_sized [] = none
points_sized (p ∷ ps) = more (length_point p) (points_sized ps)

face_sized : (f : List ℕ) → Sized 2 (map (digits 2) f)
face_sized [] = none
face_sized (i ∷ f) = more (length_digits 2 i) (face_sized f)

faces_sized : (fs : List (List ℕ)) → AllSized 2 (map (map (digits 2)) fs)
faces_sized [] = none
faces_sized (f ∷ fs) = more (face_sized f) (faces_sized fs)

solid_sized : (s : Solid) → SolidSized (solid_bodies s)
unfolding solid_bodies
solid_sized s = record { points = points_sized s.points; faces = faces_sized s.faces }

job_sized : (j : Job) → JobSized (job_bodies j)
unfolding job_bodies precision_bytes
job_sized j =
    record {
      tolerances = omega (arith, length-append (float_bytes j.precision.linear) (float_bytes j.precision.local), length_float j.precision.linear, length_float j.precision.local);
      first = solid_sized j.first;
      second = solid_sized j.second;
    }

-- ---- the meaning

first_float : (x : Float) (r : List ℕ) → T (fits binary64 x) → float_at (float_bytes x ++ r) 0 ≡ x
unfolding float_at word_at
first_float x r h = ap (λ b. of_bits binary64 (little b)) (take_at (float_bytes x) r 8 (length_float x)) ∙ float_back x h

next_float : (x : Float) (r : List ℕ) (i : ℕ) → float_at (float_bytes x ++ r) (8 + i) ≡ float_at r i
unfolding float_at word_at
next_float x r i =
    ap (λ b. of_bits binary64 (little (take 8 b))) (sym (drop-drop i 8 (float_bytes x ++ r)) ∙ ap (drop i) (drop_at (float_bytes x) r 8 (length_float x)))

last_float : (x : Float) → T (fits binary64 x) → float_at (float_bytes x) 0 ≡ x
unfolding float_at word_at
last_float x h =
    let k : length (float_bytes x) ≤ 8 = omega (arith, length_float x) in
    ap (λ b. of_bits binary64 (little b)) (take_all 8 (float_bytes x) k) ∙ float_back x h

precision_back : (p : Precision) → T (fits binary64 p.linear) → T (fits binary64 p.local) → precision_of (precision_bytes p) ≡ p
unfolding precision_of precision_bytes
precision_back p h k =
    let a = first_float p.linear (float_bytes p.local) h in
    let b = next_float p.linear (float_bytes p.local) 0 ∙ last_float p.local k in
    rw (a, b) refl

point_back : (p : Point3) → HeldPoint p → point_of (point_bytes p) ≡ p
unfolding point_of point_bytes
point_back p h =
    let t = float_bytes p.y ++ float_bytes p.z in
    let a = first_float p.x t h.x in
    let b = next_float p.x t 0 ∙ first_float p.y (float_bytes p.z) h.y in
    let c = next_float p.x t 8 ∙ next_float p.y (float_bytes p.z) 0 ∙ last_float p.z h.z in
    rw (a, b, c) refl

points_back : {ps : List Point3} → HeldPoints ps → map point_of (map point_bytes ps) ≡ ps
points_back no_points = refl
points_back (more_points {p} {ps} h r) = rw (point_back p h) (ap (λ x. p ∷ x) (points_back r))

face_back : {f : List ℕ} → HeldFace f → map little (map (digits 2) f) ≡ f
face_back no_corners = refl
face_back (more_corners {i} {f} h r) = rw (little_digits 2 i h) (ap (λ x. i ∷ x) (face_back r))

faces_back : {fs : List (List ℕ)} → HeldFaces fs → map (map little) (map (map (digits 2)) fs) ≡ fs
faces_back no_faces = refl
faces_back (more_faces {f} {fs} h r) = rw (face_back h) (ap (λ x. f ∷ x) (faces_back r))

solid_back : (s : Solid) → HeldSolid s → solid_of (solid_bodies s) ≡ s
unfolding solid_of solid_bodies
solid_back s h = rw (points_back h.points, faces_back h.faces) refl

job_back : (j : Job) → HeldJob j → job_of (job_bodies j) ≡ j
unfolding job_of job_bodies
job_back j h =
    rw (precision_back j.precision h.linear h.local, solid_back j.first h.first, solid_back j.second h.second) refl

-- a job that the bytes can hold is read as it was written
pub written_read : (j : Job) → HeldJob j → length (job_bytes (job_bodies j)) ≤ 32768 → read_job (job_bytes (job_bodies j)) ≡ Ok j
written_read j h k =
    complete (job_bytes (job_bodies j)) j (record { bodies = job_bodies j; sized = job_sized j; bytes = refl; short = k; meaning = job_back j h })
