-- The solid check, and solids built of cells: up to 7, and 33 of a given solid; what every call begins with: up to 12.
use Rattle.refusal.specs.Outcome.{Outcome}
use Rattle.std.specs.Prelude.{List, [], ◌∷◌, ℕ, length, ltb}
use Rattle.space.specs.declared.Point3.{Point3}
use Rattle.space.specs.declared.Precision.{Precision}
use Rattle.space.specs.Shapes.{Solid}
use Rattle.solids.specs.Apart.{first_of, each_in}
use Rattle.solids.specs.Frames.{plane_for}
use Rattle.solid_check.specs.Check.{face_of, cell_of}
use Rattle.numbered.specs.Numbered.{Numbered, answer, Judged, fine, ruled, numbered_then, numbered_unless, numbered_each}
use Rattle.numbered.specs.Points.{face_plane_numbered}

-- ---- verdicts in order

pub judged_first : {n : ℕ} {v w : Outcome Unit} → Judged n v → Judged n w → Judged n (first_of v w)
unfolding first_of
judged_first fine y = y
judged_first (ruled r x) y = ruled r x

pub judged_each : {A : Type 0} {n : ℕ} (f : A → Outcome Unit) → ((x : A) → Judged n (f x)) → (l : List A) → Judged n (each_in f l)
unfolding each_in
judged_each f h [] = fine
judged_each f h (x ∷ l) = judged_first (h x) (judged_each f h l)

-- ---- the points against the faces

pub plane_for_numbered : (t : Precision) (ps : List Point3) (f : List ℕ) → Numbered 5 (plane_for t ps f)
unfolding plane_for
plane_for_numbered t ps f = numbered_unless (ltb (length f) 3) 5 tt tt (face_plane_numbered t _ _ _)

-- ---- the check

pub cell_of_numbered : (t : Precision) (s : Solid) → Numbered 5 (cell_of t s)
unfolding cell_of face_of
cell_of_numbered t s = numbered_each (face_of t s.points) (λ f. numbered_then (plane_for_numbered t s.points f) (λ w. answer _)) [] s.faces
