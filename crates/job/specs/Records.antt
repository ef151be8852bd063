-- Records and runs of records (01, "Job file": "One byte of kind, then a fixed body"). Definitions only.
use Rattle.std.specs.Prelude.{ℕ, zero, suc, ◌+◌, ◌*◌, Bool, true, false, not, ◌&&◌, List, [], ◌∷◌, length, take, drop, eqb, leb, Ok}
use Rattle.refusal.specs.Outcome.{Outcome, unless}
use Rattle.job.specs.declared.Faces.{Faces}
use Rattle.job.specs.declared.Span.{Span}

-- whether a whole record of kind k with a body of n bytes stands at the front
unfoldable pub standing : ℕ → ℕ → List ℕ → Bool
standing k n [] = false
standing k n (b ∷ s) = eqb b k && leb n (length s)

abbrev pub one_more : Bool → ℕ → ℕ
one_more true r = suc r
one_more false r = 0

-- how many such records stand there one after the other, once i bytes are passed over
unfoldable pub run_after : ℕ → ℕ → ℕ → List ℕ → ℕ
run_after k n i [] = 0
run_after k n zero (b ∷ s) = one_more (eqb b k && leb n (length s)) (run_after k n n s)
run_after k n (suc i) (b ∷ s) = run_after k n i s

abbrev pub run_of : ℕ → ℕ → List ℕ → ℕ
run_of k n s = run_after k n 0 s

abbrev pub one_face : Bool → ℕ → List ℕ → List ℕ
one_face true c f = c ∷ f
one_face false c f = []

-- "then faces each with its corners": how many corners each face has
unfoldable pub faces_after : ℕ → List ℕ → List ℕ
faces_after i [] = []
faces_after zero (b ∷ s) = one_face (eqb b 3) (run_of 4 2 s) (faces_after (3 * run_of 4 2 s) s)
faces_after (suc i) (b ∷ s) = faces_after i s

unfoldable pub total : List ℕ → ℕ
total [] = 0
total (c ∷ f) = c + total f

unfoldable pub faces_of : List ℕ → Faces
faces_of s = record { faces = length (faces_after 0 s); corners = total (faces_after 0 s) }

-- "points, then faces each with its corners, then 5", from a place on
unfoldable pub span_end : List ℕ → ℕ → ℕ → ℕ → Faces → ℕ → Outcome Span
span_end l at n m f e =
    unless (not (standing 5 0 (drop e l))) 1
    (Ok (record { start = at; points = n; middle = m; faces = f.faces; corners = f.corners; end = e + 1 }))

unfoldable pub span_faces : List ℕ → ℕ → ℕ → ℕ → Faces → Outcome Span
span_faces l at n m f = span_end l at n m f (m + f.faces + 3 * f.corners)

unfoldable pub span_points : List ℕ → ℕ → ℕ → ℕ → Outcome Span
span_points l at n m = span_faces l at n m (faces_of (drop m l))

unfoldable pub span_of : List ℕ → ℕ → Outcome Span
span_of l at = span_points l at (run_of 2 24 (drop at l)) (at + 25 * run_of 2 24 (drop at l))

-- the bodies of c records of n bytes each, from the front
unfoldable pub bodies : ℕ → ℕ → List ℕ → List (List ℕ)
bodies n zero s = []
bodies n (suc c) s = take n (drop 1 s) ∷ bodies n c (drop (suc n) s)

-- the bodies of the corners of f faces
unfoldable pub face_bodies : ℕ → List ℕ → List (List (List ℕ))
face_bodies zero s = []
face_bodies (suc f) s = bodies 2 (run_of 4 2 (drop 1 s)) (drop 1 s) ∷ face_bodies f (drop (1 + 3 * run_of 4 2 (drop 1 s)) s)
