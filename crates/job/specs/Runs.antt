-- Laws of records and runs, in the words of the code.
use Rattle.std.specs.Prelude.{◌≡◌, refl, Bool, true, false, ◌&&◌, List, [], ◌∷◌, ◌++◌, ℕ, zero, suc, ◌+◌, ◌*◌, ◌-◌, ◌≤◌, ◌<◌, length, take, drop, get_or, eqb, leb}
use Rattle.std.proofs.Common.{sym, ap, ◌∙◌, arith, suc-mul, length-drop, drop_of_length-le, take-append-drop, drop-cons, drop-drop, length-take-le, le-leb, leb-true, eqb-true}
use Rattle.std.proofs.lemmas.Bool.{lt-leb}
use Rattle.refusal.specs.Tests.{and_true}
use Rattle.job.specs.declared.Faces.{Faces}
use Rattle.job.specs.Records.{standing, one_more, run_after, run_of, one_face, faces_after, total, faces_of}

and_no : (b : Bool) → false ≡ (b && false)
and_no true = refl
and_no false = refl

and_yes : (b : Bool) → b ≡ (b && true)
and_yes true = refl
and_yes false = refl

-- ---- a record at a place

pub stands_none : (l : List ℕ) (at k n : ℕ) → length l ≤ at → false ≡ standing k n (drop at l)
unfolding standing
stands_none l at k n h = rw (drop_of_length-le l h) refl

pub stands_cut : (l : List ℕ) (at k n : ℕ) → at < length l → length l - at ≤ n → false ≡ standing k n (drop at l)
unfolding standing
stands_cut l at k n h m =
    let c : leb n (length (drop (suc at) l)) ≡ false = lt-leb n _ (omega (arith, length-drop (suc at) l)) in
    rw (drop-cons l at 0 h, c) (and_no (eqb (get_or l at 0) k))

pub stands_here : (l : List ℕ) (at k n : ℕ) → at < length l → n < length l - at → eqb (get_or l at 0) k ≡ standing k n (drop at l)
unfolding standing
stands_here l at k n h m =
    let c : leb n (length (drop (suc at) l)) ≡ true = le-leb n _ (omega (arith, length-drop (suc at) l)) in
    rw (drop-cons l at 0 h, c) (and_yes (eqb (get_or l at 0) k))

pub stands_whole : (k n : ℕ) (s : List ℕ) → standing k n s ≡ true → n < length s
unfolding standing
stands_whole k n [] e = let z : ◌≡◌ {A = ℕ} 0 1 = cc in omega arith
stands_whole k n (b ∷ s) e = omega (arith, leb-true n (length s) (and_true (eqb b k) (leb n (length s)) e).1)

pub stands_within : (l : List ℕ) (at k n : ℕ) → standing k n (drop at l) ≡ true → at + n < length l
stands_within l at k n e = omega (arith, stands_whole k n (drop at l) e, length-drop at l)

-- the same of a test that was made
pub stands_in : (l : List ℕ) (at k n : ℕ) (t : Bool) → t ≡ standing k n (drop at l) → t ≡ true → at + n < length l
stands_in l at k n t e h = stands_within l at k n (sym e ∙ h)

-- its kind, its body and the rest
pub stands_parts : (k n : ℕ) (s : List ℕ) → standing k n s ≡ true → s ≡ k ∷ take n (drop 1 s) ++ drop (suc n) s
unfolding standing
stands_parts k n [] e = let z : false ≡ true = e in cc
stands_parts k n (b ∷ s) e =
    let q : b ≡ k = eqb-true b k (and_true (eqb b k) (leb n (length s)) e).0 in
    rw (q, take-append-drop n s) refl

pub stands_body : (k n : ℕ) (s : List ℕ) → standing k n s ≡ true → length (take n (drop 1 s)) ≡ n
stands_body k n s e = length-take-le n (drop 1 s) (omega (arith, stands_whole k n s e, length-drop 1 s))

-- ---- runs

skipped : (k n i : ℕ) (s : List ℕ) → run_after k n i s ≡ run_of k n (drop i s)
unfolding run_after
skipped k n zero s = refl
skipped k n (suc i) [] = refl
skipped k n (suc i) (b ∷ s) = skipped k n i s

pub run_step : (k n : ℕ) (s : List ℕ) → run_of k n s ≡ one_more (standing k n s) (run_of k n (drop (suc n) s))
unfolding run_after standing
run_step k n [] = refl
run_step k n (b ∷ s) = ap (one_more (eqb b k && leb n (length s))) (skipped k n n s)

pub run_more : (l : List ℕ) (at k n : ℕ) → standing k n (drop at l) ≡ true → run_of k n (drop at l) ≡ suc (run_of k n (drop (at + (1 + n)) l))
run_more l at k n e =
    let i : at + suc n ≡ at + (1 + n) = omega arith in
    run_step k n (drop at l)
    ∙ ap (λ b. one_more b (run_of k n (drop (suc n) (drop at l)))) e
    ∙ ap (λ s. suc (run_of k n s)) (drop-drop (suc n) at l ∙ ap (λ j. drop j l) i)

pub run_none : (k n : ℕ) (s : List ℕ) → standing k n s ≡ false → run_of k n s ≡ 0
run_none k n s e = run_step k n s ∙ ap (λ b. one_more b (run_of k n (drop (suc n) s))) e

-- ---- faces

passed : (i : ℕ) (s : List ℕ) → faces_after i s ≡ faces_after 0 (drop i s)
unfolding faces_after
passed zero s = refl
passed (suc i) [] = refl
passed (suc i) (b ∷ s) = passed i s

pub faces_step : (s : List ℕ) → faces_after 0 s ≡ one_face (standing 3 0 s) (run_of 4 2 (drop 1 s)) (faces_after 0 (drop (1 + 3 * run_of 4 2 (drop 1 s)) s))
unfolding faces_after standing
faces_step [] = refl
faces_step (b ∷ s) =
    let z : leb 0 (length s) ≡ true = le-leb 0 (length s) (omega arith) in
    let k : 1 + 3 * run_of 4 2 s ≡ suc (3 * run_of 4 2 s) = omega arith in
    rw (z, k) (ap (one_face (eqb b 3) (run_of 4 2 s)) (passed (3 * run_of 4 2 s) s) ∙ ap (λ t. one_face t (run_of 4 2 s) (faces_after 0 (drop (3 * run_of 4 2 s) s))) (and_yes (eqb b 3)))

pub faces_more : (l : List ℕ) (at n : ℕ) → standing 3 0 (drop at l) ≡ true → n ≡ run_of 4 2 (drop (at + 1) l)
    → faces_after 0 (drop at l) ≡ n ∷ faces_after 0 (drop (at + (1 + 3 * n)) l)
faces_more l at n e q =
    let d : drop 1 (drop at l) ≡ drop (at + 1) l = drop-drop 1 at l in
    faces_step (drop at l)
    ∙ ap (λ b. one_face b (run_of 4 2 (drop 1 (drop at l))) (faces_after 0 (drop (1 + 3 * run_of 4 2 (drop 1 (drop at l))) (drop at l)))) e
    ∙ ap (λ m. m ∷ faces_after 0 (drop (1 + 3 * m) (drop at l))) (ap (run_of 4 2) d ∙ sym q)
    ∙ ap (λ s. n ∷ faces_after 0 s) (drop-drop (1 + 3 * n) at l)

pub faces_none : (s : List ℕ) → standing 3 0 s ≡ false → faces_after 0 s ≡ []
faces_none s e =
    faces_step s ∙ ap (λ b. one_face b (run_of 4 2 (drop 1 s)) (faces_after 0 (drop (1 + 3 * run_of 4 2 (drop 1 s)) s))) e

-- ---- what a run and faces are made of, and that they lie within the bytes

more_yes : (b : Bool) (m c : ℕ) → one_more b m ≡ suc c → b ≡ true
more_yes true m c e = refl
more_yes false m c e = let z : ◌≡◌ {A = ℕ} 0 (suc c) = e in absurd (omega arith)

more_rest : (b : Bool) (m c : ℕ) → one_more b m ≡ suc c → m ≡ c
more_rest true m c e = let z : suc m ≡ suc c = e in omega arith
more_rest false m c e = let z : ◌≡◌ {A = ℕ} 0 (suc c) = e in absurd (omega arith)

pub run_first : (k n c : ℕ) (s : List ℕ) → run_of k n s ≡ suc c → standing k n s ≡ true
run_first k n c s e = more_yes (standing k n s) (run_of k n (drop (suc n) s)) c (sym (run_step k n s) ∙ e)

pub run_rest : (k n c : ℕ) (s : List ℕ) → run_of k n s ≡ suc c → run_of k n (drop (suc n) s) ≡ c
run_rest k n c s e = more_rest (standing k n s) (run_of k n (drop (suc n) s)) c (sym (run_step k n s) ∙ e)

pub run_fits : (k n c : ℕ) (s : List ℕ) → run_of k n s ≡ c → c * suc n ≤ length s
run_fits k n zero s e = omega arith
run_fits k n (suc c) s e =
    omega (arith, run_fits k n c (drop (suc n) s) (run_rest k n c s e), stands_whole k n s (run_first k n c s e), length-drop (suc n) s, suc-mul c (suc n))

-- a run from a place on lies within the bytes
pub run_in : (l : List ℕ) (at k b n : ℕ) → n ≡ run_of k b (drop at l) → n * suc b ≤ length l - at
run_in l at k b n e = omega (arith, run_fits k b n (drop at l) (sym e), length-drop at l)

face_yes : (b : Bool) (m c : ℕ) (g f : List ℕ) → one_face b m g ≡ c ∷ f → b ≡ true
face_yes true m c g f e = refl
face_yes false m c g f e = let z : [] ≡ c ∷ f = e in cc

face_count : (b : Bool) (m c : ℕ) (g f : List ℕ) → one_face b m g ≡ c ∷ f → m ≡ c
face_count true m c g f e = let z : m ∷ g ≡ c ∷ f = e in cc
face_count false m c g f e = let z : [] ≡ c ∷ f = e in cc

face_rest : (b : Bool) (m c : ℕ) (g f : List ℕ) → one_face b m g ≡ c ∷ f → g ≡ f
face_rest true m c g f e = let z : m ∷ g ≡ c ∷ f = e in cc
face_rest false m c g f e = let z : [] ≡ c ∷ f = e in cc

module _ (c : ℕ) (f s : List ℕ) (e : faces_after 0 s ≡ c ∷ f) where
  pub faces_first : standing 3 0 s ≡ true
  faces_first = face_yes (standing 3 0 s) _ c _ f (sym (faces_step s) ∙ e)

  pub faces_count : run_of 4 2 (drop 1 s) ≡ c
  faces_count = face_count (standing 3 0 s) _ c _ f (sym (faces_step s) ∙ e)

  pub faces_rest : faces_after 0 (drop (1 + 3 * c) s) ≡ f
  faces_rest = rw (← faces_count) (face_rest (standing 3 0 s) _ c _ f (sym (faces_step s) ∙ e))

pub faces_fit : (f s : List ℕ) → faces_after 0 s ≡ f → length f + 3 * total f ≤ length s
unfolding total
faces_fit [] s e = omega arith
faces_fit (c ∷ f) s e =
    omega (
      arith,
      faces_fit f (drop (1 + 3 * c) s) (faces_rest c f s e),
      run_fits 4 2 c (drop 1 s) (faces_count c f s e),
      stands_whole 3 0 s (faces_first c f s e),
      length-drop (1 + 3 * c) s,
      length-drop 1 s,
    )

pub faces_in : (l : List ℕ) (at : ℕ) (f : Faces) → f ≡ faces_of (drop at l) → f.faces + 3 * f.corners ≤ length l - at
unfolding faces_of
faces_in l at f e =
    omega
    (arith, ap (λ g. g.faces) e, ap (λ g. g.corners) e, faces_fit (faces_after 0 (drop at l)) (drop at l) refl, length-drop at l)
