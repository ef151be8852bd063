-- A run of records and a solid are sound and complete: what is read is what the bytes are, and bytes that are it are read.
use Rattle.std.specs.Prelude.{◌≡◌, Bool, false, not, ℕ, zero, suc, ◌+◌, ◌*◌, take, eqb, leb, Ok}
use Rattle.std.proofs.Math.Path.{refl, sym, ap, subst}
use Rattle.std.proofs.Common.{◌∙◌, suc-mul, zero-mul, length-append, drop-drop, drop_at, take_at, le-leb, eq-eqb}
use Rattle.std.proofs.Math.Bool.{true}
use mathlib.Core.List.{List, [], ◌∷◌, ◌++◌, map}
use native.Mathlib.Omega.{arith}
use Rattle.std.proofs.Math.ListN.{length, drop, length-map}
use Rattle.refusal.specs.Outcome.{unless}
use Rattle.job.specs.declared.Span.{Span}
use Rattle.job.specs.Records.{standing, one_more, run_of, one_face, faces_after, total, faces_of, span_end, span_faces, span_points, span_of, bodies, face_bodies}
use Rattle.job.specs.Bytes.{SolidBodies, records_to, faces_to, solid_to, Sized, none, more, AllSized, SolidSized}
use Rattle.job.specs.Read.{bodies_at}
use Rattle.job.specs.Runs.{stands_parts, stands_body, run_step, run_none, run_first, run_rest, faces_step, faces_first, faces_count, faces_rest}

-- ---- sound

pub records_sound : (k n c : ℕ) (s : List ℕ) → run_of k n s ≡ c → s ≡ records_to k (bodies n c s) (drop (c * suc n) s)
unfolding records_to bodies
records_sound k n zero s e = let z : zero * suc n ≡ 0 = zero-mul (suc n) in rw z refl
records_sound k n (suc c) s e =
    let r = drop (suc n) s in
    let i : suc n + c * suc n ≡ suc c * suc n = omega (arith, suc-mul c (suc n)) in
    stands_parts k n s (run_first k n c s e)
    ∙ ap (λ x. k ∷ take n (drop 1 s) ++ x)
    (records_sound k n c r (run_rest k n c s e) ∙ ap (records_to k (bodies n c r)) (drop-drop (c * suc n) (suc n) s ∙ ap (λ x. drop x s) i))

pub sized_sound : (k n c : ℕ) (s : List ℕ) → run_of k n s ≡ c → Sized n (bodies n c s)
unfolding bodies
sized_sound k n zero s e = none
sized_sound k n (suc c) s e =
    more (stands_body k n s (run_first k n c s e)) (sized_sound k n c (drop (suc n) s) (run_rest k n c s e))

faces_sound : (f s : List ℕ) → faces_after 0 s ≡ f → s ≡ faces_to (face_bodies (length f) s) (drop (length f + 3 * total f) s)
unfolding faces_to face_bodies total
faces_sound [] s e = refl
faces_sound (c ∷ f) s e =
    let r = drop (1 + 3 * c) s in
    let i : 1 + c * 3 ≡ 1 + 3 * c = omega arith in
    let j : 1 + 3 * c + (length f + 3 * total f) ≡ suc (length f) + 3 * (c + total f) = omega arith in
    let rest : drop (c * 3) (drop 1 s) ≡ faces_to (face_bodies (length f) r) (drop (suc (length f) + 3 * (c + total f)) s) =
    drop-drop (c * 3) 1 s
    ∙ ap (λ x. drop x s) i
    ∙ faces_sound f r (faces_rest c f s e)
    ∙ ap (faces_to (face_bodies (length f) r)) (drop-drop (length f + 3 * total f) (1 + 3 * c) s ∙ ap (λ x. drop x s) j) in
    rw (faces_count c f s e)
    (stands_parts 3 0 s (faces_first c f s e)
    ∙ ap (λ x. 3 ∷ x) (records_sound 4 2 c (drop 1 s) (faces_count c f s e) ∙ ap (records_to 4 (bodies 2 c (drop 1 s))) rest))

all_sized : (n : ℕ) (s : List ℕ) → AllSized 2 (face_bodies n s)
unfolding face_bodies
all_sized zero s = none
all_sized (suc n) s = more (sized_sound 4 2 (run_of 4 2 (drop 1 s)) (drop 1 s) refl) (all_sized n (drop (1 + 3 * run_of 4 2 (drop 1 s)) s))

-- a test that let an answer through
pub passed : {A : Type 0} (b : Bool) (x y : A) → unless (not b) 1 (Ok x) ≡ Ok y → b ≡ true
passed true x y e = refl
passed false x y e = cc

pub the_answer : {A : Type 0} (b : Bool) (x y : A) → unless (not b) 1 (Ok x) ≡ Ok y → x ≡ y
the_answer true x y e = cc
the_answer false x y e = cc

-- the bytes from a place on are a solid and what follows its end
pub record SolidAt (l : List ℕ) (at : ℕ) (a : Span) : Type 0 where
  pub bytes : drop at l ≡ solid_to (bodies_at l a) (drop a.end l)
  pub sized : SolidSized (bodies_at l a)

module _ (l : List ℕ) (at : ℕ) where
  abbrev points : ℕ
  points = run_of 2 24 (drop at l)

  abbrev middle : ℕ
  middle = at + 25 * points

  abbrev counts : List ℕ
  counts = faces_after 0 (drop middle l)

  abbrev last : ℕ
  last = middle + length counts + 3 * total counts

  abbrev span : Span
  span = record { start = at; points = points; middle = middle; faces = length counts; corners = total counts; end = last + 1 }

  span_sound : standing 5 0 (drop last l) ≡ true → SolidAt l at span
  unfolding bodies_at solid_to
  span_sound h =
      let i : at + points * 25 ≡ middle = omega arith in
      let j : middle + (length counts + 3 * total counts) ≡ last = omega arith in
      record {
        bytes =
            records_sound 2 24 points (drop at l) refl
            ∙ ap (records_to 2 (bodies 24 points (drop at l)))
            (drop-drop (points * 25) at l
            ∙ ap (λ x. drop x l) i
            ∙ faces_sound counts (drop middle l) refl
            ∙ ap (faces_to (face_bodies (length counts) (drop middle l)))
            (drop-drop (length counts + 3 * total counts) middle l
            ∙ ap (λ x. drop x l) j
            ∙ stands_parts 5 0 (drop last l) h
            ∙ ap (λ x. 5 ∷ x) (drop-drop 1 last l)));
        sized = record { points = sized_sound 2 24 points (drop at l) refl; faces = all_sized (length counts) (drop middle l) };
      }

  pub solid_sound : (a : Span) → span_of l at ≡ Ok a → SolidAt l at a
  unfolding span_of span_points span_faces span_end faces_of
  solid_sound a e =
      subst (λ x. SolidAt l at x) (the_answer (standing 5 0 (drop last l)) span a e)
      (span_sound (passed (standing 5 0 (drop last l)) span a e))

-- ---- complete

pub stands_made : (k n : ℕ) (b s : List ℕ) → length b ≡ n → standing k n (k ∷ b ++ s) ≡ true
unfolding standing
stands_made k n b s e =
    let x : eqb k k ≡ true = eq-eqb k k refl in
    let y : leb n (length (b ++ s)) ≡ true = le-leb n _ (omega (arith, length-append b s)) in
    rw (x, y) refl

pub records_counted : (k n : ℕ) {bs : List (List ℕ)} (s : List ℕ) → Sized n bs → run_of k n (records_to k bs s) ≡ length bs + run_of k n s
unfolding records_to
records_counted k n s none = omega arith
records_counted k n s (more {b} {bs} e r) =
    let t = records_to k bs s in
    run_step k n (k ∷ b ++ t)
    ∙ ap (λ x. one_more x (run_of k n (drop n (b ++ t)))) (stands_made k n b t e)
    ∙ ap (λ x. suc (run_of k n x)) (drop_at b t n e)
    ∙ omega (arith, records_counted k n s r)

pub length_records : (k n : ℕ) {bs : List (List ℕ)} (s : List ℕ) → Sized n bs → length (records_to k bs s) ≡ length bs * suc n + length s
unfolding records_to
length_records k n s none = omega (arith, zero-mul (suc n))
length_records k n s (more {b} {bs} e r) =
    omega (arith, length-append b (records_to k bs s), length_records k n s r, suc-mul (length bs) (suc n))

pub records_passed : (k n : ℕ) {bs : List (List ℕ)} (s : List ℕ) → Sized n bs → drop (length bs * suc n) (records_to k bs s) ≡ s
unfolding records_to
records_passed k n s none = let z : zero * suc n ≡ 0 = zero-mul (suc n) in rw z refl
records_passed k n s (more {b} {bs} e r) =
    let t = records_to k bs s in
    let i : suc (length bs) * suc n ≡ suc n + length bs * suc n = omega (arith, suc-mul (length bs) (suc n)) in
    ap (λ x. drop x (k ∷ b ++ t)) i
    ∙ sym (drop-drop (length bs * suc n) (suc n) (k ∷ b ++ t))
    ∙ ap (drop (length bs * suc n)) (drop_at b t n e)
    ∙ records_passed k n s r

pub records_kept : (k n : ℕ) {bs : List (List ℕ)} (s : List ℕ) → Sized n bs → bodies n (length bs) (records_to k bs s) ≡ bs
unfolding records_to bodies
records_kept k n s none = refl
records_kept k n s (more {b} {bs} e r) =
    let t = records_to k bs s in
    rw (take_at b t n e, drop_at b t n e) (ap (λ x. b ∷ x) (records_kept k n s r))

-- what follows points and corners is no more of them
no_point : (f : List (List (List ℕ))) (s : List ℕ) → run_of 2 24 (faces_to f (5 ∷ s)) ≡ 0
unfolding faces_to standing
no_point [] s = run_none 2 24 (5 ∷ s) refl
no_point (c ∷ f) s = run_none 2 24 (3 ∷ records_to 4 c (faces_to f (5 ∷ s))) refl

no_corner : (f : List (List (List ℕ))) (s : List ℕ) → run_of 4 2 (faces_to f (5 ∷ s)) ≡ 0
unfolding faces_to standing
no_corner [] s = run_none 4 2 (5 ∷ s) refl
no_corner (c ∷ f) s = run_none 4 2 (3 ∷ records_to 4 c (faces_to f (5 ∷ s))) refl

face_counted : {c : List (List ℕ)} (f : List (List (List ℕ))) (s : List ℕ) → Sized 2 c → run_of 4 2 (records_to 4 c (faces_to f (5 ∷ s))) ≡ length c
face_counted f s r = records_counted 4 2 (faces_to f (5 ∷ s)) r ∙ omega (arith, no_corner f s)

face_passed : {c : List (List ℕ)} (s : List ℕ) → Sized 2 c → drop (1 + 3 * length c) (3 ∷ records_to 4 c s) ≡ s
face_passed {c} s r =
    let i : 1 + 3 * length c ≡ suc (length c * 3) = omega arith in
    ap (λ x. drop x (3 ∷ records_to 4 c s)) i ∙ records_passed 4 2 s r

faces_counted : {f : List (List (List ℕ))} (s : List ℕ) → AllSized 2 f → faces_after 0 (faces_to f (5 ∷ s)) ≡ map length f
unfolding faces_to faces_after
faces_counted s none = refl
faces_counted s (more {c} {f} r q) =
    let t = faces_to f (5 ∷ s) in
    let x = records_to 4 c t in
    faces_step (3 ∷ x)
    ∙ ap (λ b. one_face b (run_of 4 2 x) (faces_after 0 (drop (1 + 3 * run_of 4 2 x) (3 ∷ x)))) (stands_made 3 0 [] x refl)
    ∙ ap (λ n. n ∷ faces_after 0 (drop (1 + 3 * n) (3 ∷ records_to 4 c t))) (face_counted f s r)
    ∙ ap (λ x. length c ∷ faces_after 0 x) (face_passed t r)
    ∙ ap (λ x. length c ∷ x) (faces_counted s q)

faces_passed : {f : List (List (List ℕ))} (s : List ℕ) → AllSized 2 f → drop (length f + 3 * total (map length f)) (faces_to f s) ≡ s
unfolding faces_to total
faces_passed s none = refl
faces_passed s (more {c} {f} r q) =
    let t = faces_to f s in
    let i : suc (length f) + 3 * (length c + total (map length f)) ≡ 1 + 3 * length c + (length f + 3 * total (map length f)) = omega arith in
    ap (λ x. drop x (3 ∷ records_to 4 c t)) i
    ∙ sym (drop-drop (length f + 3 * total (map length f)) (1 + 3 * length c) (3 ∷ records_to 4 c t))
    ∙ ap (drop (length f + 3 * total (map length f))) (face_passed t r)
    ∙ faces_passed s q

faces_kept : {f : List (List (List ℕ))} (s : List ℕ) → AllSized 2 f → face_bodies (length f) (faces_to f (5 ∷ s)) ≡ f
unfolding faces_to face_bodies
faces_kept s none = refl
faces_kept s (more {c} {f} r q) =
    let t = faces_to f (5 ∷ s) in
    rw (face_counted f s r, face_passed t r, records_kept 4 2 t r) (ap (λ x. c ∷ x) (faces_kept s q))

-- where a solid stands that begins at a place
unfoldable pub places_of : ℕ → SolidBodies → Span
places_of at w =
    let m = at + 25 * length w.points in
    let e = m + length w.faces + 3 * total (map length w.faces) in
    record { start = at; points = length w.points; middle = m; faces = length w.faces; corners = total (map length w.faces); end = e + 1 }

module _ (l : List ℕ) (at : ℕ) (w : SolidBodies) (s : List ℕ) (z : SolidSized w) (h : drop at l ≡ solid_to w s) where
  points_are : run_of 2 24 (drop at l) ≡ length w.points
  unfolding solid_to
  points_are =
      ap (run_of 2 24) h
      ∙ records_counted 2 24 (faces_to w.faces (5 ∷ s)) z.points
      ∙ omega (arith, no_point w.faces s)

  at_faces : drop (at + 25 * length w.points) l ≡ faces_to w.faces (5 ∷ s)
  unfolding solid_to
  at_faces =
      let i : at + 25 * length w.points ≡ at + length w.points * 25 = omega arith in
      ap (λ x. drop x l) i
      ∙ sym (drop-drop (length w.points * 25) at l)
      ∙ ap (drop (length w.points * 25)) h
      ∙ records_passed 2 24 (faces_to w.faces (5 ∷ s)) z.points

  faces_are : faces_after 0 (drop (at + 25 * length w.points) l) ≡ map length w.faces
  faces_are = ap (faces_after 0) at_faces ∙ faces_counted s z.faces

  at_end : drop (at + 25 * length w.points + length w.faces + 3 * total (map length w.faces)) l ≡ 5 ∷ s
  at_end =
      let m = at + 25 * length w.points in
      let k = length w.faces + 3 * total (map length w.faces) in
      let i : m + length w.faces + 3 * total (map length w.faces) ≡ m + k = omega arith in
      ap (λ x. drop x l) i
      ∙ sym (drop-drop k m l)
      ∙ ap (drop k) at_faces
      ∙ faces_passed (5 ∷ s) z.faces

  pub solid_complete : span_of l at ≡ Ok (places_of at w)
  unfolding span_of span_points span_faces span_end faces_of places_of
  solid_complete =
      let t : standing 5 0 (5 ∷ s) ≡ true = stands_made 5 0 [] s refl in
      let n : length (map length w.faces) ≡ length w.faces = length-map w.faces length in
      rw (points_are, faces_are, n, at_end, t) refl

  pub solid_rest : drop (places_of at w).end l ≡ s
  unfolding places_of
  solid_rest =
      let e = at + 25 * length w.points + length w.faces + 3 * total (map length w.faces) in
      sym (drop-drop 1 e l) ∙ ap (drop 1) at_end

  pub solid_kept : bodies_at l (places_of at w) ≡ w
  unfolding bodies_at places_of solid_to
  solid_kept =
      let p : bodies 24 (length w.points) (drop at l) ≡ w.points = ap (bodies 24 (length w.points)) h ∙ records_kept 2 24 (faces_to w.faces (5 ∷ s)) z.points in
      let f : face_bodies (length w.faces) (drop (at + 25 * length w.points) l) ≡ w.faces = ap (face_bodies (length w.faces)) at_faces ∙ faces_kept s z.faces in
      rw (p, f) refl
