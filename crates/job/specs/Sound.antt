-- The reader's definition is sound and complete: `read_job l` is `ok j` exactly when the bytes are a job that means j, and else 1.
use Rattle.std.specs.Prelude.{◌≡◌, Bool, false, not, cond, List, [], ◌∷◌, ◌++◌, ℕ, zero, suc, ◌+◌, ◌*◌, ◌≤◌, length, take, drop, get_or, eqb, leb, Ok, Err}
use Rattle.std.proofs.Math.Path.{refl, sym, ap}
use Rattle.std.proofs.Common.{subst, ◌∙◌, arith, length-drop, take-take, drop-drop, drop_at, take_at, get_or-drop, le-leb, leb-true, eq-eqb, eqb-true}
use Rattle.std.proofs.Math.Bool.{true}
use Rattle.std.specs.Float.Ieee.{of_bits}
use Rattle.std.specs.Float.{binary64}
use Rattle.std.proofs.lemmas.Bool.{not-false}
use Rattle.refusal.specs.declared.Refusal.{Refusal}
use Rattle.refusal.specs.Outcome.{Outcome, refuse, refusal_of, then, unless}
use Rattle.refusal.specs.Laws.{same_ok, then_ok, unless_ok}
use Rattle.refusal.specs.Tests.{and_true}
use Rattle.words.specs.Little.{little, word_at, float_at}
use Rattle.job.specs.declared.Operation.{Operation}
use Rattle.job.specs.declared.Operation.TheVariants.{Intersection, Difference, Union}
use Rattle.job.specs.declared.Faces.{Faces}
use Rattle.job.specs.declared.Span.{Span}
use Rattle.job.specs.declared.Layout.{Layout}
use Rattle.job.specs.Records.{standing, run_of, faces_of, span_end, span_faces, span_points, span_of}
use Rattle.job.specs.Read.{headed, precision_at, operation_of, closing, operation_at, layout_as, layout_with, layout_on, layout_after, layout_of, bodies_at, solid_at, job_at, read_job}
use Rattle.job.specs.Bytes.{JobBodies, solid_to, operation_byte, job_bytes, JobSized, precision_of, Job, job_of, IsJob}
use Rattle.job.specs.Runs.{stands_parts, stands_body}
use Rattle.job.specs.Parts.{stands_made, solid_sound, places_of, solid_complete, solid_rest, solid_kept}

-- ---- a part of a part

pub within : (m k n : ℕ) (s : List ℕ) → m + k ≤ n → take k (drop m (take n s)) ≡ take k (drop m s)
within zero k n s h = take-take k n s (omega arith)
within (suc m) k zero s h = absurd (omega arith)
within (suc m) k (suc n) [] h = refl
within (suc m) k (suc n) (x ∷ s) h = within m k n s (omega arith)

pub float_within : (l : List ℕ) (at n i j : ℕ) → i + 8 ≤ n → at + i ≡ j → float_at (take n (drop at l)) i ≡ float_at l j
unfolding float_at word_at
float_within l at n i j h e =
    ap (λ x. of_bits binary64 (little x)) (within i 8 n (drop at l) h ∙ ap (take 8) (drop-drop i at l ∙ ap (λ x. drop x l) e))

-- ---- "one 1", with its tolerances

pub precision_same : (l : List ℕ) → precision_of (take 16 (drop 1 l)) ≡ precision_at l 1
unfolding precision_of precision_at
precision_same l = rw (float_within l 1 16 0 1 (omega arith) refl, float_within l 1 16 8 9 (omega arith) refl) refl

pub head_stands : (l : List ℕ) → headed l ≡ true → standing 1 16 l ≡ true
unfolding headed
head_stands l e = (and_true (leb (length l) 32768) (standing 1 16 l) e).1

pub head_short : (l : List ℕ) → headed l ≡ true → length l ≤ 32768
unfolding headed
head_short l e = leb-true (length l) 32768 (and_true (leb (length l) 32768) (standing 1 16 l) e).0

pub head_made : (l b s : List ℕ) → length b ≡ 16 → l ≡ 1 ∷ b ++ s → length l ≤ 32768 → headed l ≡ true
unfolding headed
head_made l b s z e h =
    let x : leb (length l) 32768 ≡ true = le-leb (length l) 32768 h in
    let y : standing 1 16 l ≡ true = ap (standing 1 16) e ∙ stands_made 1 16 b s z in
    rw (x, y) refl

pub head_rest : (l b s : List ℕ) → length b ≡ 16 → l ≡ 1 ∷ b ++ s → drop 17 l ≡ s
head_rest l b s z e = ap (drop 17) e ∙ drop_at b s 16 z

pub head_body : (l b s : List ℕ) → length b ≡ 16 → l ≡ 1 ∷ b ++ s → take 16 (drop 1 l) ≡ b
head_body l b s z e = ap (λ x. take 16 (drop 1 x)) e ∙ take_at b s 16 z

-- ---- "one 6; end"

byte_by : (x y z : Bool) (b : ℕ) (o : Operation) → (x ≡ true → b ≡ 1) → (y ≡ true → b ≡ 2) → (z ≡ true → b ≡ 3)
    → cond x (Ok Intersection) (cond y (Ok Difference) (cond z (Ok Union) (refuse 1))) ≡ Ok o → b ≡ operation_byte o
unfolding operation_byte
byte_by true y z b o p q r e = let k : Intersection ≡ o = cc in p refl ∙ ap operation_byte k
byte_by false true z b o p q r e = let k : Difference ≡ o = cc in q refl ∙ ap operation_byte k
byte_by false false true b o p q r e = let k : Union ≡ o = cc in r refl ∙ ap operation_byte k
byte_by false false false b o p q r e = let n : ◌≡◌ {A = ℕ} 0 1 = cc in absurd (omega arith)

byte_of : (b : ℕ) (o : Operation) → operation_of b ≡ Ok o → b ≡ operation_byte o
unfolding operation_of
byte_of b o e = byte_by (eqb b 1) (eqb b 2) (eqb b 3) b o (eqb-true b 1) (eqb-true b 2) (eqb-true b 3) e

of_byte : (o : Operation) → operation_of (operation_byte o) ≡ Ok o
unfolding operation_of operation_byte
of_byte Intersection = refl
of_byte Difference = refl
of_byte Union = refl

two_left : (s : List ℕ) (b : ℕ) → length s ≡ 2 → get_or s 1 0 ≡ b → standing 6 1 s ≡ true → s ≡ 6 ∷ b ∷ []
two_left [] b e g t = absurd (omega arith)
two_left (x ∷ []) b e g t = absurd (omega arith)
two_left (x ∷ y ∷ []) b e g t = stands_parts 6 1 (x ∷ y ∷ []) t ∙ ap (λ v. 6 ∷ v ∷ []) g
two_left (x ∷ y ∷ z ∷ s) b e g t = absurd (omega arith)

operation_sound : (l : List ℕ) (at : ℕ) (o : Operation) → operation_at l at ≡ Ok o → drop at l ≡ 6 ∷ operation_byte o ∷ []
unfolding operation_at closing
operation_sound l at o e =
    let u = unless_ok (not (closing l at)) 1 (operation_of (get_or l (at + 1) 0)) o e in
    let t = not-false (closing l at) u.0 in
    let n : length l ≡ at + 2 = eqb-true (length l) (at + 2) (and_true (standing 6 1 (drop at l)) (eqb (length l) (at + 2)) t).1 in
    let b : get_or l (at + 1) 0 ≡ operation_byte o = byte_of (get_or l (at + 1) 0) o u.1 in
    two_left (drop at l) (operation_byte o) (omega (arith, length-drop at l)) (get_or-drop at l 1 0 ∙ b)
    (and_true (standing 6 1 (drop at l)) (eqb (length l) (at + 2)) t).0

operation_complete : (l : List ℕ) (at : ℕ) (o : Operation) → drop at l ≡ 6 ∷ operation_byte o ∷ [] → operation_at l at ≡ Ok o
unfolding operation_at closing
operation_complete l at o e =
    let n : length l ≡ at + 2 = omega (arith, length-drop at l, ap length e) in
    let x : standing 6 1 (drop at l) ≡ true = ap (standing 6 1) e ∙ stands_made 6 1 (operation_byte o ∷ []) [] refl in
    let y : eqb (length l) (at + 2) ≡ true = eq-eqb (length l) (at + 2) n in
    let b : get_or l (at + 1) 0 ≡ operation_byte o = sym (get_or-drop at l 1 0) ∙ ap (λ s. get_or s 1 0) e in
    rw (x, y, b) (of_byte o)

-- ---- the whole job

job_meaning : (l : List ℕ) (a b : Span) (o : Operation)
    → job_of (record { tolerances = take 16 (drop 1 l); first = bodies_at l a; second = bodies_at l b; operation = o }) ≡ job_at l (layout_as l a b o)
unfolding job_of job_at layout_as solid_at
job_meaning l a b o = rw (precision_same l) refl

parts_sound : (l : List ℕ) (a b : Span) (o : Operation) → headed l ≡ true → span_of l 17 ≡ Ok a → span_of l a.end ≡ Ok b → operation_at l b.end ≡ Ok o
    → IsJob l (job_at l (layout_as l a b o))
unfolding job_bytes
parts_sound l a b o h p q r =
    let s = head_stands l h in
    let x = solid_sound l 17 a p in
    let y = solid_sound l a.end b q in
    record {
      bodies = record { tolerances = take 16 (drop 1 l); first = bodies_at l a; second = bodies_at l b; operation = o };
      sized = record { tolerances = stands_body 1 16 l s; first = x.sized; second = y.sized };
      bytes =
          stands_parts 1 16 l s
          ∙ ap (λ v. 1 ∷ take 16 (drop 1 l) ++ v)
          (x.bytes ∙ ap (solid_to (bodies_at l a)) (y.bytes ∙ ap (solid_to (bodies_at l b)) (operation_sound l b.end o r)));
      short = head_short l h;
      meaning = job_meaning l a b o;
    }

layout_sound : (l : List ℕ) (y : Layout) → layout_of l ≡ Ok y → IsJob l (job_at l y)
unfolding layout_of layout_after layout_on
layout_sound l y e =
    let u = unless_ok (not (headed l)) 1 (then (span_of l 17) (layout_after l)) y e in
    let h = not-false (headed l) u.0 in
    let f = then_ok (span_of l 17) (layout_after l) y u.1 in
    let g = then_ok (span_of l f.0.end) (layout_on l f.0) y f.2 in
    let o = then_ok (operation_at l g.0.end) (layout_with l f.0 g.0) y g.2 in
    let k : layout_as l f.0 g.0 o.0 ≡ y = same_ok o.2 in
    subst (λ v. IsJob l (job_at l v)) k (parts_sound l f.0 g.0 o.0 h f.1 g.1 o.1)

-- what is read as a job is one, and means what was read
pub sound : (l : List ℕ) (j : Job) → read_job l ≡ Ok j → IsJob l j
unfolding read_job
sound l j e =
    let w = then_ok (layout_of l) (λ y. Ok (job_at l y)) j e in
    subst (λ v. IsJob l v) (same_ok w.2) (layout_sound l w.0 w.1)

module _ (l : List ℕ) (w : JobBodies) (z : JobSized w) (e : l ≡ job_bytes w) where
  first_here : drop 17 l ≡ solid_to w.first (solid_to w.second (6 ∷ operation_byte w.operation ∷ []))
  unfolding job_bytes
  first_here = head_rest l w.tolerances _ z.tolerances e

  abbrev first_span : Span
  first_span = places_of 17 w.first

  second_here : drop first_span.end l ≡ solid_to w.second (6 ∷ operation_byte w.operation ∷ [])
  second_here = solid_rest l 17 w.first _ z.first first_here

  abbrev second_span : Span
  second_span = places_of first_span.end w.second

  operation_here : drop second_span.end l ≡ 6 ∷ operation_byte w.operation ∷ []
  operation_here = solid_rest l first_span.end w.second _ z.second second_here

  layout_complete : length l ≤ 32768 → layout_of l ≡ Ok (layout_as l first_span second_span w.operation)
  unfolding layout_of layout_after layout_on job_bytes
  layout_complete h =
      let x : headed l ≡ true = head_made l w.tolerances _ z.tolerances e h in
      let p : span_of l 17 ≡ Ok first_span = solid_complete l 17 w.first _ z.first first_here in
      let q : span_of l first_span.end ≡ Ok second_span = solid_complete l first_span.end w.second _ z.second second_here in
      let r : operation_at l second_span.end ≡ Ok w.operation = operation_complete l second_span.end w.operation operation_here in
      rw (x, p, q, r) refl

  job_complete : job_at l (layout_as l first_span second_span w.operation) ≡ job_of w
  unfolding job_at layout_as job_of solid_at job_bytes
  job_complete =
      let p : precision_at l 1 ≡ precision_of w.tolerances = sym (precision_same l) ∙ ap precision_of (head_body l w.tolerances _ z.tolerances e) in
      let a : bodies_at l first_span ≡ w.first = solid_kept l 17 w.first _ z.first first_here in
      let b : bodies_at l second_span ≡ w.second = solid_kept l first_span.end w.second _ z.second second_here in
      rw (p, a, b) refl

-- bytes that are a job are read, as what they mean
pub complete : (l : List ℕ) (j : Job) → IsJob l j → read_job l ≡ Ok j
unfolding read_job
complete l j i =
    ap (λ o. then o (λ y. Ok (job_at l y))) (layout_complete l i.bodies i.sized i.bytes i.short)
    ∙ ap Ok (job_complete l i.bodies i.sized i.bytes ∙ i.meaning)

-- ---- 1 is the only refusal

one_unless : {A : Type 0} (b : Bool) (o : Outcome A) (r : Refusal) → ((q : Refusal) → o ≡ Err q → q ≡ refusal_of 1) → unless (not b) 1 o ≡ Err r → r ≡ refusal_of 1
one_unless true o r f e = f r e
one_unless false o r f e = cc

one_then : {A B : Type 0} (o : Outcome A) (f : A → Outcome B) (r : Refusal) → ((q : Refusal) → o ≡ Err q → q ≡ refusal_of 1) → ((a : A) (q : Refusal) → f a ≡ Err q → q ≡ refusal_of 1)
    → then o f ≡ Err r → r ≡ refusal_of 1
one_then (Ok a) f r g h e = h a r e
one_then (Err q) f r g h e = let k : q ≡ r = cc in g r (ap Err k)

one_ok : {A : Type 0} (x : A) (r : Refusal) → Ok x ≡ Err r → r ≡ refusal_of 1
one_ok x r e = cc

one_operation : (x y z : Bool) (r : Refusal) → cond x (Ok Intersection) (cond y (Ok Difference) (cond z (Ok Union) (refuse 1))) ≡ Err r → r ≡ refusal_of 1
one_operation true y z r e = cc
one_operation false true z r e = cc
one_operation false false true r e = cc
one_operation false false false r e = cc

end_refused : (l : List ℕ) (at n m : ℕ) (f : Faces) (e : ℕ) (r : Refusal) → span_end l at n m f e ≡ Err r → r ≡ refusal_of 1
unfolding span_end
end_refused l at n m f e r p =
    let a : Span = record { start = at; points = n; middle = m; faces = f.faces; corners = f.corners; end = e + 1 } in
    one_unless (standing 5 0 (drop e l)) (Ok a) r (one_ok a) p

pub span_refused : (l : List ℕ) (at : ℕ) (r : Refusal) → span_of l at ≡ Err r → r ≡ refusal_of 1
unfolding span_of span_points span_faces
span_refused l at r e =
    let n = run_of 2 24 (drop at l) in
    let m = at + 25 * n in
    let f = faces_of (drop m l) in
    end_refused l at n m f (m + f.faces + 3 * f.corners) r e

operation_refused : (l : List ℕ) (at : ℕ) (r : Refusal) → operation_at l at ≡ Err r → r ≡ refusal_of 1
unfolding operation_at operation_of
operation_refused l at r e =
    let b = get_or l (at + 1) 0 in
    one_unless (closing l at) (operation_of b) r (one_operation (eqb b 1) (eqb b 2) (eqb b 3)) e

pub layout_refused : (l : List ℕ) (r : Refusal) → layout_of l ≡ Err r → r ≡ refusal_of 1
unfolding layout_of layout_after layout_on
layout_refused l r e =
    one_unless (headed l) (then (span_of l 17) (layout_after l)) r
    (λ q. one_then (span_of l 17) (layout_after l) q (span_refused l 17)
    (λ a q. one_then (span_of l a.end) (layout_on l a) q (span_refused l a.end)
    (λ b q. one_then (operation_at l b.end) (layout_with l a b) q (operation_refused l b.end) (λ o q. one_ok (layout_as l a b o) q)))) e

pub refused_by_1 : (l : List ℕ) (r : Refusal) → read_job l ≡ Err r → r ≡ refusal_of 1
unfolding read_job
refused_by_1 l r e = one_then (layout_of l) (λ y. Ok (job_at l y)) r (layout_refused l) (λ y q. one_ok (job_at l y) q) e
