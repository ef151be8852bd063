-- One solid alone, and one facet: sound and complete, by the parts of a job.
use Rattle.std.specs.Prelude.{◌≡◌, refl, true, not, List, [], ◌∷◌, ◌++◌, ℕ, ◌+◌, ◌*◌, ◌≤◌, length, take, drop, eqb, Ok}
use Rattle.std.proofs.Common.{sym, ap, subst, ◌∙◌, arith, length-drop, length-append, drop_of_length-le, drop-drop, drop_at, take_at, eq-eqb, eqb-true}
use Rattle.std.proofs.lemmas.Bool.{not-false}
use Rattle.refusal.specs.Outcome.{then}
use Rattle.refusal.specs.Laws.{same_ok, then_ok, unless_ok}
use Rattle.refusal.specs.Tests.{and_true}
use Rattle.job.specs.declared.Span.{Span}
use Rattle.job.specs.declared.CellLayout.{CellLayout}
use Rattle.job.specs.declared.FacetLayout.{FacetLayout}
use Rattle.job.specs.Records.{standing, run_of, run_after, span_of, bodies}
use Rattle.job.specs.Bytes.{records_to, solid_to, precision_of, spot_of, plane_of, Single, IsCell, Facet, IsFacet}
use Rattle.job.specs.Read.{headed, precision_at, bodies_at, solid_at, spot_at, plane_at, cell_end, cell_layout, cell_at, read_cell, facet_end, facet_headed, facet_layout, facet_at, read_facet}
use Rattle.job.specs.Runs.{stands_parts, stands_body}
use Rattle.job.specs.Parts.{stands_made, records_sound, sized_sound, length_records, records_counted, records_kept, solid_sound, places_of, solid_complete, solid_rest, solid_kept}
use Rattle.job.specs.Points.{span_placed}
use Rattle.job.specs.Sound.{float_within, precision_same, head_stands, head_short, head_made, head_rest, head_body}

nothing_left : (l : List ℕ) (at : ℕ) → length l ≡ at → drop at l ≡ []
nothing_left l at e = let h : length l ≤ at = omega arith in drop_of_length-le l h

-- a solid that was read ends within the bytes, so what is left is nothing only at their end
all_read : (l : List ℕ) (at : ℕ) (a : Span) → span_of l at ≡ Ok a → drop a.end l ≡ [] → length l ≡ a.end
all_read l at a p e = omega (arith, length-drop a.end l, ap length e, (span_placed l at a p).within)

-- ---- one solid alone

parts_are : (l : List ℕ) (a : Span) → headed l ≡ true → span_of l 17 ≡ Ok a → length l ≡ a.end → IsCell l (cell_at l (record { precision = precision_at l 1; solid = a }))
unfolding cell_at solid_at
parts_are l a h p n =
    let s = head_stands l h in
    let x = solid_sound l 17 a p in
    record {
      tolerances = take 16 (drop 1 l);
      bodies = bodies_at l a;
      headed = stands_body 1 16 l s;
      sized = x.sized;
      bytes = stands_parts 1 16 l s ∙ ap (λ v. 1 ∷ take 16 (drop 1 l) ++ v) (x.bytes ∙ ap (solid_to (bodies_at l a)) (nothing_left l a.end n));
      short = head_short l h;
      meaning = rw (precision_same l) refl;
    }

cell_layout_sound : (l : List ℕ) (y : CellLayout) → cell_layout l ≡ Ok y → IsCell l (cell_at l y)
unfolding cell_layout cell_end
cell_layout_sound l y e =
    let u = unless_ok (not (headed l)) 1 (then (span_of l 17) (cell_end l)) y e in
    let h = not-false (headed l) u.0 in
    let f = then_ok (span_of l 17) (cell_end l) y u.1 in
    let a = f.0 in
    let x : CellLayout = record { precision = precision_at l 1; solid = a } in
    let v = unless_ok (not (eqb (length l) a.end)) 1 (Ok x) y f.2 in
    let n : length l ≡ a.end = eqb-true (length l) a.end (not-false (eqb (length l) a.end) v.0) in
    subst (λ v. IsCell l (cell_at l v)) (same_ok v.1) (parts_are l a h f.1 n)

pub cell_sound : (l : List ℕ) (j : Single) → read_cell l ≡ Ok j → IsCell l j
unfolding read_cell
cell_sound l j e =
    let w = then_ok (cell_layout l) (λ y. Ok (cell_at l y)) j e in
    subst (λ v. IsCell l v) (same_ok w.2) (cell_layout_sound l w.0 w.1)

pub cell_complete : (l : List ℕ) (j : Single) → IsCell l j → read_cell l ≡ Ok j
unfolding read_cell cell_layout cell_end cell_at solid_at places_of
cell_complete l j i =
    let w = i.bodies in
    let here : drop 17 l ≡ solid_to w [] = head_rest l i.tolerances (solid_to w []) i.headed i.bytes in
    let a = places_of 17 w in
    let h : headed l ≡ true = head_made l i.tolerances (solid_to w []) i.headed i.bytes i.short in
    let p : span_of l 17 ≡ Ok a = solid_complete l 17 w [] i.sized here in
    let n : length l ≡ a.end = all_read l 17 a p (solid_rest l 17 w [] i.sized here) in
    let q : eqb (length l) a.end ≡ true = eq-eqb (length l) a.end n in
    let k : bodies_at l a ≡ w = solid_kept l 17 w [] i.sized here in
    let t : precision_at l 1 ≡ precision_of i.tolerances = sym (precision_same l) ∙ ap precision_of (head_body l i.tolerances (solid_to w []) i.headed i.bytes) in
    rw (h, p, q, t, k) (ap Ok i.meaning)

-- ---- one facet

spot_same : (l : List ℕ) (i j : ℕ) → i + 24 ≤ 96 → 18 + i ≡ j → spot_of (take 96 (drop 18 l)) i ≡ spot_at l j
unfolding spot_of spot_at
spot_same l i j h e =
    let y : 18 + (i + 8) ≡ j + 8 = omega arith in
    let z : 18 + (i + 16) ≡ j + 16 = omega arith in
    rw (float_within l 18 96 i j (omega arith) e, float_within l 18 96 (i + 8) (j + 8) (omega arith) y, float_within l 18 96 (i + 16) (j + 16) (omega arith) z) refl

plane_same : (l : List ℕ) → plane_of (take 96 (drop 18 l)) ≡ plane_at l 18
unfolding plane_of plane_at
plane_same l =
    rw (spot_same l 0 18 (omega arith) refl, spot_same l 24 42 (omega arith) refl, spot_same l 48 66 (omega arith) refl, spot_same l 72 90 (omega arith) refl) refl

abbrev facet_on : List ℕ → ℕ → FacetLayout
facet_on l n = record { precision = precision_at l 1; plane = plane_at l 18; start = 114; points = n }

facet_parts : (l : List ℕ) → facet_headed l ≡ true → length l ≡ 114 + 25 * run_of 2 24 (drop 114 l) → IsFacet l (facet_at l (facet_on l (run_of 2 24 (drop 114 l))))
unfolding facet_headed facet_at
facet_parts l h n =
    let c = run_of 2 24 (drop 114 l) in
    let hd = (and_true (headed l) (standing 9 96 (drop 17 l)) h).0 in
    let s = head_stands l hd in
    let p = (and_true (headed l) (standing 9 96 (drop 17 l)) h).1 in
    let d : drop 1 (drop 17 l) ≡ drop 18 l = drop-drop 1 17 l in
    let r : drop 97 (drop 17 l) ≡ drop 114 l = drop-drop 97 17 l in
    let z : 114 + c * 25 ≡ 114 + 25 * c = omega arith in
    record {
      tolerances = take 16 (drop 1 l);
      plane = take 96 (drop 18 l);
      bodies = bodies 24 c (drop 114 l);
      headed = stands_body 1 16 l s;
      framed = ap (λ x. length (take 96 x)) (sym d) ∙ stands_body 9 96 (drop 17 l) p;
      sized = sized_sound 2 24 c (drop 114 l) refl;
      bytes =
          stands_parts 1 16 l s
          ∙ ap (λ v. 1 ∷ take 16 (drop 1 l) ++ v)
          (stands_parts 9 96 (drop 17 l) p
          ∙ ap (λ x. 9 ∷ take 96 x ++ drop 97 (drop 17 l)) d
          ∙ ap (λ x. 9 ∷ take 96 (drop 18 l) ++ x)
          (r ∙ records_sound 2 24 c (drop 114 l) refl ∙ ap (records_to 2 (bodies 24 c (drop 114 l))) (drop-drop (c * 25) 114 l ∙ ap (λ x. drop x l) z ∙ nothing_left l (114 + 25 * c) n)));
      short = head_short l hd;
      meaning = rw (precision_same l, plane_same l) refl;
    }

facet_layout_sound : (l : List ℕ) (y : FacetLayout) → facet_layout l ≡ Ok y → IsFacet l (facet_at l y)
unfolding facet_layout facet_end
facet_layout_sound l y e =
    let c = run_of 2 24 (drop 114 l) in
    let u = unless_ok (not (facet_headed l)) 1 (facet_end l c) y e in
    let h = not-false (facet_headed l) u.0 in
    let w = unless_ok (not (eqb (length l) (114 + 25 * c))) 1 (Ok (facet_on l c)) y u.1 in
    let n : length l ≡ 114 + 25 * c = eqb-true (length l) (114 + 25 * c) (not-false (eqb (length l) (114 + 25 * c)) w.0) in
    subst (λ v. IsFacet l (facet_at l v)) (same_ok w.1) (facet_parts l h n)

pub facet_sound : (l : List ℕ) (j : Facet) → read_facet l ≡ Ok j → IsFacet l j
unfolding read_facet
facet_sound l j e =
    let w = then_ok (facet_layout l) (λ y. Ok (facet_at l y)) j e in
    subst (λ v. IsFacet l v) (same_ok w.2) (facet_layout_sound l w.0 w.1)

pub facet_complete : (l : List ℕ) (j : Facet) → IsFacet l j → read_facet l ≡ Ok j
unfolding read_facet facet_layout facet_end facet_headed facet_at run_after
facet_complete l j i =
    let t = records_to 2 i.bodies [] in
    let here : drop 17 l ≡ 9 ∷ i.plane ++ t = head_rest l i.tolerances (9 ∷ i.plane ++ t) i.headed i.bytes in
    let body : drop 18 l ≡ i.plane ++ t = sym (drop-drop 1 17 l) ∙ ap (drop 1) here in
    let rest : drop 114 l ≡ t = sym (drop-drop 96 18 l) ∙ ap (drop 96) body ∙ drop_at i.plane t 96 i.framed in
    let h : headed l ≡ true = head_made l i.tolerances (9 ∷ i.plane ++ t) i.headed i.bytes i.short in
    let s : standing 9 96 (drop 17 l) ≡ true = ap (standing 9 96) here ∙ stands_made 9 96 i.plane t i.framed in
    let c : run_of 2 24 (drop 114 l) ≡ length i.bodies = ap (run_of 2 24) rest ∙ records_counted 2 24 [] i.sized ∙ omega arith in
    let n : length l ≡ 114 + 25 * length i.bodies =
    omega (arith, length-drop 114 l, ap length rest, length_records 2 24 [] i.sized, length-drop 17 l, ap length here, length-append i.plane t, i.framed) in
    let q : eqb (length l) (114 + 25 * length i.bodies) ≡ true = eq-eqb (length l) (114 + 25 * length i.bodies) n in
    let p : precision_at l 1 ≡ precision_of i.tolerances = sym (precision_same l) ∙ ap precision_of (head_body l i.tolerances (9 ∷ i.plane ++ t) i.headed i.bytes) in
    let f : plane_at l 18 ≡ plane_of i.plane = sym (plane_same l) ∙ ap plane_of (ap (take 96) body ∙ take_at i.plane t 96 i.framed) in
    let k : bodies 24 (length i.bodies) (drop 114 l) ≡ i.bodies = ap (bodies 24 (length i.bodies)) rest ∙ records_kept 2 24 [] i.sized in
    rw (h, s, c, q, p, f, k) (ap Ok i.meaning)
