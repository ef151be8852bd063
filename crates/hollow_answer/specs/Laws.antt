-- Laws of the answer of a hollow solid: its size, its bytes, and its two shells in their slices.
use Rattle.std.specs.Prelude.{◌≡◌, true, ℕ, ◌+◌, ◌*◌, ◌≤◌, ◌<◌, length, take, drop, Float, Ok, Err}
use Rattle.std.proofs.Math.Path.{refl, ap, subst}
use Rattle.std.proofs.Common.{sym, ap₂, ◌∙◌, arith, length-append, length-take, take_at}
use mathlib.Core.List.{List, [], ◌∷◌, ◌++◌, append_assoc, append-nil}
use Rattle.std.proofs.lemmas.List.Edits.{sets, sets-eq}
use Rattle.std.proofs.Math.Seq.{length-sets}
use Rattle.std.specs.Float.{nan}
use Rattle.refusal.specs.declared.Refusal.{Refusal}
use Rattle.refusal.specs.Outcome.{Outcome, refusal_of, each, heard}
use Rattle.refusal.specs.Laws.{stop, go, same_ok, then_ok}
use Rattle.space.specs.declared.Precision.{Precision}
use Rattle.space.specs.Shapes.{Face, Cell, corners}
use Rattle.polygon.specs.Memory.{point_at, points_at}
use Rattle.polygon.specs.MemoryLaws.{length_points_at}
use Rattle.room.specs.Rooms.{cell_floats, cell_counts, face_at, cell_at, counts_at, Within}
use Rattle.room.specs.Laws.{corners_cons, corners_none, length_cell_floats, cell_stored, get_d_sets_before, points_before, within_le, cell_counts_lem, cell_faces, cell_counts_snoc}
use Rattle.words.specs.Little.{digits}
use Rattle.solids.specs.Faces.{length_face}
use Rattle.bounds.specs.Bounds.{against, Lies}
use Rattle.offset.specs.Indexes.{corners_same, run_back}
use Rattle.offset.specs.Theorem.{heard_ok}
use Rattle.hollow.specs.Hollows.{reversed_face, Hollow, hollow_room, hollow_of, hollow_in}
use Rattle.hollow.specs.Stored.{behind, Walled, Walls}
use Rattle.hollow.specs.Laws.{reversed_corners}
use Rattle.writer.specs.Rows.{row}
use Rattle.answer.specs.Answers.{facet_answer, shell_answer}
use Rattle.answer.specs.Laws.{then_sets, length_count, length_facet}
use Rattle.ended.specs.declared.Ended.{Ended}
use Rattle.ended.specs.Ends.{fitted, answered, stopped, Handed}
use Rattle.ended.specs.Laws.{handed_not, handed_full, handed_all}
use Rattle.hollow_answer.specs.Calls.{hollow_answer, answer_of, wall_call, inner_at, hollow_at, Pair}

-- ---- how many bytes a shell has

facets_size : (c : Cell) → length (row facet_answer c) ≡ 100 * length c + 24 * corners 0 c
unfolding row
facets_size [] = omega (arith, corners_none)
facets_size (f ∷ c) = omega (arith, length-append (facet_answer f) (row facet_answer c), length_facet f, facets_size c, corners_cons f c)

pub shell_size : (k : ℕ) (c : Cell) → length (shell_answer k c) ≡ 5 + 100 * length c + 24 * corners 0 c
unfolding shell_answer
shell_size k c = omega (arith, length-append (digits 4 (length c)) (row facet_answer c), length_count (length c), facets_size c)

long_face : (f : Face) (c : Cell) → length (cell_floats (f ∷ c)) ≡ 13 + 3 * length f.points + length (cell_floats c)
long_face f c = omega (arith, length_cell_floats (f ∷ c), length_cell_floats c, corners_cons f c)

-- a cell that lies within k floats has no more
floats_fit : (c : Cell) (at k : ℕ) → Within (cell_counts c) at k → at + length (cell_floats c) ≤ k
unfolding Within cell_counts
floats_fit [] at k w = omega (arith, w, length_cell_floats [], corners_none)
floats_fit (f ∷ c) at k w = omega (arith, floats_fit c (at + 13 + 3 * length f.points) k w.1, long_face f c)

-- ---- the body of two shells

module _ (s : List Float) (counts : List ℕ) (n : ℕ) (P : Pair s counts n) (o : ℕ) (eo : o ≡ corners 0 (cell_at s 0 (counts_at counts 0 n))) where
  abbrev outer : Cell
  outer = cell_at s 0 (counts_at counts 0 n)

  place_is : 13 * n + 3 * o ≡ behind 0 n (cell_at s 0 (counts_at counts 0 n))
  place_is = omega (arith, eo)

  pub body_inner : Lies s (13 * n + 3 * o) counts n n
  body_inner = subst (λ x. Lies s x counts n n) (sym place_is) P.inner

  same_inner : cell_at s (13 * n + 3 * o) (counts_at counts n n) ≡ inner_at s counts n
  same_inner = ap (λ x. cell_at s x (counts_at counts n n)) place_is

  pub body_within : 13 * n + 3 * o ≤ length s
  body_within = within_le (counts_at counts n n) (13 * n + 3 * o) (length s) body_inner.within

  module _ (i : ℕ) (ei : i ≡ corners 0 (cell_at s (13 * n + 3 * o) (counts_at counts n n))) where
    pub body_total : 26 * n + 3 * (o + i) ≤ length s
    body_total =
        let c = cell_at s (13 * n + 3 * o) (counts_at counts n n) in
        let w = floats_fit c (13 * n + 3 * o) (length s) (subst (λ l. Within l (13 * n + 3 * o) (length s)) (sym (cell_counts_lem s (13 * n + 3 * o) (counts_at counts n n))) body_inner.within) in
        omega (arith, w, length_cell_floats c, cell_faces s (13 * n + 3 * o) counts n n P.inner.listed, ei)

    one : length (shell_answer 1 (cell_at s 0 (counts_at counts 0 n))) ≡ 5 + 100 * n + 24 * o
    one = omega (arith, shell_size 1 outer, cell_faces s 0 counts 0 n P.outer.listed, eo)

    two : length (shell_answer 0 (cell_at s (13 * n + 3 * o) (counts_at counts n n))) ≡ 5 + 100 * n + 24 * i
    two = omega (arith, shell_size 0 (cell_at s (13 * n + 3 * o) (counts_at counts n n)), cell_faces s (13 * n + 3 * o) counts n n P.inner.listed, ei)

    abbrev first : List ℕ
    first = shell_answer 1 (cell_at s 0 (counts_at counts 0 n))

    abbrev second : List ℕ
    second = shell_answer 0 (cell_at s (13 * n + 3 * o) (counts_at counts n n))

    whole : hollow_answer (hollow_at s counts n) ≡ digits 4 2 ++ (first ++ second)
    unfolding hollow_answer
    whole = ap (λ c. digits 4 2 ++ (shell_answer 1 (cell_at s 0 (counts_at counts 0 n)) ++ shell_answer 0 c)) (sym same_inner)

    size : length (hollow_answer (hollow_at s counts n)) ≡ 14 + 200 * n + 24 * (o + i)
    size = omega (arith, ap length whole, length-append (digits 4 2) (first ++ second), length-append first second, length_count 2, one, two)

    pub body_full : (a : List ℕ) (x : Refusal) (r : Ended) → length a < 14 + 200 * n + 24 * (o + i) → x ≡ refusal_of 12 → r ≡ stopped x → Handed (fitted (length a) (Ok (hollow_answer (hollow_at s counts n)))) a a r
    body_full a x r h e g = handed_full (Ok (hollow_answer (hollow_at s counts n))) a a r (hollow_answer (hollow_at s counts n)) x refl (omega (arith, h, size)) e g refl

    module _ (a : List ℕ) (h : 14 + 200 * n + 24 * (o + i) ≤ length a) (a1 : List ℕ) (e1 : a1 ≡ sets a 0 (digits 4 2)) where
      pub body_first : 4 + length (shell_answer 1 (cell_at s 0 (counts_at counts 0 n))) ≤ length a1
      body_first = omega (arith, h, one, ap length e1, length-sets a 0 (digits 4 2))

      module _ (m : ℕ) (em : m ≡ 4 + length (shell_answer 1 (cell_at s 0 (counts_at counts 0 n)))) (a2 : List ℕ) (e2 : a2 ≡ sets a1 4 (shell_answer 1 (cell_at s 0 (counts_at counts 0 n)))) where
        pub body_second : m + length (shell_answer 0 (cell_at s (13 * n + 3 * o) (counts_at counts n n))) ≤ length a2
        body_second = omega (arith, h, one, two, em, ap length e1, length-sets a 0 (digits 4 2), ap length e2, length-sets a1 4 first)

        pub body_all : (e : ℕ) (a3 : List ℕ) (r : Ended) → e ≡ m + length (shell_answer 0 (cell_at s (13 * n + 3 * o) (counts_at counts n n))) →
            a3 ≡ sets a2 m (shell_answer 0 (cell_at s (13 * n + 3 * o) (counts_at counts n n))) → r ≡ answered e → Handed (fitted (length a) (Ok (hollow_answer (hollow_at s counts n)))) a a3 r
        body_all e a3 r ee e3 er =
            let p : a2 ≡ sets a 0 (digits 4 2 ++ first) = then_sets a a1 a2 0 4 (digits 4 2) first e1 e2 (omega (arith, length_count 2)) in
            let q : a3 ≡ sets a 0 ((digits 4 2 ++ first) ++ second) = then_sets a a2 a3 0 m (digits 4 2 ++ first) second p e3 (omega (arith, em, length-append (digits 4 2) first, length_count 2)) in
            let l : e ≡ length (hollow_answer (hollow_at s counts n)) = omega (arith, ee, em, one, two, size) in
            handed_all
            (Ok (hollow_answer (hollow_at s counts n)))
            a
            a3
            r
            (hollow_answer (hollow_at s counts n))
            refl
            (omega (arith, h, size))
            (er ∙ ap answered l)
            (q ∙ ap (sets a 0) (append_assoc (digits 4 2) first second ∙ sym whole))

-- ---- what stands before a store is as it was

point_before : (s : List Float) (i j : ℕ) (vs : List Float) → i + 3 ≤ j → point_at (sets s j vs) i ≡ point_at s i
unfolding points_at
point_before s i j vs h = let e : points_at (sets s j vs) i 1 ≡ points_at s i 1 = points_before s i 1 j vs (omega arith) in cc

cell_before : (s : List Float) (at : ℕ) (ns : List ℕ) (j : ℕ) (vs : List Float) → Within ns at j → cell_at (sets s j vs) at ns ≡ cell_at s at ns
unfolding cell_at Within
cell_before s at [] j vs w = refl
cell_before s at (n ∷ ns) j vs w =
    let k = within_le ns (at + 13 + 3 * n) j w.1 in
    let o = point_before s at j vs (omega (arith, k)) in
    let x = point_before s (at + 3) j vs (omega (arith, k)) in
    let y = point_before s (at + 6) j vs (omega (arith, k)) in
    let z = point_before s (at + 9) j vs (omega (arith, k)) in
    let m = get_d_sets_before s j (at + 12) vs nan (omega (arith, k)) in
    let p = points_before s (at + 13) n j vs (omega (arith, k)) in
    let r = cell_before s (at + 13 + 3 * n) ns j vs w.1 in
    λ i. record { plane = record { frame = record { origin = o i; x = x i; y = y i; z = z i }; mark = m i }; points = p i } ∷ r i

-- a cell lies within as many floats as it has
pub within_ends : (l : List Float) (at : ℕ) (ns : List ℕ) (k j : ℕ) → Within ns at k → at + 13 * length ns + 3 * corners 0 (cell_at l at ns) ≤ j → Within ns at j
unfolding Within cell_at
within_ends l at [] k j w b = omega (arith, b)
within_ends l at (c ∷ ns) k j w b =
    let p = corners_cons (face_at l at c) (cell_at l (at + 13 + 3 * c) ns) in
    (w.0, within_ends l (at + 13 + 3 * c) ns k j w.1 (omega (arith, b, p, length_points_at l (at + 13) c)))

counts_before : (l : List ℕ) (n : ℕ) (v : List ℕ) → n + length v ≤ length l → counts_at (sets l n v) 0 n ≡ counts_at l 0 n
counts_before l n v h =
    ap (take n) (sets-eq v l n h ∙ append_assoc (take n l) v (drop (n + length v) l)) ∙ take_at (take n l) (v ++ drop (n + length v) l) n (length-take n l ∙ omega (arith, h))

-- ---- the reversed cell has as many corners in each face

pub reversed_counts : (t : Precision) (l before c : Cell) → each (reversed_face t) before l ≡ Ok c → cell_counts c ≡ cell_counts before ++ cell_counts l
unfolding each cell_counts
reversed_counts t [] before c e = ap cell_counts (sym (same_ok e)) ∙ sym (append-nil (cell_counts before))
reversed_counts t (f ∷ l) before c e =
    let g = then_ok (reversed_face t f) (λ y. each (reversed_face t) (before ++ (y ∷ [])) l) c e in
    reversed_counts t l (before ++ (g.0 ∷ [])) c g.2
    ∙ ap (λ x. x ++ cell_counts l) (cell_counts_snoc before g.0)
    ∙ append_assoc (cell_counts before) (length g.0.points ∷ []) (cell_counts l)
    ∙ ap (λ x. cell_counts before ++ (x ∷ cell_counts l)) (reversed_corners t f g.0 g.1)

-- ---- the two shells, once they stand one behind the other

pub hollow_parts : (t : Precision) (limit : ℕ) (out moved made : Cell) (h : Hollow) → hollow_in t limit out moved made ≡ Ok h → (h.outer ≡ out) × (each (reversed_face t) [] made ≡ Ok h.inner)
unfolding hollow_in hollow_of hollow_room
hollow_parts t limit out moved made h e =
    let f = then_ok (heard (against true t out moved) made) (hollow_of t limit out) h e in
    let g = heard_ok (against true t out moved) made f.0 f.1 in
    let i = then_ok (each (reversed_face t) [] f.0) _ h f.2 in
    let j = heard_ok _ _ h i.2 in
    (ap (λ x. x.outer) (sym j.1), ap (each (reversed_face t) []) g.1 ∙ i.1 ∙ ap (λ x. Ok x.inner) j.1)

walled_not : (o : Outcome Hollow) (d₀ : List Float) (to : ℕ) (n₀ : List ℕ) (k : ℕ) (d : List Float) (ns : List ℕ) (v : Outcome Unit) (x : Refusal) → Walled o d₀ to n₀ k d ns v → v ≡ Err x → o ≡ Err x
unfolding Walled
walled_not (Ok h) d₀ to n₀ k d ns v x w e = absurd (let a = w.0 in let z : ◌≡◌ {A = ℕ} 0 1 = cc in omega arith)
walled_not (Err y) d₀ to n₀ k d ns v x w e = let a = w.0 in let b : y ≡ x = cc in ap Err b

walled_made : (o : Outcome Hollow) (d₀ : List Float) (to : ℕ) (n₀ : List ℕ) (k : ℕ) (d : List Float) (ns : List ℕ) (v : Outcome Unit) → Walled o d₀ to n₀ k d ns v → v ≡ Ok tt →
    (h : Hollow) × (o ≡ Ok h) × (d ≡ sets d₀ to (cell_floats h.inner)) × (ns ≡ sets n₀ k (cell_counts h.inner))
unfolding Walled
walled_made (Ok h) d₀ to n₀ k d ns v w e = (h, refl, w.1, w.2)
walled_made (Err y) d₀ to n₀ k d ns v w e = absurd (let a = w.0 in let z : ◌≡◌ {A = ℕ} 0 1 = cc in omega arith)

module _ (t : Precision) (limit : ℕ) (m : List Float) (sizes : List ℕ) (src : List Float) (n : ℕ) (s : List Float) (counts : List ℕ) (W : Walls m 0 sizes 0 n src 0 sizes 0 n s 0 counts 0 n)
    (s' : List Float) (counts' : List ℕ) (v : Outcome Unit)
    (F : Walled (hollow_in t limit (cell_at s 0 (counts_at counts 0 n)) (cell_at m 0 (counts_at sizes 0 n)) (cell_at src 0 (counts_at sizes 0 n))) s (behind 0 n (cell_at s 0 (counts_at counts 0 n))) counts (0 + n) s' counts' v) where
  abbrev out : Cell
  out = cell_at s 0 (counts_at counts 0 n)

  abbrev moved : Cell
  moved = cell_at m 0 (counts_at sizes 0 n)

  abbrev made : Cell
  made = cell_at src 0 (counts_at sizes 0 n)

  abbrev to : ℕ
  to = behind 0 n (cell_at s 0 (counts_at counts 0 n))

  pub wall_stops : (a : List ℕ) (x : Refusal) (r : Ended) → v ≡ Err x → r ≡ stopped x →
      Handed (fitted (length a) (wall_call t limit (cell_at s 0 (counts_at counts 0 n)) (cell_at m 0 (counts_at sizes 0 n)) (cell_at src 0 (counts_at sizes 0 n)))) a a r
  unfolding wall_call
  wall_stops a x r e g = handed_not (wall_call t limit out moved made) a a r x (stop (hollow_in t limit out moved made) answer_of x (walled_not (hollow_in t limit out moved made) s to counts (0 + n) s' counts' v x F e)) g refl

  module _ (e : v ≡ Ok tt) where
    walled : (h : Hollow) × (hollow_in t limit (cell_at s 0 (counts_at counts 0 n)) (cell_at m 0 (counts_at sizes 0 n)) (cell_at src 0 (counts_at sizes 0 n)) ≡ Ok h)
        × (s' ≡ sets s (behind 0 n (cell_at s 0 (counts_at counts 0 n))) (cell_floats h.inner)) × (counts' ≡ sets counts (0 + n) (cell_counts h.inner))
    walled = walled_made (hollow_in t limit out moved made) s to counts (0 + n) s' counts' v F e

    abbrev inner : Cell
    inner = walled.0.inner

    inner_counts : cell_counts walled.0.inner ≡ counts_at sizes 0 n
    unfolding cell_counts
    inner_counts = reversed_counts t made [] inner (hollow_parts t limit out moved made walled.0 walled.1).1 ∙ cell_counts_lem src 0 (counts_at sizes 0 n)

    long : length (cell_counts walled.0.inner) ≡ n
    long = ap length inner_counts ∙ length_face sizes 0 n W.built.listed

    stored_counts : counts' ≡ sets counts n (cell_counts walled.0.inner)
    stored_counts = let z : 0 + n ≡ n = omega arith in walled.3 ∙ ap (λ k. sets counts k (cell_counts inner)) z

    room : n + length (cell_counts walled.0.inner) ≤ length counts
    room = omega (arith, long, W.place.slots)

    front_counts : counts_at counts' 0 n ≡ counts_at counts 0 n
    front_counts = ap (λ l. counts_at l 0 n) stored_counts ∙ counts_before counts n (cell_counts inner) room

    back_counts : counts_at counts' n n ≡ cell_counts walled.0.inner
    back_counts = ap (λ l. counts_at l n n) stored_counts ∙ ap (λ k. counts_at (sets counts n (cell_counts inner)) n k) (sym long) ∙ run_back counts n (cell_counts inner) room

    -- the outer cell lies before the inner one
    outer_ends : Within (counts_at counts 0 n) 0 (behind 0 n (cell_at s 0 (counts_at counts 0 n)))
    outer_ends = within_ends s 0 (counts_at counts 0 n) (length s) (behind 0 n out) W.outer.within (omega (arith, length_face counts 0 n W.outer.listed))

    outer_is : cell_at s' 0 (counts_at counts' 0 n) ≡ walled.0.outer
    outer_is = ap (cell_at s' 0) front_counts ∙ ap (λ l. cell_at l 0 (counts_at counts 0 n)) walled.2 ∙ cell_before s 0 (counts_at counts 0 n) to (cell_floats inner) outer_ends ∙ sym (hollow_parts t limit out moved made walled.0 walled.1).0

    same_place : behind 0 n (cell_at s' 0 (counts_at counts' 0 n)) ≡ behind 0 n (cell_at s 0 (counts_at counts 0 n))
    same_place = ap (behind 0 n) (outer_is ∙ (hollow_parts t limit out moved made walled.0 walled.1).0)

    long_floats : length s' ≡ length s
    long_floats = ap length walled.2 ∙ length-sets s to (cell_floats inner)

    long_counts : length counts' ≡ length counts
    long_counts = ap length walled.3 ∙ length-sets counts (0 + n) (cell_counts inner)

    pub wall_pair : Pair s' counts' n
    wall_pair = record {
      outer = record { listed = omega (arith, W.outer.listed, long_counts); within = subst (λ l. Within l 0 (length s')) (sym front_counts) (subst (Within (counts_at counts 0 n) 0) (sym long_floats) W.outer.within) };
      inner = record {
        listed = omega (arith, W.place.slots, long_counts);
        within = subst (λ x. Within (counts_at counts' n n) x (length s')) (sym same_place) (subst (λ l. Within l to (length s')) (sym (back_counts ∙ inner_counts)) (subst (Within (counts_at sizes 0 n) to) (sym long_floats) W.place.floats));
      };
    }

    inner_fits : behind 0 n (cell_at s 0 (counts_at counts 0 n)) + length (cell_floats walled.0.inner) ≤ length s
    inner_fits = floats_fit inner to (length s) (subst (λ l. Within l to (length s)) (sym inner_counts) W.place.floats)

    inner_is : inner_at s' counts' n ≡ walled.0.inner
    inner_is = ap (λ x. cell_at s' x (counts_at counts' n n)) same_place ∙ ap (cell_at s' to) back_counts ∙ ap (λ l. cell_at l to (cell_counts inner)) walled.2 ∙ cell_stored s to inner inner_fits

    pub wall_ends : (a a' : List ℕ) (r : Ended) → Handed (fitted (length a) (Ok (hollow_answer (hollow_at s' counts' n)))) a a' r →
        Handed (fitted (length a) (wall_call t limit (cell_at s 0 (counts_at counts 0 n)) (cell_at m 0 (counts_at sizes 0 n)) (cell_at src 0 (counts_at sizes 0 n)))) a a' r
    unfolding wall_call
    wall_ends a a' r h =
        let k : hollow_at s' counts' n ≡ walled.0 = λ i. record { outer = outer_is i; inner = inner_is i } in
        let z : wall_call t limit out moved made ≡ Ok (hollow_answer (hollow_at s' counts' n)) = go (hollow_in t limit out moved made) answer_of walled.0 walled.1 ∙ ap (λ x. Ok (hollow_answer x)) (sym k) in
        subst (λ o. Handed (fitted (length a) o) a a' r) (sym z) h
