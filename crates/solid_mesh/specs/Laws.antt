-- What the mesh's call hands back, in the words of the code.
use Rattle.std.specs.Prelude.{◌≡◌, Bool, true, false, not, List, [], ◌∷◌, ◌++◌, ℕ, ◌+◌, ◌-◌, ◌*◌, ◌/◌, ◌≤◌, ◌<◌, take, get_or, Float, Ok, Err}
use Rattle.std.proofs.Math.Path.{refl, ap, subst}
use Rattle.std.proofs.Common.{sym, ◌∙◌, append_assoc, append-nil, arith, length-append, length-take, drop_of_length-le, take_at, length-take-le, lt-ltb, ltb-false}
use Rattle.std.proofs.Math.ListN.{length}
use Rattle.std.proofs.lemmas.List.Edits.{sets, sets-eq}
use Rattle.std.proofs.Math.Seq.{length-sets}
use Rattle.std.specs.Result.{IfOk}
use Rattle.refusal.specs.declared.Refusal.{Refusal}
use Rattle.refusal.specs.Outcome.{Outcome, refusal_of, then, unless}
use Rattle.lists.specs.Laws.{next, done}
use Rattle.space.specs.declared.Point3.{Point3}
use Rattle.space.specs.declared.Precision.{Precision}
use Rattle.space.specs.Shapes.{Face}
use Rattle.polygon.specs.Memory.{floats_of, points_at}
use Rattle.room.specs.Laws.{points_stored, length_floats_of}
use Rattle.words.specs.Little.{digits}
use Rattle.job.specs.declared.FacetLayout.{FacetLayout}
use Rattle.job.specs.Read.{facet_layout, facet_at, read_facet}
use Rattle.pack.specs.Flat.{flat, coordinates, points_from}
use Rattle.pack.specs.Laws.{length_from}
use Rattle.writer.specs.Rows.{row, Rowing, rowing_start, rowing_turn, rowing_end, length_row}
use Rattle.answer.specs.Laws.{then_sets, length_count}
use Rattle.ended.specs.Ends.{told_of, written}
use Rattle.ears.specs.declared.Triangle.{Triangle}
use Rattle.mesh.specs.declared.Triples.{Triples}
use Rattle.mesh.specs.Mesh.{mesh_of, mesh_on, fair_facet, facet, triples, meshed, blank}
use Rattle.mesh.specs.Theorems.{facet_mesh}
use Rattle.solid_mesh.specs.Mesh.{triangle_answer, mesh_answer, face_of, Drawn, is_small, mesh_bytes, mesh_facet, mesh_call, triangles_in}

-- ---- triangles

pub length_triangle : (w : Triangle) → length (triangle_answer w) ≡ 12
unfolding triangle_answer
length_triangle w =
    omega (arith, length-append (digits 4 w.a) (digits 4 w.b ++ digits 4 w.c), length-append (digits 4 w.b) (digits 4 w.c), length_count w.a, length_count w.b, length_count w.c)

pub triangle_stored : (out a b c : List ℕ) (at : ℕ) (w : Triangle) → a ≡ sets out at (digits 4 w.a) → b ≡ sets a (at + 4) (digits 4 w.b) → c ≡ sets b (at + 8) (digits 4 w.c) → c ≡ sets out at (triangle_answer w)
unfolding triangle_answer
triangle_stored out a b c at w x y z =
    let i : at + 4 ≡ at + length (digits 4 w.a) = omega (arith, length_count w.a) in
    let j : at + 8 ≡ at + length (digits 4 w.a ++ digits 4 w.b) = omega (arith, length-append (digits 4 w.a) (digits 4 w.b), length_count w.a, length_count w.b) in
    then_sets out b c at (at + 8) (digits 4 w.a ++ digits 4 w.b) (digits 4 w.c) (then_sets out a b at (at + 4) (digits 4 w.a) (digits 4 w.b) x y i) z j
    ∙ ap (sets out at) (append_assoc (digits 4 w.a) (digits 4 w.b) (digits 4 w.c))

-- the triangles so far, and the rest
pub record Drawing (t : Triples) (out₀ out : List ℕ) (i : ℕ) : Type 0 where
  pub within : i ≤ t.n
  pub rowing : Rowing triangle_answer 12 (triangles_in t) out₀ 0 out i

pub drawing_start : (t : Triples) (out : List ℕ) → Drawing t out out 0
drawing_start t out = record { within = omega arith; rowing = rowing_start triangle_answer 12 (triangles_in t) out 0 }

pub drawing_turn : (t : Triples) (out₀ out out' : List ℕ) (i : ℕ) → Drawing t out₀ out i → i < t.n → t.n ≤ length t.at → out' ≡ sets out (12 * i) (triangle_answer (get_or t.at i blank)) → Drawing t out₀ out' (i + 1)
drawing_turn t out₀ out out' i v h m e =
    let w = get_or t.at i blank in
    record {
      within = omega arith;
      rowing = rowing_turn triangle_answer 12 (triangles_in t) out₀ 0 out i w out' v.rowing (next t.at t.n i blank h m) (length_triangle w) (e ∙ ap (λ k. sets out k (triangle_answer w)) (omega arith));
    }

pub drawing_end : (t : Triples) (out₀ out : List ℕ) (i : ℕ) → Drawing t out₀ out i → t.n ≤ i → out ≡ sets out₀ 0 (row triangle_answer (triangles_in t))
drawing_end t out₀ out i v h = rowing_end triangle_answer 12 (triangles_in t) out₀ 0 out i v.rowing (done t.at t.n i h)

pub length_triples : (t : Triples) → t.n ≤ length t.at → length (row triangle_answer (triangles_in t)) ≡ 12 * t.n
length_triples t h = omega (arith, length_row triangle_answer 12 length_triangle (triangles_in t), length-take t.n t.at)

-- ---- what is handed back

-- the outcome that the code's answer tells
unfoldable pub drawing : Outcome Triples → Outcome (List ℕ)
drawing m = then m (λ t. Ok (row triangle_answer (triangles_in t)))

-- there are at most 126 triangles, and room for them
abbrev pub Few : Outcome Triples → ℕ → Type 0
Few (Ok t) size = (t.n ≤ 126) × (12 * t.n ≤ size)
Few (Err r) size = Unit {0}

pub drawn_not : (o : Outcome (List ℕ)) (r : ℕ) (e : Refusal) (s : List ℕ) → o ≡ Err e → r ≡ e.number → Drawn o r s s
unfolding told_of written
drawn_not o r e s p q = rw p (record { number = q; bytes = refl })

pub refused_drawn : (m : Outcome Triples) (e : Refusal) (r : ℕ) (s : List ℕ) → m ≡ Err e → r ≡ e.number → Drawn (drawing m) r s s
unfolding drawing
refused_drawn m e r s p q = drawn_not (drawing m) r e s (ap drawing p) q

pub fine_drawn : (m : Outcome Triples) (t : Triples) (n r : ℕ) (s s' : List ℕ) → m ≡ Ok t → n ≡ length (row triangle_answer (triangles_in t)) → s' ≡ sets s 0 (row triangle_answer (triangles_in t)) → r ≡ 256 * n → Drawn (drawing m) r s s'
unfolding drawing told_of written
fine_drawn m t n r s s' p k e q = rw p (record { number = q ∙ ap (λ x. 256 * x) k; bytes = e })

-- ---- the corners out of the bytes

flat_floats : (l : List Point3) → flat l ≡ floats_of l
unfolding flat coordinates
flat_floats [] = refl
flat_floats (p ∷ l) = ap (λ r. p.x ∷ p.y ∷ p.z ∷ r) (flat_floats l)

corners_taken : (s : List Float) (ps : List Point3) (n : ℕ) → length ps ≡ n → 3 * n ≤ length s → take (3 * n) (sets s 0 (flat ps)) ≡ floats_of ps
corners_taken s ps n e h =
    let k : length (floats_of ps) ≡ 3 * n = omega (arith, length_floats_of ps, e) in
    ap (λ x. take (3 * n) (sets s 0 x)) (flat_floats ps) ∙ ap (take (3 * n)) (sets-eq (floats_of ps) s 0 (omega (arith, k))) ∙ take_at (floats_of ps) _ (3 * n) k

pub corners_lent : (s s₀ : List Float) (l : List ℕ) (at n : ℕ) → s ≡ sets s₀ 0 (flat (points_from l at n)) → n ≤ 128 → length s₀ ≡ 384 → length (take (3 * n) s) ≡ 3 * n
corners_lent s s₀ l at n e h k =
    let m : length s ≡ length s₀ = ap length e ∙ length-sets s₀ 0 (flat (points_from l at n)) in
    length-take-le (3 * n) s (omega (arith, m))

-- the facet that lies in the slice is the one that the bytes mean
facet_same : (l : List ℕ) (y : FacetLayout) (s : List Float) → 3 * y.points ≤ length s → facet y.plane (take (3 * y.points) (sets s 0 (flat (points_from l y.start y.points)))) ≡ face_of (facet_at l y)
unfolding facet_at points_from
facet_same l y s h =
    let n = y.points in
    let ps = points_from l y.start n in
    let e : length ps ≡ n = length_from l y.start n in
    let k : length (floats_of ps) / 3 ≡ length ps = omega (arith, length_floats_of ps) in
    ap (facet y.plane) (corners_taken s ps n e h)
    ∙ ap (λ m. record { plane = y.plane; points = points_at (floats_of ps) 0 m }) k
    ∙ ap (λ q. record { plane = y.plane; points = q }) (alone ps)
  where
    alone : (ps : List Point3) → points_at (floats_of ps) 0 (length ps) ≡ ps
    alone ps =
        let n : 0 + length (floats_of ps) ≡ length (floats_of ps) = omega arith in
        let h : length (floats_of ps) ≤ 0 + length (floats_of ps) = omega arith in
        let e : sets (floats_of ps) 0 (floats_of ps) ≡ floats_of ps = sets-eq (floats_of ps) (floats_of ps) 0 (omega arith) ∙ ap (λ r. floats_of ps ++ r) (drop_of_length-le (floats_of ps) h) ∙ append-nil (floats_of ps) in
        ap (λ x. points_at x 0 (length ps)) (sym e) ∙ points_stored (floats_of ps) ps (omega (arith, length_floats_of ps))

-- ---- one facet

triples_are : (l : List Triangle) → triangles_in (triples l) ≡ l
triples_are l = take_at l _ _ refl

few_by : (p : Precision) (f : Face) (o : Outcome (List Triangle)) → mesh_of p f ≡ o → IfOk (meshed o) (λ t. t.n ≤ length f.points - 2)
unfolding meshed
few_by p f (Ok l) e = let m = facet_mesh p f l e in omega (arith, m.many, m.mesh.most)
few_by p f (Err r) e = tt

few_fit : (m : Outcome Triples) (n size : ℕ) → IfOk m (λ t. t.n ≤ n - 2) → n ≤ 128 → 64 * n ≤ size → Few m size
few_fit (Ok t) n size h few room = (omega (arith, h), omega (arith, h))
few_fit (Err r) n size h few room = tt

-- the code's answer tells the outcome of the mesh
drawing_is : (o : Outcome (List Triangle)) → drawing (meshed o) ≡ then o (λ ts. Ok (mesh_answer ts))
unfolding drawing meshed
drawing_is (Ok l) = ap (λ x. Ok (row triangle_answer x)) (triples_are l)
drawing_is (Err r) = refl

module _ (l : List ℕ) (y : FacetLayout) (s s' : List Float) (fit : 3 * y.points ≤ length s) (u : s' ≡ sets s 0 (flat (points_from l y.start y.points))) (m : Outcome Triples)
    (e : m ≡ meshed (mesh_of y.precision (facet y.plane (take (3 * y.points) s')))) where
  meshed_same : m ≡ meshed (mesh_of y.precision (face_of (facet_at l y)))
  meshed_same = e ∙ ap (λ x. meshed (mesh_of y.precision (facet y.plane (take (3 * y.points) x)))) u ∙ ap (λ f. meshed (mesh_of y.precision f)) (facet_same l y s fit)

  pub few_triangles : IfOk m (λ t. t.n ≤ y.points - 2)
  unfolding facet_at points_from
  few_triangles =
      let n : length (face_of (facet_at l y)).points ≡ y.points = length_from l y.start y.points in
      subst (λ k. IfOk m (λ t. t.n ≤ k - 2)) n
      (subst (λ x. IfOk x (λ t. t.n ≤ length (face_of (facet_at l y)).points - 2)) (sym meshed_same) (few_by y.precision (face_of (facet_at l y)) (mesh_of y.precision (face_of (facet_at l y))) refl))

  -- they fit the answer
  pub few_answered : (size : ℕ) → y.points ≤ 128 → 64 * y.points ≤ size → Few m size
  few_answered size = few_fit m y.points size few_triangles

  pub facet_drawn : (r : ℕ) (a b : List ℕ) → Drawn (drawing m) r a b → Drawn (mesh_bytes (facet_at l y)) r a b
  unfolding mesh_bytes facet_at
  facet_drawn r a b d = subst (λ o. Drawn o r a b) (ap drawing meshed_same ∙ drawing_is (mesh_of y.precision (face_of (facet_at l y)))) d

-- ---- the whole call

pub not_small : (b : Bool) (size n : ℕ) → b ≡ is_small size n → b ≡ false → 64 * n ≤ size
not_small b size n h t = let k = ltb-false (size / 64) n (sym h ∙ t) in omega (arith, k)

module _ (size : ℕ) (l : List ℕ) (laid : Outcome FacetLayout) (e : laid ≡ facet_layout l) where
  call_is : mesh_call size l ≡ then (laid) (λ y. mesh_facet size (facet_at l y))
  unfolding mesh_call read_facet
  call_is = by (facet_layout l) ∙ ap (λ o. then o (λ y. mesh_facet size (facet_at l y))) (sym e)
    where
      by : (o : Outcome FacetLayout) → then (then o (λ y. Ok (facet_at l y))) (mesh_facet size) ≡ then o (λ y. mesh_facet size (facet_at l y))
      by (Ok y) = refl
      by (Err r) = refl

  pub not_read : (r : Refusal) (n : ℕ) (s : List ℕ) → laid ≡ Err r → n ≡ r.number → Drawn (mesh_call size l) n s s
  not_read r n s p q = drawn_not (mesh_call size l) n r s (call_is ∙ ap (λ k. then (k) (λ y. mesh_facet size (facet_at l y))) p) q

  module _ (y : FacetLayout) (made : laid ≡ Ok y) where
    call_on : mesh_call size l ≡ mesh_facet size (facet_at l y)
    call_on = call_is ∙ ap (λ k. then (k) (λ z. mesh_facet size (facet_at l z))) made

    many : length (facet_at l y).points ≡ y.points
    unfolding facet_at points_from
    many = length_from l y.start y.points

    pub small : (b : Bool) (s : List ℕ) → b ≡ is_small size y.points → b ≡ true → Drawn (mesh_call size l) 12 s s
    unfolding mesh_facet
    small b s h t = drawn_not (mesh_call size l) 12 (refusal_of 12) s (call_on ∙ ap (λ n. unless (is_small size n) 12 (mesh_bytes (facet_at l y))) many ∙ ap (λ c. unless c 12 (mesh_bytes (facet_at l y))) (sym h ∙ t)) refl

    pub roomy : (b : Bool) (r : ℕ) (s s' : List ℕ) → b ≡ is_small size y.points → b ≡ false → Drawn (mesh_bytes (facet_at l y)) r s s' → Drawn (mesh_call size l) r s s'
    unfolding mesh_facet
    roomy b r s s' h t d = subst (λ o. Drawn o r s s') (sym (call_on ∙ ap (λ n. unless (is_small size n) 12 (mesh_bytes (facet_at l y))) many ∙ ap (λ c. unless c 12 (mesh_bytes (facet_at l y))) (sym h ∙ t))) d

    -- 12 above 128 corners is the mesh's own
    pub many_corners : (b : Bool) (s : List ℕ) → b ≡ is_small size y.points → b ≡ false → 128 < y.points → Drawn (mesh_call size l) 12 s s
    unfolding mesh_bytes mesh_of facet_at
    many_corners b s h t k = roomy b 12 s s h t (drawn_not _ 12 (refusal_of 12) s (ap (λ c. then (unless c 12 (unless (not (fair_facet y.precision (face_of (facet_at l y)))) 2 (mesh_on y.precision (face_of (facet_at l y))))) (λ ts. Ok (mesh_answer ts))) (lt-ltb 128 (length (facet_at l y).points) (omega (arith, many)))) refl)
