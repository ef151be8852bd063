-- Laws of the building of a solid, in the words of the code.
use Rattle.std.specs.Prelude.{◌≡◌, refl, List, map, ℕ, ◌*◌, ◌≤◌, length, replicate, Float, Ok, Err}
use Rattle.std.proofs.Common.{sym, ◌∙◌, arith}
use Rattle.std.proofs.Math.Path.{ap, subst}
use Rattle.std.proofs.Math.Bool.{false}
use Rattle.std.proofs.lemmas.List.{length-replicate}
use Rattle.std.proofs.lemmas.List.Edits.{sets}
use Rattle.std.proofs.Math.Seq.{length-sets}
use Rattle.refusal.specs.declared.Refusal.{Refusal}
use Rattle.refusal.specs.Outcome.{Outcome, then, heard, verdict_of}
use Rattle.refusal.specs.Laws.{stop, go, then_ok}
use Rattle.space.specs.declared.Precision.{Precision}
use Rattle.space.specs.Shapes.{Cell, Solid, corners}
use Rattle.polygon.specs.Memory.{floats_of, points_at}
use Rattle.room.specs.Rooms.{cell_at, counts_at}
use Rattle.indexed.specs.Indexed.{indexed}
use Rattle.indexed.specs.Stored.{flat, Stored, Fits}
use Rattle.indexed.proofs.Laws.{counted_made, counted_refused, stored_points, stored_places}
use Rattle.offset.specs.Indexes.{placing_fits, stored_made, stored_not, indexed_few, indexed_points, indexed_faces}
use Rattle.solids.specs.Frames.{faces_at, Placing}
use Rattle.solid_check.specs.Check.{solid_at, check}
use Rattle.solid_check.proofs.Laws.{lengths_are}
use Rattle.built.specs.Built.{built}

-- ---- an outcome by its verdict

fine_ok : {A : Type 0} (o : Outcome A) → (Ok tt) ≡ verdict_of o → (a : A) × (o ≡ Ok a)
unfolding verdict_of
fine_ok (Ok a) e = (a, refl)
fine_ok (Err r) e = absurd (let z : ◌≡◌ {A = ℕ} 0 1 = cc in omega arith)

not_ok : {A : Type 0} (o : Outcome A) (x : Refusal) → Err x ≡ verdict_of o → o ≡ Err x
unfolding verdict_of
not_ok (Ok a) x e = absurd (let z : ◌≡◌ {A = ℕ} 0 1 = cc in omega arith)
not_ok (Err r) x e = let b : r ≡ x = cc in ap Err b

-- ---- the building of the cell that lies in s, whose points and places go to two slices

module _ (t : Precision) (s : List Float) (at : ℕ) (counts : List ℕ) (n : ℕ) (p₀ : List Float) (i₀ : List ℕ) (F : Fits s counts at 0 n p₀ i₀) (p : List Float) (i : List ℕ) (r : Outcome ℕ)
    (I : Stored (indexed t (cell_at s at (counts_at counts 0 n))) p₀ i₀ p i r) where
  abbrev cell : Cell
  cell = cell_at s at (counts_at counts 0 n)

  pub built_not : (x : Refusal) → r ≡ Err x → Stored (built t (cell_at s at (counts_at counts 0 n))) p₀ i₀ p i r
  unfolding built Stored
  built_not x e =
      let z : built t cell ≡ Err x = stop (indexed t cell) _ x (stored_not (indexed t cell) p₀ i₀ p i r x I e) in
      subst (λ o. Stored o p₀ i₀ p i r) (sym z) (e, stored_points (indexed t cell) p₀ i₀ p i r I, stored_places (indexed t cell) p₀ i₀ p i r I)

  pub built_faces : n ≤ length counts
  built_faces = omega (arith, F.faces)

  pub built_many : length i ≡ length i₀
  built_many = stored_places (indexed t cell) p₀ i₀ p i r I

  -- the places are those of the faces
  pub built_placing : Placing (counts_at counts 0 n) 0 (length i)
  built_placing = subst (Placing (counts_at counts 0 n) 0) (sym (stored_places (indexed t cell) p₀ i₀ p i r I)) (placing_fits s at (counts_at counts 0 n) (length i₀) F.places)

  module _ (m : ℕ) (e : r ≡ Ok m) where
    pub built_few : 3 * m ≤ length p
    built_few =
        let g = stored_made (indexed t cell) p₀ i₀ p i r m I e in
        omega (arith, indexed_few t cell g.0 g.1, g.2, F.points, stored_points (indexed t cell) p₀ i₀ p i r I)

    -- the slices hold the indexed solid
    indexed_is : (g : (s : Solid) × (indexed t cell ≡ Ok s) × (m ≡ length s.points) × (p ≡ sets p₀ 0 (floats_of s.points)) × (i ≡ sets i₀ 0 (flat s.faces))) → solid_at p m i counts n ≡ g.0
    indexed_is g =
        let a : points_at p 0 m ≡ g.0.points = ap (λ l. points_at l 0 m) g.3 ∙ indexed_points p₀ g.0.points m (corners 0 cell) g.2 (indexed_few t cell g.0 g.1) F.points in
        let b : faces_at i 0 (counts_at counts 0 n) ≡ g.0.faces = ap (λ l. faces_at l 0 (counts_at counts 0 n)) g.4 ∙ indexed_faces t s at (counts_at counts 0 n) g.0 i₀ g.1 F.places in
        λ k. record { points = a k; faces = b k }

    pub built_judged : (v : Outcome Unit) (q : Outcome ℕ) → v ≡ verdict_of (check false t (solid_at p m i counts n)) → q ≡ heard v m → Stored (built t (cell_at s at (counts_at counts 0 n))) p₀ i₀ p i q
    unfolding built Stored heard
    built_judged (Ok tt) q h w =
        let g = stored_made (indexed t cell) p₀ i₀ p i r m I e in
        let f = fine_ok (check false t g.0) (h ∙ ap (λ x. verdict_of (check false t x)) (indexed_is g)) in
        let z : built t cell ≡ Ok g.0 = go (indexed t cell) _ g.0 g.1 ∙ go (check false t g.0) _ f.0 f.1 in
        subst (λ o. Stored o p₀ i₀ p i q) (sym z) (counted_made q m w ∙ ap Ok g.2, g.3, g.4)
    built_judged (Err x) q h w =
        let g = stored_made (indexed t cell) p₀ i₀ p i r m I e in
        let f = not_ok (check false t g.0) x (h ∙ ap (λ x. verdict_of (check false t x)) (indexed_is g)) in
        let z : built t cell ≡ Err x = go (indexed t cell) _ g.0 g.1 ∙ stop (check false t g.0) _ x f in
        subst (λ o. Stored o p₀ i₀ p i q) (sym z) (counted_refused q x w, stored_points (indexed t cell) p₀ i₀ p i r I, stored_places (indexed t cell) p₀ i₀ p i r I)

-- ---- the faces of a built solid are those of its cell

pub built_indexed : (t : Precision) (c : Cell) (s : Solid) → built t c ≡ Ok s → indexed t c ≡ Ok s
unfolding built
built_indexed t c s e =
    let a = then_ok (indexed t c) (λ s. then (check false t s) (λ _. Ok s)) s e in
    let b = then_ok (check false t a.0) (λ _. Ok a.0) s a.2 in
    a.1 ∙ b.2

lengths_by : (t : Precision) (s : List Float) (at : ℕ) (ns : List ℕ) (b : Solid) (i : List ℕ) → indexed t (cell_at s at ns) ≡ Ok b → corners 0 (cell_at s at ns) ≤ length i → map length b.faces ≡ ns
lengths_by t s at ns b i g k =
    let m : corners 0 (cell_at s at ns) ≤ length (sets i 0 (flat b.faces)) = omega (arith, k, length-sets i 0 (flat b.faces)) in
    ap (map length) (sym (indexed_faces t s at ns b i g k)) ∙ lengths_are (sets i 0 (flat b.faces)) 0 ns (placing_fits s at ns (length (sets i 0 (flat b.faces))) m)

-- its numbers of corners, and no more points than corners
pub built_lengths : (t : Precision) (s : List Float) (at : ℕ) (ns : List ℕ) (b : Solid) → built t (cell_at s at ns) ≡ Ok b → (map length b.faces ≡ ns) × (length b.points ≤ corners 0 (cell_at s at ns))
built_lengths t s at ns b e =
    let n = corners 0 (cell_at s at ns) in
    let g = built_indexed t (cell_at s at ns) b e in
    (lengths_by t s at ns b (replicate n 0) g (omega (arith, length-replicate {A = ℕ} n 0)), indexed_few t (cell_at s at ns) b g)
