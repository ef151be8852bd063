-- Laws of the call of an offset: its stages one after another, and the size of its answer.
use Rattle.std.specs.Prelude.{◌≡◌, false, List, ℕ, ◌+◌, ◌*◌, ◌≤◌, ◌<◌, length, Float, Ok, Err}
use Rattle.std.proofs.Math.Path.{refl, ap, subst}
use Rattle.std.proofs.Common.{sym, ◌∙◌, arith, lt-ltb, le-ltb}
use Rattle.std.proofs.lemmas.List.Edits.{sets}
use Rattle.std.proofs.Math.Seq.{length-sets}
use Rattle.refusal.specs.declared.Refusal.{Refusal}
use Rattle.refusal.specs.Outcome.{Outcome, refusal_of, then, unless}
use Rattle.refusal.specs.Laws.{stop, go, same_ok, then_ok}
use Rattle.space.specs.declared.Precision.{Precision}
use Rattle.space.specs.Shapes.{Cell, Solid, corners}
use Rattle.polygon.specs.Memory.{floats_of, points_at}
use Rattle.polygon.specs.MemoryLaws.{length_points_at}
use Rattle.room.specs.Rooms.{cell_at, counts_at}
use Rattle.room.specs.Laws.{cell_counts_lem}
use Rattle.indexed.specs.Indexed.{indexed}
use Rattle.indexed.specs.Stored.{flat, Stored, Fits}
use Rattle.indexed.proofs.Laws.{stored_points, stored_places, flat_corners}
use Rattle.solids.specs.Frames.{faces_at, Placing}
use Rattle.offset.specs.Offsets.{offset_cell}
use Rattle.offset.specs.Stored.{CellMoved, Ready}
use Rattle.offset.specs.Theorem.{offset_counts}
use Rattle.offset.specs.Indexes.{corners_same, placing_fits, stored_made, stored_not, indexed_few, indexed_counts, indexed_points, indexed_faces}
use Rattle.offset.specs.Whole.{cell_size, cell_not, cell_made, cell_is, cell_lies}
use Rattle.solid_check.specs.Check.{check}
use Rattle.built.specs.Built.{built, Bench}
use Rattle.writer.specs.Writing.{solid_in, Lent}
use Rattle.answer.specs.Answers.{solid_answer}
use Rattle.answer.specs.Laws.{faces_number, solid_size}
use Rattle.ended.specs.declared.Ended.{Ended}
use Rattle.ended.specs.Ends.{fitted, answered, stopped, Handed}
use Rattle.ended.specs.Laws.{handed_not, handed_full, handed_all}
use Rattle.offset_answer.specs.Calls.{offset_answer, built_answer, offset_call}

-- ---- the answer of a built solid

module _ (points : List Float) (m : ℕ) (places counts : List ℕ) (n k limit : ℕ) (lent : Lent places counts n) (all : k ≡ length (flat (faces_at places 0 (counts_at counts 0 n)))) where
  abbrev solid : Solid
  solid = solid_in points m places counts n

  pub size_is : length (solid_answer (solid_in points m places counts n)) ≡ 8 + 24 * m + 4 * n + 4 * k
  size_is = omega (arith, solid_size solid, length_points_at points 0 m, faces_number places counts n lent.few, all)

  pub put_over : (a : List ℕ) (x : Refusal) (r : Ended) → limit < k → x ≡ refusal_of 12 → r ≡ stopped x → Handed (fitted (length a) (offset_answer limit (solid_in points m places counts n))) a a r
  unfolding offset_answer
  put_over a x r h e g =
      let z : offset_answer limit solid ≡ Err x =
      ap (λ b. unless b 12 (Ok (solid_answer solid))) (lt-ltb limit (length (flat (faces_at places 0 (counts_at counts 0 n)))) (omega (arith, h, all))) ∙ ap Err (sym e) in
      handed_not (offset_answer limit solid) a a r x z g refl

  within : k ≤ limit → offset_answer limit (solid_in points m places counts n) ≡ Ok (solid_answer (solid_in points m places counts n))
  unfolding offset_answer
  within h = ap (λ b. unless b 12 (Ok (solid_answer solid))) (le-ltb limit (length (flat (faces_at places 0 (counts_at counts 0 n)))) (omega (arith, h, all)))

  pub put_full : (a : List ℕ) (x : Refusal) (r : Ended) → k ≤ limit → length a < 8 + 24 * m + 4 * n + 4 * k → x ≡ refusal_of 12 → r ≡ stopped x →
      Handed (fitted (length a) (offset_answer limit (solid_in points m places counts n))) a a r
  put_full a x r h f e g = handed_full (offset_answer limit solid) a a r (solid_answer solid) x (within h) (omega (arith, f, size_is)) e g refl

  pub put_fits : (a : List ℕ) → 8 + 24 * m + 4 * n + 4 * k ≤ length a → 0 + length (solid_answer (solid_in points m places counts n)) ≤ length a
  put_fits a f = omega (arith, f, size_is)

  pub put_all : (a a' : List ℕ) (e : ℕ) (r : Ended) → k ≤ limit → 8 + 24 * m + 4 * n + 4 * k ≤ length a → e ≡ 0 + length (solid_answer (solid_in points m places counts n)) → r ≡ answered e →
      a' ≡ sets a 0 (solid_answer (solid_in points m places counts n)) → Handed (fitted (length a) (offset_answer limit (solid_in points m places counts n))) a a' r
  put_all a a' e r h f g w y =
      let l : e ≡ length (solid_answer (solid_in points m places counts n)) = omega (arith, g) in
      handed_all (offset_answer limit solid) a a' r (solid_answer solid) (within h) (omega (arith, f, size_is)) (w ∙ ap answered l) y

-- ---- the cell is built

-- a built solid is the indexed one
pub built_indexed : (t : Precision) (c : Cell) (s : Solid) → built t c ≡ Ok s → (indexed t c ≡ Ok s) × ((b : Cell) × (check false t s ≡ Ok b))
unfolding built
built_indexed t c s e =
    let f = then_ok (indexed t c) (λ x. then (check false t x) (λ _. Ok x)) s e in
    let g = then_ok (check false t f.0) (λ _. Ok f.0) s f.2 in
    let h = same_ok g.2 in
    (f.1 ∙ ap Ok h, (g.0, ap (check false t) (sym h) ∙ g.1))

module _ (t : Precision) (limit : ℕ) (src : List Float) (counts : List ℕ) (n : ℕ) (p₀ : List Float) (i₀ : List ℕ) (fits : Fits src counts 0 0 n p₀ i₀) (p : List Float) (i : List ℕ) (f : Outcome ℕ)
    (S : Stored (built t (cell_at src 0 (counts_at counts 0 n))) p₀ i₀ p i f) where
  abbrev cell : Cell
  cell = cell_at src 0 (counts_at counts 0 n)

  pub built_stops : (a : List ℕ) (x : Refusal) (r : Ended) → f ≡ Err x → r ≡ stopped x → Handed (fitted (length a) (built_answer t limit (cell_at src 0 (counts_at counts 0 n)))) a a r
  unfolding built_answer
  built_stops a x r e g = handed_not (built_answer t limit cell) a a r x (stop (built t cell) (offset_answer limit) x (stored_not (built t cell) p₀ i₀ p i f x S e)) g refl

  module _ (m : ℕ) (e : f ≡ Ok m) where
    -- the solid that was built
    pub found : (s : Solid) × (built t (cell_at src 0 (counts_at counts 0 n)) ≡ Ok s) × (m ≡ length s.points) × (p ≡ sets p₀ 0 (floats_of s.points)) × (i ≡ sets i₀ 0 (flat s.faces))
    found = stored_made (built t cell) p₀ i₀ p i f m S e

    pub is_indexed : indexed t (cell_at src 0 (counts_at counts 0 n)) ≡ Ok found.0
    is_indexed = (built_indexed t cell found.0 found.1).0

    few : length found.0.points ≤ corners 0 (cell_at src 0 (counts_at counts 0 n))
    few = indexed_few t cell found.0 is_indexed

    pub built_few : 3 * m ≤ length p
    built_few = omega (arith, found.2, few, fits.points, stored_points (built t cell) p₀ i₀ p i f S)

    pub built_lent : Lent i counts n
    built_lent = record {
      few = omega (arith, fits.faces);
      placing = placing_fits src 0 (counts_at counts 0 n) (length i) (omega (arith, fits.places, stored_places (built t cell) p₀ i₀ p i f S));
    }

    -- the slices hold the solid
    pub built_solid : solid_in p m i counts n ≡ found.0
    built_solid =
        let a : points_at p 0 m ≡ found.0.points = ap (λ l. points_at l 0 m) found.3 ∙ indexed_points p₀ found.0.points m (corners 0 cell) found.2 few fits.points in
        let b : faces_at i 0 (counts_at counts 0 n) ≡ found.0.faces = ap (λ l. faces_at l 0 (counts_at counts 0 n)) found.4 ∙ indexed_faces t src 0 (counts_at counts 0 n) found.0 i₀ is_indexed fits.places in
        λ k. record { points = a k; faces = b k }

    pub built_corners : (k : ℕ) → k ≡ corners 0 (cell_at src 0 (counts_at counts 0 n)) → k ≡ length (flat (faces_at i 0 (counts_at counts 0 n)))
    built_corners k h = h ∙ sym (flat_corners found.0.faces cell (indexed_counts t cell found.0 is_indexed)) ∙ ap (λ s. length (flat s.faces)) (sym built_solid)

    pub built_held : (k : ℕ) → k ≡ corners 0 (cell_at src 0 (counts_at counts 0 n)) → k ≤ length i
    built_held k h = omega (arith, h, fits.places, stored_places (built t cell) p₀ i₀ p i f S)

    pub built_ends : (a a' : List ℕ) (r : Ended) → Handed (fitted (length a) (offset_answer limit (solid_in p m i counts n))) a a' r → Handed (fitted (length a) (built_answer t limit (cell_at src 0 (counts_at counts 0 n)))) a a' r
    unfolding built_answer
    built_ends a a' r h =
        let z : built_answer t limit cell ≡ offset_answer limit (solid_in p m i counts n) = go (built t cell) (offset_answer limit) found.0 found.1 ∙ ap (offset_answer limit) (sym built_solid) in
        subst (λ o. Handed (fitted (length a) o) a a' r) (sym z) h

-- ---- the offset before it

pub same_bench : {n : ℕ} {ends head next seen work nodes cuts : List ℕ} {p q : ℕ} → q ≡ p → Bench p n ends head next seen work nodes cuts → Bench q n ends head next seen work nodes cuts
same_bench {n} {ends} {head} {next} {seen} {work} {nodes} {cuts} e b = subst (λ k. Bench k n ends head next seen work nodes cuts) (sym e) b

module _ (t : Precision) (limit : ℕ) (d : Float) (s : List Float) (counts : List ℕ) (n : ℕ) {by points : List Float} {places : List ℕ} {moved dst : List Float} {sizes : List ℕ}
    (ready : Ready s 0 counts 0 n by points places moved dst 0 sizes 0) (dst' : List Float) (sizes' : List ℕ) (v : Outcome Unit)
    (M : CellMoved (offset_cell t d (cell_at s 0 (counts_at counts 0 n))) n dst 0 sizes 0 dst' sizes' v) where
  abbrev start : Cell
  start = cell_at s 0 (counts_at counts 0 n)

  pub offset_stops : (a : List ℕ) (x : Refusal) (r : Ended) → v ≡ Err x → r ≡ stopped x → Handed (fitted (length a) (offset_call t limit d (cell_at s 0 (counts_at counts 0 n)))) a a r
  unfolding offset_call
  offset_stops a x r e g = handed_not (offset_call t limit d start) a a r x (stop (offset_cell t d start) (built_answer t limit) x (cell_not n dst 0 sizes 0 dst' sizes' (offset_cell t d start) v x M e)) g refl

  module _ (e : v ≡ Ok tt) where
    pub made : (c : Cell) × (offset_cell t d (cell_at s 0 (counts_at counts 0 n)) ≡ Ok c) × CellMoved (Ok c) n dst 0 sizes 0 dst' sizes' v
    made = cell_made n dst 0 sizes 0 dst' sizes' (offset_cell t d start) v M e

    pub moved_is : cell_at dst' 0 (counts_at sizes' 0 n) ≡ made.0
    moved_is = cell_is n dst 0 sizes 0 dst' sizes' made.0 v made.2 ready.place.slots

    -- the moved cell has as many corners, so that it is built in the same slices
    pub moved_fits : (points' : List Float) (places' : List ℕ) → length points' ≡ length points → length places' ≡ length places → Fits dst' sizes' 0 0 n points' places'
    moved_fits points' places' p q =
        let lie = cell_lies n dst 0 sizes 0 dst' sizes' made.0 v made.2 ready.place.slots in
        let k : corners 0 (cell_at dst' 0 (counts_at sizes' 0 n)) ≡ corners 0 (cell_at s 0 (counts_at counts 0 n)) = ap (corners 0) moved_is ∙ corners_same made.0 start (offset_counts t d start made.0 made.1) in
        record { faces = lie.listed; floats = lie.within; points = omega (arith, k, p, ready.fits.points); places = omega (arith, k, q, ready.fits.places) }

    pub offset_ends : (a a' : List ℕ) (r : Ended) → Handed (fitted (length a) (built_answer t limit (cell_at dst' 0 (counts_at sizes' 0 n)))) a a' r → Handed (fitted (length a) (offset_call t limit d (cell_at s 0 (counts_at counts 0 n)))) a a' r
    unfolding offset_call
    offset_ends a a' r h =
        let z : offset_call t limit d start ≡ built_answer t limit (cell_at dst' 0 (counts_at sizes' 0 n)) = go (offset_cell t d start) (built_answer t limit) made.0 made.1 ∙ ap (built_answer t limit) (sym moved_is) in
        subst (λ o. Handed (fitted (length a) o) a a' r) (sym z) h
