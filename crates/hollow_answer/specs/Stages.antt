-- Laws of the stages of a hollow solid: the offset, the built cell, and the wall.
use Rattle.std.specs.Prelude.{◌≡◌, false, List, [], ◌∷◌, map, ℕ, ◌+◌, ◌*◌, ◌≤◌, Float, Ok, Err}
use Rattle.std.proofs.Math.Path.{refl, ap, subst}
use Rattle.std.proofs.Common.{sym, ap₂, ◌∙◌, arith}
use Rattle.std.proofs.Math.ListN.{length}
use Rattle.std.proofs.lemmas.List.Edits.{sets}
use Rattle.std.proofs.Math.Seq.{length-sets}
use Rattle.std.specs.Float.Ieee.{neg}
use Rattle.refusal.specs.declared.Refusal.{Refusal}
use Rattle.refusal.specs.Outcome.{Outcome, then}
use Rattle.refusal.specs.Laws.{stop, go, same_ok}
use Rattle.space.specs.declared.Precision.{Precision}
use Rattle.space.specs.Shapes.{Cell, corners}
use Rattle.polygon.specs.Memory.{points_at}
use Rattle.polygon.specs.Members.{All}
use Rattle.room.specs.Rooms.{cell_floats, cell_counts, cell_at, counts_at, Within, Small}
use Rattle.room.specs.Laws.{cell_stored, within_stored, length_cell_floats, length_cell_counts, cell_counts_lem}
use Rattle.indexed.specs.Stored.{Stored, Fits}
use Rattle.solids.specs.Frames.{faces_at}
use Rattle.solids.specs.Faces.{length_face}
use Rattle.bounds.specs.Bounds.{Lies}
use Rattle.offset.specs.Offsets.{offset_cell}
use Rattle.offset.specs.Stored.{CellMoved, Place, Ready}
use Rattle.offset.specs.Theorem.{offset_counts}
use Rattle.offset.specs.Indexes.{corners_same, stored_not, indexed_counts}
use Rattle.offset.specs.Whole.{cell_size, cell_not, counts_are}
use Rattle.hollow.specs.Stored.{behind, Walls}
use Rattle.solid_check.specs.Check.{check, cell_of, framed}
use Rattle.solid_check.proofs.Laws.{check_passed, check_counted, cell_framed}
use Rattle.built.specs.Built.{built, Bench}
use Rattle.ended.specs.declared.Ended.{Ended}
use Rattle.ended.specs.Ends.{fitted, stopped, Handed}
use Rattle.ended.specs.Laws.{handed_not}
use Rattle.writer.specs.Writing.{solid_in}
use Rattle.offset_answer.specs.Laws.{built_indexed, found, is_indexed, built_solid, same_bench, made, moved_is, moved_fits}
use Rattle.hollow_answer.specs.Calls.{built_cell, wall_call, shell_call, hollow_call, Yard}

-- the moved cell of n faces at the front of `src`, the outer one at the front of `s` with a place behind it, and what the building works in
pub record Cavity (src : List Float) (sizes : List ℕ) (n : ℕ) (s : List Float) (counts : List ℕ) (points : List Float) (places : List ℕ) (faces : List Float) (ends head next seen work nodes cuts : List ℕ) : Type 0 where
  pub fits : Fits src sizes 0 0 n points places
  pub bench : Bench (length places) n ends head next seen work nodes cuts
  pub floats : 13 * n + 3 * length places ≤ length faces
  pub outer : Lies s 0 counts 0 n
  pub place : Place sizes 0 n s (behind 0 n (cell_at s 0 (counts_at counts 0 n))) counts (0 + n)

-- ---- the moved cell is built

small_within : (c : Cell) (at m : ℕ) → Within (cell_counts c) at m → Small c
unfolding Within cell_counts All
small_within [] at m w = tt
small_within (f ∷ c) at m w = (w.0, small_within c (at + 13 + 3 * length f.points) m w.1)

module _ (t : Precision) (limit : ℕ) (out : Cell) (src : List Float) (sizes : List ℕ) (n : ℕ) (p₀ : List Float) (i₀ : List ℕ) (fits : Fits src sizes 0 0 n p₀ i₀) (p : List Float) (i : List ℕ) (f : Outcome ℕ)
    (S : Stored (built t (cell_at src 0 (counts_at sizes 0 n))) p₀ i₀ p i f) where
  abbrev cell : Cell
  cell = cell_at src 0 (counts_at sizes 0 n)

  pub shell_stops : (a : List ℕ) (x : Refusal) (r : Ended) → f ≡ Err x → r ≡ stopped x → Handed (fitted (length a) (shell_call t limit out (cell_at src 0 (counts_at sizes 0 n)))) a a r
  unfolding shell_call built_cell
  shell_stops a x r e g =
      handed_not (shell_call t limit out cell) a a r x (stop (built_cell t cell) (wall_call t limit out cell) x (stop (built t cell) (cell_of t) x (stored_not (built t cell) p₀ i₀ p i f x S e))) g refl

  module _ (m : ℕ) (e : f ≡ Ok m) (l l' : List Float) (room : 13 * n + 3 * length i₀ ≤ length l) (put : l' ≡ sets l 0 (cell_floats (framed t (points_at p 0 m) (faces_at i 0 (counts_at sizes 0 n))))) where
    abbrev frames : Cell
    frames = framed t (points_at p 0 m) (faces_at i 0 (counts_at sizes 0 n))

    -- what passed the check has a frame for each face
    is_cell : cell_of t (found t limit src sizes n p₀ i₀ fits p i f S m e).0 ≡ Ok (framed t (points_at p 0 m) (faces_at i 0 (counts_at sizes 0 n)))
    is_cell =
        let s = found t limit src sizes n p₀ i₀ fits p i f S m e in
        let b = (built_indexed t cell s.0 s.1).1 in
        cell_framed false t s.0 (check_passed false t s.0 b.0 b.1).0 ∙ ap (λ x. Ok (framed t x.points x.faces)) (sym (built_solid t limit src sizes n p₀ i₀ fits p i f S m e))

    frames_counts : cell_counts (framed t (points_at p 0 m) (faces_at i 0 (counts_at sizes 0 n))) ≡ counts_at sizes 0 n
    frames_counts =
        let s = found t limit src sizes n p₀ i₀ fits p i f S m e in
        let b = (built_indexed t cell s.0 s.1).1 in
        let q : b.0 ≡ frames = same_ok (sym (check_passed false t s.0 b.0 b.1).1 ∙ is_cell) in
        ap cell_counts (sym q) ∙ check_counted false t s.0 b.0 b.1 ∙ indexed_counts t cell s.0 (is_indexed t limit src sizes n p₀ i₀ fits p i f S m e) ∙ cell_counts_lem src 0 (counts_at sizes 0 n)

    inside : 0 + length (cell_floats (framed t (points_at p 0 m) (faces_at i 0 (counts_at sizes 0 n)))) ≤ length l
    inside =
        let k : corners 0 frames ≡ corners 0 cell = corners_same frames cell (frames_counts ∙ sym (cell_counts_lem src 0 (counts_at sizes 0 n))) in
        let h : length frames ≡ n = sym (length_cell_counts frames) ∙ ap length frames_counts ∙ length_face sizes 0 n fits.faces in
        omega (arith, length_cell_floats frames, k, h, fits.places, room)

    back : cell_at l' 0 (counts_at sizes 0 n) ≡ framed t (points_at p 0 m) (faces_at i 0 (counts_at sizes 0 n))
    back = ap (cell_at l' 0) (sym frames_counts) ∙ ap (λ x. cell_at x 0 (cell_counts frames)) put ∙ cell_stored l 0 frames inside

    pub shell_lies : Lies l' 0 sizes 0 n
    shell_lies =
        let w : Within (cell_counts frames) 0 (length src) = subst (λ x. Within x 0 (length src)) (sym frames_counts) fits.floats in
        let k : length l' ≡ length l = ap length put ∙ length-sets l 0 (cell_floats frames) in
        record { listed = fits.faces; within = subst (λ x. Within x 0 (length l')) frames_counts (within_stored frames 0 (length l') (small_within frames 0 (length src) w) (omega (arith, inside, k))) }

    pub shell_ends : (a a' : List ℕ) (r : Ended) → Handed (fitted (length a) (wall_call t limit out (cell_at src 0 (counts_at sizes 0 n)) (cell_at l' 0 (counts_at sizes 0 n)))) a a' r →
        Handed (fitted (length a) (shell_call t limit out (cell_at src 0 (counts_at sizes 0 n)))) a a' r
    unfolding shell_call built_cell
    shell_ends a a' r h =
        let s = found t limit src sizes n p₀ i₀ fits p i f S m e in
        let b : built_cell t cell ≡ Ok frames = go (built t cell) (cell_of t) s.0 s.1 ∙ is_cell in
        let z : shell_call t limit out cell ≡ wall_call t limit out cell (cell_at l' 0 (counts_at sizes 0 n)) = go (built_cell t cell) (wall_call t limit out cell) frames b ∙ ap (wall_call t limit out cell) (sym back) in
        subst (λ o. Handed (fitted (length a) o) a a' r) (sym z) h

-- what the wall asks, once the built cell stands in its slice
pub shell_walls : {src : List Float} {sizes : List ℕ} {n : ℕ} {s : List Float} {counts : List ℕ} {points : List Float} {places : List ℕ} {faces : List Float} {ends head next seen work nodes cuts : List ℕ} →
    Cavity src sizes n s counts points places faces ends head next seen work nodes cuts → (faces' : List Float) → Lies faces' 0 sizes 0 n → Walls src 0 sizes 0 n faces' 0 sizes 0 n s 0 counts 0 n
shell_walls C faces' l = record { outer = C.outer; moved = record { listed = C.fits.faces; within = C.fits.floats }; built = l; place = C.place }

-- ---- the offset before it

module _ (t : Precision) (limit : ℕ) (w : Float) {s : List Float} {counts : List ℕ} {n : ℕ} {by points : List Float} {places : List ℕ} {moved dst : List Float} {sizes ends head next seen work nodes cuts : List ℕ}
    (yard : Yard s counts n by points places moved dst sizes ends head next seen work nodes cuts) (dst' : List Float) (sizes' : List ℕ) (v : Outcome Unit)
    (M : CellMoved (offset_cell t (neg w) (cell_at s 0 (counts_at counts 0 n))) n dst 0 sizes 0 dst' sizes' v) where
  abbrev start : Cell
  start = cell_at s 0 (counts_at counts 0 n)

  pub hollow_stops : (a : List ℕ) (x : Refusal) (r : Ended) → v ≡ Err x → r ≡ stopped x → Handed (fitted (length a) (hollow_call t limit w (cell_at s 0 (counts_at counts 0 n)))) a a r
  unfolding hollow_call
  hollow_stops a x r e g =
      handed_not (hollow_call t limit w start) a a r x (stop (offset_cell t (neg w) start) (shell_call t limit start) x (cell_not n dst 0 sizes 0 dst' sizes' (offset_cell t (neg w) start) v x M e)) g refl

  module _ (e : v ≡ Ok tt) where
    inner : (c : Cell) × (offset_cell t (neg w) (cell_at s 0 (counts_at counts 0 n)) ≡ Ok c) × CellMoved (Ok c) n dst 0 sizes 0 dst' sizes' v
    inner = made t limit (neg w) s counts n yard.shop.ready dst' sizes' v M e

    -- the moved cell finds a place behind the outer one
    place : Place sizes' 0 n s (behind 0 n (cell_at s 0 (counts_at counts 0 n))) counts (0 + n)
    unfolding CellMoved
    place =
        let c = inner.0 in
        let k : corners 0 c ≡ corners 0 start = corners_same c start (offset_counts t (neg w) start c inner.1) in
        let l : length (cell_floats c) ≡ 13 * n + 3 * corners 0 start = length_cell_floats c ∙ omega (arith, k, inner.2.3) in
        record {
          floats = subst
              (λ x. Within x (behind 0 n start) (length s))
              (sym (counts_are n dst 0 sizes 0 dst' sizes' c v inner.2 yard.shop.ready.place.slots))
              (within_stored c (behind 0 n start) (length s) inner.2.5 (omega (arith, l, yard.twice)));
          slots = omega (arith, yard.slots);
        }

    pub hollow_cavity : (points' : List Float) (places' : List ℕ) (moved' : List Float) → length points' ≡ length points → length places' ≡ length places → length moved' ≡ length moved →
        Cavity dst' sizes' n s counts points' places' moved' ends head next seen work nodes cuts
    hollow_cavity points' places' moved' p q m = record {
      fits = moved_fits t limit (neg w) s counts n yard.shop.ready dst' sizes' v M e points' places' p q;
      bench = same_bench q yard.shop.bench;
      floats = omega (arith, q, m, yard.floats);
      outer = record { listed = yard.shop.ready.fits.faces; within = yard.shop.ready.fits.floats };
      place = place;
    }

    pub hollow_ends : (a a' : List ℕ) (r : Ended) → Handed (fitted (length a) (shell_call t limit (cell_at s 0 (counts_at counts 0 n)) (cell_at dst' 0 (counts_at sizes' 0 n)))) a a' r →
        Handed (fitted (length a) (hollow_call t limit w (cell_at s 0 (counts_at counts 0 n)))) a a' r
    unfolding hollow_call inner shell_call
    hollow_ends a a' r h =
        let z : hollow_call t limit w start ≡ shell_call t limit start (cell_at dst' 0 (counts_at sizes' 0 n)) =
        go (offset_cell t (neg w) start) (shell_call t limit start) inner.0 inner.1 ∙ ap (shell_call t limit start) (sym (moved_is t limit (neg w) s counts n yard.shop.ready dst' sizes' v M e)) in
        subst (λ o. Handed (fitted (length a) o) a a' r) (sym z) h
