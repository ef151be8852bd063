-- Numbers in three slices are a list of cells wherever they have the sizes of one.
use Rattle.std.specs.Prelude.{◌≡◌, refl, true, ◌&&◌, List, [], ◌∷◌, ◌++◌, ℕ, suc, ◌+◌, ◌*◌, ◌≤◌, take, drop, set, get_or, leb, Float, Ok}
use Rattle.std.proofs.Common.{sym, ◌∙◌, arith, add-one, length-append, length-drop, take-append-drop, take-add, length-take-le, leb-true}
use Rattle.std.proofs.Math.Path.{ap, ap₂}
use Rattle.std.proofs.Math.Numerals.{add-two}
use Rattle.std.proofs.Math.ListN.{length}
use Rattle.std.proofs.lemmas.List.Edits.{sets, sets-eq}
use Rattle.std.proofs.lemmas.List.{set-get_or}
use Rattle.std.specs.Float.{nan}
use Rattle.refusal.specs.Tests.{and_true}
use Rattle.space.specs.Shapes.{Cell, corners, all_corners}
use Rattle.polygon.specs.Memory.{floats, floats_of, point_at, points_at}
use Rattle.polygon.specs.Members.{All}
use Rattle.polygon.specs.MemoryLaws.{length_points_at}
use Rattle.room.specs.Rooms.{frame_floats, frame_at, plane_floats, plane_at, face_floats, face_at, cell_floats, cell_counts, cell_at, Small}
use Rattle.room.specs.Laws.{sets_append, sets_frame, sets_plane, length_floats_of, corners_cons, corners_none, cell_counts_lem, length_cell_at}
use Rattle.clip.specs.Clips.{Wide}
use Rattle.indexed.proofs.Laws.{points_kept}
use Rattle.stack.specs.Stacks.{cells_floats, cells_counts, cells_sizes, behind, cells_at, stack_of, Front, Sound, Lies}
use Rattle.stack.specs.Laws.{all_corners_from, length_cells_floats, length_cells_sizes, behind_cell}
use Rattle.list_lent.specs.Lent.{among, all_among, total}

-- ---- the counts

cells_counts_lem : (d : List Float) (at : ℕ) (n ms : List ℕ) → cells_counts (cells_at d at n ms) ≡ take (total ms) n
unfolding cells_at cells_counts total
cells_counts_lem d at n [] = refl
cells_counts_lem d at n (m ∷ ms) = ap₂ (λ a b. a ++ b) (cell_counts_lem d at (take m n)) (cells_counts_lem d (behind at (take m n)) (drop m n) ms) ∙ sym (take-add m (total ms) n)

cells_sizes_lem : (d : List Float) (at : ℕ) (n ms : List ℕ) → total ms ≤ length n → cells_sizes (cells_at d at n ms) ≡ ms
unfolding cells_at cells_sizes total
cells_sizes_lem d at n [] h = refl
cells_sizes_lem d at n (m ∷ ms) h =
    ap₂ (λ x l. x ∷ l) (length_cell_at d at (take m n) ∙ length-take-le m n (omega arith)) (cells_sizes_lem d (behind at (take m n)) (drop m n) ms (omega (arith, length-drop m n)))

-- ---- the corners

total_both : (a b : List ℕ) → total (a ++ b) ≡ total a + total b
unfolding total
total_both [] b = omega arith
total_both (x ∷ a) b = omega (arith, total_both a b)

cell_corners : (c : Cell) → corners 0 c ≡ total (cell_counts c)
unfolding cell_counts total
cell_corners [] = corners_none
cell_corners (f ∷ c) = omega (arith, corners_cons f c, cell_corners c)

cells_corners : (cs : List Cell) → all_corners 0 cs ≡ total (cells_counts cs)
unfolding all_corners cells_counts total
cells_corners [] = refl
cells_corners (c ∷ cs) = omega (arith, all_corners_from (0 + corners 0 c) cs, cells_corners cs, cell_corners c, total_both (cell_counts c) (cells_counts cs))

-- ---- what is read and stored again leaves a slice as it was

point_kept : (s : List Float) (i : ℕ) → sets s i (floats (point_at s i)) ≡ s
point_kept s i = rw (add-one, add-two, set-get_or s i nan, set-get_or s (suc i) nan) (set-get_or s (suc (suc i)) nan)

frame_kept : (s : List Float) (at : ℕ) → sets s at (frame_floats (frame_at s at)) ≡ s
frame_kept s at =
    sym (sets_frame s at (point_at s at) (point_at s (at + 3)) (point_at s (at + 6)) (point_at s (at + 9)))
    ∙ ap (λ l. sets (sets (sets l (at + 3) (floats (point_at s (at + 3)))) (at + 6) (floats (point_at s (at + 6)))) (at + 9) (floats (point_at s (at + 9)))) (point_kept s at)
    ∙ ap (λ l. sets (sets l (at + 6) (floats (point_at s (at + 6)))) (at + 9) (floats (point_at s (at + 9)))) (point_kept s (at + 3))
    ∙ ap (λ l. sets l (at + 9) (floats (point_at s (at + 9)))) (point_kept s (at + 6))
    ∙ point_kept s (at + 9)

plane_kept : (s : List Float) (at : ℕ) → sets s at (plane_floats (plane_at s at)) ≡ s
plane_kept s at =
    sym (sets_plane s at (plane_at s at)) ∙ ap (λ l. set l (at + 12) (get_or s (at + 12) nan)) (frame_kept s at) ∙ set-get_or s (at + 12) nan

face_kept : (s : List Float) (at n : ℕ) → sets s at (face_floats (face_at s at n)) ≡ s
face_kept s at n =
    sym (sets_append s at (plane_floats (plane_at s at)) (floats_of (points_at s (at + 13) n)))
    ∙ ap (λ l. sets l (at + 13) (floats_of (points_at s (at + 13) n))) (plane_kept s at)
    ∙ points_kept s (at + 13) n

cell_kept : (s : List Float) (at : ℕ) (ns : List ℕ) → sets s at (cell_floats (cell_at s at ns)) ≡ s
unfolding cell_at cell_floats
cell_kept s at [] = refl
cell_kept s at (n ∷ ns) =
    let e : at + length (face_floats (face_at s at n)) ≡ at + 13 + 3 * n = omega (arith, length-append (plane_floats (plane_at s at)) (floats_of (points_at s (at + 13) n)), length_floats_of (points_at s (at + 13) n), length_points_at s (at + 13) n) in
    sym (sets_append s at (face_floats (face_at s at n)) (cell_floats (cell_at s (at + 13 + 3 * n) ns)))
    ∙ ap₂ (λ l k. sets l k (cell_floats (cell_at s (at + 13 + 3 * n) ns))) (face_kept s at n) e
    ∙ cell_kept s (at + 13 + 3 * n) ns

cells_kept : (s : List Float) (at : ℕ) (n ms : List ℕ) → sets s at (cells_floats (cells_at s at n ms)) ≡ s
unfolding cells_at cells_floats
cells_kept s at n [] = refl
cells_kept s at n (m ∷ ms) =
    let c = cell_at s at (take m n) in
    let e : at + length (cell_floats c) ≡ behind at (take m n) = sym (ap (behind at) (sym (cell_counts_lem s at (take m n))) ∙ behind_cell c at) in
    sym (sets_append s at (cell_floats c) (cells_floats (cells_at s (behind at (take m n)) (drop m n) ms)))
    ∙ ap₂ (λ l k. sets l k (cells_floats (cells_at s (behind at (take m n)) (drop m n) ms))) (cell_kept s at (take m n)) e
    ∙ cells_kept s (behind at (take m n)) (drop m n) ms

-- ---- the cells

both_among : (low high : ℕ) (a b : List ℕ) → all_among low high (a ++ b) ≡ true → (all_among low high a ≡ true) × (all_among low high b ≡ true)
unfolding all_among
both_among low high [] b e = (refl, e)
both_among low high (x ∷ a) b e =
    let h = both_among low high a b (and_true (among low high x) (all_among low high (a ++ b)) e).1 in
    (ap₂ (λ p q. p && q) (and_true (among low high x) (all_among low high (a ++ b)) e).0 h.0, h.1)

cell_bounds : (d : List Float) (at : ℕ) (ns : List ℕ) → all_among 3 128 ns ≡ true → Wide (cell_at d at ns) × Small (cell_at d at ns)
unfolding cell_at All all_among among
cell_bounds d at [] e = (tt, tt)
cell_bounds d at (n ∷ ns) e =
    let h = (and_true (leb 3 n && leb n 128) (all_among 3 128 ns) e).0 in
    let g = cell_bounds d (at + 13 + 3 * n) ns (and_true (leb 3 n && leb n 128) (all_among 3 128 ns) e).1 in
    let l = length_points_at d (at + 13) n in
    ((omega (arith, l, leb-true 3 n (and_true (leb 3 n) (leb n 128) h).0), g.0), (omega (arith, l, leb-true n 128 (and_true (leb 3 n) (leb n 128) h).1), g.1))

cells_sound : (d : List Float) (at : ℕ) (n ms : List ℕ) → total ms ≤ length n → all_among 1 128 ms ≡ true → all_among 3 128 (take (total ms) n) ≡ true → All Sound (cells_at d at n ms)
unfolding cells_at All total all_among among
cells_sound d at n [] h e g = tt
cells_sound d at n (m ∷ ms) h e g =
    let u = both_among 3 128 (take m n) (take (total ms) (drop m n)) (ap (all_among 3 128) (sym (take-add m (total ms) n)) ∙ g) in
    let b = cell_bounds d at (take m n) u.0 in
    let p = (and_true (leb 1 m && leb m 128) (all_among 1 128 ms) e).0 in (
      record { some = omega (arith, length_cell_at d at (take m n), length-take-le m n (omega arith), leb-true 1 m (and_true (leb 1 m) (leb m 128) p).0); wide = b.0; small = b.1 },
      cells_sound d (behind at (take m n)) (drop m n) ms (omega (arith, length-drop m n)) (and_true (leb 1 m && leb m 128) (all_among 1 128 ms) e).1 u.1,
    )

-- ---- the list

front_taken : {A : Type 0} (k : ℕ) (l s : List A) → l ≡ take k s → Front l s
front_taken k l s e = record { tail = drop k s; is = sym (take-append-drop k s) ∙ ap (λ x. x ++ drop k s) (sym e) }

front_kept : {A : Type 0} (l s : List A) → sets s 0 l ≡ s → length l ≤ length s → Front l s
front_kept l s e h = record { tail = drop (0 + length l) s; is = sym e ∙ sets-eq l s 0 (omega arith) }

module _ (d : List Float) (n z : List ℕ) (k f c : ℕ) (many : k ≤ length z) (within : f ≤ length n) where
  abbrev cs : List Cell
  cs = cells_at d 0 n (take k z)

  module _ (faces : total (take k z) ≡ f) (sum : total (take f n) ≡ c) where
    counted : cells_counts cs ≡ take f n
    counted = cells_counts_lem d 0 n (take k z) ∙ ap (λ j. take j n) faces

    sized : cells_sizes cs ≡ take k z
    sized = cells_sizes_lem d 0 n (take k z) (omega (arith, faces))

    cornered : all_corners 0 cs ≡ c
    cornered = cells_corners cs ∙ ap total counted ∙ sum

    listed : length cs ≡ k
    listed = sym (length_cells_sizes cs) ∙ ap length sized ∙ length-take-le k z many

    faced : length (cells_counts cs) ≡ f
    faced = ap length counted ∙ length-take-le f n within

    pub list_told : stack_of (Ok cs) ≡ record { verdict = Ok tt; cells = k; faces = f; corners = c }
    unfolding stack_of
    list_told = ap (λ x. record { verdict = Ok tt; cells = x; faces = length (cells_counts cs); corners = all_corners 0 cs }) listed ∙ ap₂ (λ x y. record { verdict = Ok tt; cells = k; faces = x; corners = y }) faced cornered

pub lying : (room : ℕ) (d : List Float) (n z : List ℕ) (k f c : ℕ) → k ≤ length z → f ≤ length n → all_among 1 128 (take k z) ≡ true → total (take k z) ≡ f → all_among 3 128 (take f n) ≡ true → total (take f n) ≡ c →
    c ≤ room → 13 * f + 3 * c ≤ length d → Lies room (cells_at d 0 n (take k z)) d n z
lying room d n z k f c many within sizes faces counts sum fit floats =
    let cs = cells_at d 0 n (take k z) in
    let a = cornered d n z k f c many within faces sum in
    let b = faced d n z k f c many within faces sum in
    record {
      floats = front_kept (cells_floats cs) d (cells_kept d 0 n (take k z)) (omega (arith, length_cells_floats cs, a, b));
      counts = front_taken f (cells_counts cs) n (counted d n z k f c many within faces sum);
      sizes = front_taken k (cells_sizes cs) z (sized d n z k f c many within faces sum);
      sound = cells_sound d 0 n (take k z) (omega (arith, faces)) sizes (ap (λ j. all_among 3 128 (take j n)) faces ∙ counts);
      fit = omega (arith, a);
    }
