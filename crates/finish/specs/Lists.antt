-- Laws of lists of cells and of solids in slices: where the next one stands, and what was stored is read back.
use Rattle.std.specs.Prelude.{◌≡◌, refl, ℕ, suc, ◌+◌, ◌*◌, ◌≤◌, ◌<◌, take, drop, get_or, Float}
use Rattle.std.proofs.Common.{sym, ap₂, ◌∙◌, subst, arith, length-append, take_at, drop_at}
use Rattle.std.proofs.Math.Path.{ap}
use mathlib.Core.List.{List, [], ◌∷◌, ◌++◌, append_assoc, append-nil, map}
use Rattle.std.proofs.Math.ListN.{length}
use Rattle.std.proofs.lemmas.List.{length-map, get_or_at}
use Rattle.std.proofs.lemmas.List.Edits.{sets, sets-eq}
use Rattle.space.specs.declared.Point3.{Point3}
use Rattle.space.specs.Shapes.{Cell, Solid, corners, all_corners}
use Rattle.polygon.specs.Memory.{floats_of, points_at}
use Rattle.polygon.specs.Members.{All}
use Rattle.room.specs.Rooms.{cell_floats, cell_counts, cell_at, counts_at, Within}
use Rattle.room.specs.Laws.{points_stored, length_floats_of, length_cell_floats, length_cell_counts, cell_back, within_stored, corners_cons, corners_none}
use Rattle.sums.specs.Sum.{sum}
use Rattle.stack.specs.Stacks.{cells_floats, cells_counts, cells_sizes, Sound, Lies}
use Rattle.stack.specs.Laws.{all_corners_from, wide_corners, length_cells_sizes, all_corners_cons}
use Rattle.indexed.specs.Stored.{flat}
use Rattle.solids.specs.Frames.{faces_at}
use Rattle.solid_check.specs.Check.{solid_at}
use Rattle.finish.specs.Finish.{total, solids_floats, solids_places, solids_counts, solids_sizes, solids_marks, solids_at, Lain}

-- ---- totals

pub total_cell : (c : Cell) → total (cell_counts c) ≡ corners 0 c
unfolding sum cell_counts
total_cell [] = sym corners_none
total_cell (f ∷ c) = ap (λ x. length f.points + x) (total_cell c) ∙ sym (corners_cons f c)

pub total_flat : (fs : List (List ℕ)) → total (map length fs) ≡ length (flat fs)
unfolding sum flat
total_flat [] = refl
total_flat (f ∷ fs) = ap (λ x. length f + x) (total_flat fs) ∙ sym (length-append f (flat fs))

-- ---- two lists of cells, one behind the other

pub floats_both : (a b : List Cell) → cells_floats (a ++ b) ≡ cells_floats a ++ cells_floats b
unfolding cells_floats
floats_both [] b = refl
floats_both (c ∷ a) b = ap (λ l. cell_floats c ++ l) (floats_both a b) ∙ sym (append_assoc (cell_floats c) (cells_floats a) (cells_floats b))

pub counts_both : (a b : List Cell) → cells_counts (a ++ b) ≡ cells_counts a ++ cells_counts b
unfolding cells_counts
counts_both [] b = refl
counts_both (c ∷ a) b = ap (λ l. cell_counts c ++ l) (counts_both a b) ∙ sym (append_assoc (cell_counts c) (cells_counts a) (cells_counts b))

pub sizes_both : (a b : List Cell) → cells_sizes (a ++ b) ≡ cells_sizes a ++ cells_sizes b
unfolding cells_sizes
sizes_both [] b = refl
sizes_both (c ∷ a) b = ap (λ l. length c ∷ l) (sizes_both a b)

pub corners_both : (a b : List Cell) → all_corners 0 (a ++ b) ≡ all_corners 0 a + all_corners 0 b
unfolding all_corners
corners_both [] b = omega arith
corners_both (c ∷ a) b = omega (arith, corners_both a b, all_corners_from (0 + corners 0 c) (a ++ b), all_corners_from (0 + corners 0 c) a)

pub one_floats : (c : Cell) (b : List Cell) → cells_floats (c ∷ b) ≡ cell_floats c ++ cells_floats b
unfolding cells_floats
one_floats c b = refl

pub one_counts : (c : Cell) (b : List Cell) → cells_counts (c ∷ b) ≡ cell_counts c ++ cells_counts b
unfolding cells_counts
one_counts c b = refl

sound_at : (a : List Cell) (c : Cell) (b : List Cell) → All Sound (a ++ (c ∷ b)) → Sound c
unfolding All
sound_at [] c b s = s.0
sound_at (x ∷ a) c b s = sound_at a c b s.1

-- ---- the cell at hand: c stands behind those of a, and those of b behind it

module _ (room : ℕ) (a : List Cell) (c : Cell) (b : List Cell) (d : List Float) (n z : List ℕ) (L : Lies room (a ++ (c ∷ b)) d n z) where
  all_floats : d ≡ cells_floats a ++ (cell_floats c ++ (cells_floats b ++ L.floats.tail))
  unfolding cells_floats
  all_floats =
      L.floats.is ∙ ap (λ l. l ++ L.floats.tail) (floats_both a (c ∷ b))
      ∙ append_assoc (cells_floats a) (cell_floats c ++ cells_floats b) L.floats.tail ∙ ap (λ l. cells_floats a ++ l) (append_assoc (cell_floats c) (cells_floats b) L.floats.tail)

  all_counts : n ≡ cells_counts a ++ (cell_counts c ++ (cells_counts b ++ L.counts.tail))
  unfolding cells_counts
  all_counts =
      L.counts.is ∙ ap (λ l. l ++ L.counts.tail) (counts_both a (c ∷ b))
      ∙ append_assoc (cells_counts a) (cell_counts c ++ cells_counts b) L.counts.tail ∙ ap (λ l. cells_counts a ++ l) (append_assoc (cell_counts c) (cells_counts b) L.counts.tail)

  all_sizes : z ≡ cells_sizes a ++ (length c ∷ (cells_sizes b ++ L.sizes.tail))
  unfolding cells_sizes
  all_sizes = L.sizes.is ∙ ap (λ l. l ++ L.sizes.tail) (sizes_both a (c ∷ b)) ∙ append_assoc (cells_sizes a) (length c ∷ cells_sizes b) L.sizes.tail

  pub here_size : (i : ℕ) → length a ≡ i → get_or z i 0 ≡ length c
  here_size i e = ap (λ l. get_or l i 0) all_sizes ∙ get_or_at (cells_sizes a) (length c) (cells_sizes b ++ L.sizes.tail) 0 i (length_cells_sizes a ∙ e)

  pub here_seat : (i : ℕ) → length a ≡ i → i < length z
  here_seat i e = omega (arith, e, ap length all_sizes, length-append (cells_sizes a) (length c ∷ (cells_sizes b ++ L.sizes.tail)), length_cells_sizes a)

  module _ (f : ℕ) (e : length (cells_counts a) ≡ f) where
    pub here_listed : f + length c ≤ length n
    here_listed =
        omega (arith, e, ap length all_counts, length-append (cells_counts a) (cell_counts c ++ (cells_counts b ++ L.counts.tail)), length-append (cell_counts c) (cells_counts b ++ L.counts.tail), length_cell_counts c)

    pub here_counts : counts_at n f (length c) ≡ cell_counts c
    here_counts =
        ap (λ l. counts_at l f (length c)) all_counts
        ∙ ap (take (length c)) (drop_at (cells_counts a) (cell_counts c ++ (cells_counts b ++ L.counts.tail)) f e)
        ∙ take_at (cell_counts c) (cells_counts b ++ L.counts.tail) (length c) (length_cell_counts c)

    module _ (o : ℕ) (g : length (cells_floats a) ≡ o) where
      pub here_cell : cell_at d o (counts_at n f (length c)) ≡ c
      here_cell = ap (cell_at d o) here_counts ∙ ap (λ l. cell_at l o (cell_counts c)) all_floats ∙ cell_back (cells_floats a) c (cells_floats b ++ L.floats.tail) o (sym g)

      pub here_room : o + (13 * length c + 3 * corners 0 c) ≤ length d
      here_room =
          omega (
            arith,
            g,
            ap length all_floats,
            length-append (cells_floats a) (cell_floats c ++ (cells_floats b ++ L.floats.tail)),
            length-append (cell_floats c) (cells_floats b ++ L.floats.tail),
            length_cell_floats c,
          )

      pub here_within : Within (counts_at n f (length c)) o (length d)
      here_within =
          subst (λ l. Within l o (length d)) (sym here_counts) (within_stored c o (length d) (sound_at a c b L.sound).small (omega (arith, here_room, length_cell_floats c)))

  pub here_corners : all_corners 0 a + corners 0 c ≤ room
  here_corners = omega (arith, L.fit, corners_both a (c ∷ b), all_corners_cons c b)

  pub here_wide : 3 * length c ≤ corners 0 c
  here_wide = wide_corners c (sound_at a c b L.sound).wide

pub none : (length (cells_floats []) ≡ 0) × (length (cells_counts []) ≡ 0) × (all_corners 0 [] ≡ 0)
unfolding cells_floats cells_counts all_corners
none = (refl, refl, refl)

-- ---- two lists of solids, one behind the other

pub points_both : (a b : List Solid) → solids_floats (a ++ b) ≡ solids_floats a ++ solids_floats b
unfolding solids_floats
points_both [] b = refl
points_both (s ∷ a) b = ap (λ l. floats_of s.points ++ l) (points_both a b) ∙ sym (append_assoc (floats_of s.points) (solids_floats a) (solids_floats b))

pub places_both : (a b : List Solid) → solids_places (a ++ b) ≡ solids_places a ++ solids_places b
unfolding solids_places
places_both [] b = refl
places_both (s ∷ a) b = ap (λ l. flat s.faces ++ l) (places_both a b) ∙ sym (append_assoc (flat s.faces) (solids_places a) (solids_places b))

pub faces_both : (a b : List Solid) → solids_counts (a ++ b) ≡ solids_counts a ++ solids_counts b
unfolding solids_counts
faces_both [] b = refl
faces_both (s ∷ a) b = ap (λ l. map length s.faces ++ l) (faces_both a b) ∙ sym (append_assoc (map length s.faces) (solids_counts a) (solids_counts b))

pub numbers_both : (a b : List Solid) → solids_sizes (a ++ b) ≡ solids_sizes a ++ solids_sizes b
unfolding solids_sizes
numbers_both [] b = refl
numbers_both (s ∷ a) b = ap (λ l. length s.faces ∷ l) (numbers_both a b)

pub marks_both : (a b : List Solid) → solids_marks (a ++ b) ≡ solids_marks a ++ solids_marks b
unfolding solids_marks
marks_both [] b = refl
marks_both (s ∷ a) b = ap (λ l. length s.points ∷ l) (marks_both a b)

pub length_numbers : (ss : List Solid) → length (solids_sizes ss) ≡ length ss
unfolding solids_sizes
length_numbers [] = refl
length_numbers (s ∷ ss) = ap suc (length_numbers ss)

pub length_marks : (ss : List Solid) → length (solids_marks ss) ≡ length ss
unfolding solids_marks
length_marks [] = refl
length_marks (s ∷ ss) = ap suc (length_marks ss)

-- ---- one solid more

module _ (ss : List Solid) (s : Solid) where
  pub points_more : solids_floats (ss ++ (s ∷ [])) ≡ solids_floats ss ++ floats_of s.points
  unfolding solids_floats
  points_more = points_both ss (s ∷ []) ∙ ap (λ l. solids_floats ss ++ l) (append-nil (floats_of s.points))

  pub places_more : solids_places (ss ++ (s ∷ [])) ≡ solids_places ss ++ flat s.faces
  unfolding solids_places
  places_more = places_both ss (s ∷ []) ∙ ap (λ l. solids_places ss ++ l) (append-nil (flat s.faces))

  pub faces_more : solids_counts (ss ++ (s ∷ [])) ≡ solids_counts ss ++ map length s.faces
  unfolding solids_counts
  faces_more = faces_both ss (s ∷ []) ∙ ap (λ l. solids_counts ss ++ l) (append-nil (map length s.faces))

  pub numbers_more : solids_sizes (ss ++ (s ∷ [])) ≡ solids_sizes ss ++ (length s.faces ∷ [])
  unfolding solids_sizes
  numbers_more = numbers_both ss (s ∷ [])

  pub marks_more : solids_marks (ss ++ (s ∷ [])) ≡ solids_marks ss ++ (length s.points ∷ [])
  unfolding solids_marks
  marks_more = marks_both ss (s ∷ [])

-- ---- what was stored is read back

points_front : (l : List Point3) (p : List Float) → points_at (floats_of l ++ p) 0 (length l) ≡ l
points_front l p =
    let h : 0 + length (floats_of l) ≤ length (floats_of l ++ p) = omega (arith, length-append (floats_of l) p) in
    let e : sets (floats_of l ++ p) 0 (floats_of l) ≡ floats_of l ++ p =
    sets-eq (floats_of l) (floats_of l ++ p) 0 h ∙ ap (λ r. floats_of l ++ r) (drop_at (floats_of l) p (0 + length (floats_of l)) (omega arith)) in
    ap (λ r. points_at r 0 (length l)) (sym e) ∙ points_stored (floats_of l ++ p) l (omega (arith, length-append (floats_of l) p, length_floats_of l))

faces_back : (a : List ℕ) (fs : List (List ℕ)) (b : List ℕ) (k : ℕ) → length a ≡ k → faces_at (a ++ (flat fs ++ b)) k (map length fs) ≡ fs
unfolding faces_at flat
faces_back a [] b k e = refl
faces_back a (f ∷ fs) b k e =
    let x : a ++ ((f ++ flat fs) ++ b) ≡ a ++ (f ++ (flat fs ++ b)) = ap (λ l. a ++ l) (append_assoc f (flat fs) b) in
    let y : a ++ (f ++ (flat fs ++ b)) ≡ (a ++ f) ++ (flat fs ++ b) = sym (append_assoc a f (flat fs ++ b)) in
    let one : counts_at (a ++ ((f ++ flat fs) ++ b)) k (length f) ≡ f =
    ap (λ l. counts_at l k (length f)) x ∙ ap (take (length f)) (drop_at a (f ++ (flat fs ++ b)) k e) ∙ take_at f (flat fs ++ b) (length f) refl in
    let more : faces_at (a ++ ((f ++ flat fs) ++ b)) (k + length f) (map length fs) ≡ fs =
    ap (λ l. faces_at l (k + length f) (map length fs)) (x ∙ y) ∙ faces_back (a ++ f) fs b (k + length f) (length-append a f ∙ ap (λ n. n + length f) e) in
    ap₂ (λ g gs. g ∷ gs) one more

pub solid_back : (s : Solid) (p : List Float) (i c : List ℕ) →
    solid_at (floats_of s.points ++ p) (length s.points) (flat s.faces ++ i) (map length s.faces ++ c) (length s.faces) ≡ s
solid_back s p i c =
    let n : counts_at (map length s.faces ++ c) 0 (length s.faces) ≡ map length s.faces = take_at (map length s.faces) c (length s.faces) (length-map s.faces length) in
    let a : points_at (floats_of s.points ++ p) 0 (length s.points) ≡ s.points = points_front s.points p in
    let b : faces_at (flat s.faces ++ i) 0 (counts_at (map length s.faces ++ c) 0 (length s.faces)) ≡ s.faces =
    ap (faces_at (flat s.faces ++ i) 0) n ∙ faces_back [] s.faces i 0 refl in
    λ k. record { points = a k; faces = b k }

solids_from : (ss : List Solid) (P : List Float) (I C : List ℕ) (p : List Float) (i c : List ℕ) → P ≡ solids_floats ss ++ p → I ≡ solids_places ss ++ i → C ≡ solids_counts ss ++ c →
    solids_at P I C (solids_marks ss) (solids_sizes ss) ≡ ss
unfolding solids_at solids_floats solids_places solids_counts solids_marks solids_sizes
solids_from [] P I C p i c e_p e_i e_c = refl
solids_from (s ∷ ss) P I C p i c e_p e_i e_c =
    let x : P ≡ floats_of s.points ++ (solids_floats ss ++ p) = e_p ∙ append_assoc (floats_of s.points) (solids_floats ss) p in
    let y : I ≡ flat s.faces ++ (solids_places ss ++ i) = e_i ∙ append_assoc (flat s.faces) (solids_places ss) i in
    let z : C ≡ map length s.faces ++ (solids_counts ss ++ c) = e_c ∙ append_assoc (map length s.faces) (solids_counts ss) c in
    let m = length s.points in
    let n = length s.faces in
    let k = length-map s.faces length in
    let one : solid_at P (length s.points) I C (length s.faces) ≡ s =
    ap (λ l. solid_at l (length s.points) I C (length s.faces)) x
    ∙ ap (λ l. solid_at (floats_of s.points ++ (solids_floats ss ++ p)) (length s.points) l C (length s.faces)) y
    ∙ ap (λ l. solid_at (floats_of s.points ++ (solids_floats ss ++ p)) (length s.points) (flat s.faces ++ (solids_places ss ++ i)) l (length s.faces)) z
    ∙ solid_back s (solids_floats ss ++ p) (solids_places ss ++ i) (solids_counts ss ++ c) in
    let t : take (length s.faces) C ≡ map length s.faces = ap (take (length s.faces)) z ∙ take_at (map length s.faces) (solids_counts ss ++ c) (length s.faces) k in
    let d_p : drop (3 * length s.points) P ≡ solids_floats ss ++ p =
    ap (drop (3 * length s.points)) x ∙ drop_at (floats_of s.points) (solids_floats ss ++ p) (3 * length s.points) (length_floats_of s.points) in
    let d_i : drop (total (take (length s.faces) C)) I ≡ solids_places ss ++ i =
    ap (λ l. drop (total l) I) t ∙ ap (λ l. drop (total (map length s.faces)) l) y
    ∙ drop_at (flat s.faces) (solids_places ss ++ i) (total (map length s.faces)) (sym (total_flat s.faces)) in
    let d_c : drop (length s.faces) C ≡ solids_counts ss ++ c = ap (drop (length s.faces)) z ∙ drop_at (map length s.faces) (solids_counts ss ++ c) (length s.faces) k in
    ap₂ (λ g gs. g ∷ gs) one (solids_from ss _ _ _ p i c d_p d_i d_c)

-- the solids that stand at the front of the slices
pub solids_stored : (room k : ℕ) (ss : List Solid) (p : List Float) (i c z m : List ℕ) → Lain room k ss p i c z m → solids_at p i c (take k m) (take k z) ≡ ss
solids_stored room k ss p i c z m L =
    let a : take k m ≡ solids_marks ss = ap (take k) L.marks.is ∙ take_at (solids_marks ss) L.marks.tail k (length_marks ss ∙ sym L.many) in
    let b : take k z ≡ solids_sizes ss = ap (take k) L.sizes.is ∙ take_at (solids_sizes ss) L.sizes.tail k (length_numbers ss ∙ sym L.many) in
    ap₂ (solids_at p i c) a b ∙ solids_from ss p i c _ _ _ L.points.is L.places.is L.counts.is

-- ---- the solid at hand: s stands behind those of a, and those of b behind it

module _ (room k : ℕ) (a : List Solid) (s : Solid) (b : List Solid) (p : List Float) (i c z m : List ℕ) (L : Lain room k (a ++ (s ∷ b)) p i c z m) where
  all_points : p ≡ solids_floats a ++ (floats_of s.points ++ (solids_floats b ++ L.points.tail))
  unfolding solids_floats
  all_points =
      L.points.is ∙ ap (λ l. l ++ L.points.tail) (points_both a (s ∷ b))
      ∙ append_assoc (solids_floats a) (floats_of s.points ++ solids_floats b) L.points.tail ∙ ap (λ l. solids_floats a ++ l) (append_assoc (floats_of s.points) (solids_floats b) L.points.tail)

  all_places : i ≡ solids_places a ++ (flat s.faces ++ (solids_places b ++ L.places.tail))
  unfolding solids_places
  all_places =
      L.places.is ∙ ap (λ l. l ++ L.places.tail) (places_both a (s ∷ b))
      ∙ append_assoc (solids_places a) (flat s.faces ++ solids_places b) L.places.tail ∙ ap (λ l. solids_places a ++ l) (append_assoc (flat s.faces) (solids_places b) L.places.tail)

  all_faces : c ≡ solids_counts a ++ (map length s.faces ++ (solids_counts b ++ L.counts.tail))
  unfolding solids_counts
  all_faces =
      L.counts.is ∙ ap (λ l. l ++ L.counts.tail) (faces_both a (s ∷ b))
      ∙ append_assoc (solids_counts a) (map length s.faces ++ solids_counts b) L.counts.tail ∙ ap (λ l. solids_counts a ++ l) (append_assoc (map length s.faces) (solids_counts b) L.counts.tail)

  all_numbers : z ≡ solids_sizes a ++ (length s.faces ∷ (solids_sizes b ++ L.sizes.tail))
  unfolding solids_sizes
  all_numbers = L.sizes.is ∙ ap (λ l. l ++ L.sizes.tail) (numbers_both a (s ∷ b)) ∙ append_assoc (solids_sizes a) (length s.faces ∷ solids_sizes b) L.sizes.tail

  all_marks : m ≡ solids_marks a ++ (length s.points ∷ (solids_marks b ++ L.marks.tail))
  unfolding solids_marks
  all_marks = L.marks.is ∙ ap (λ l. l ++ L.marks.tail) (marks_both a (s ∷ b)) ∙ append_assoc (solids_marks a) (length s.points ∷ solids_marks b) L.marks.tail

  -- how many faces and points it has
  module _ (j : ℕ) (e : length a ≡ j) where
    pub this_size : (get_or z j 0 ≡ length s.faces) × (j < length z)
    this_size = (
      ap (λ l. get_or l j 0) all_numbers ∙ get_or_at (solids_sizes a) (length s.faces) (solids_sizes b ++ L.sizes.tail) 0 j (length_numbers a ∙ e),
      omega (arith, e, ap length all_numbers, length-append (solids_sizes a) (length s.faces ∷ (solids_sizes b ++ L.sizes.tail)), length_numbers a),
    )

    pub this_mark : (get_or m j 0 ≡ length s.points) × (j < length m)
    this_mark = (
      ap (λ l. get_or l j 0) all_marks ∙ get_or_at (solids_marks a) (length s.points) (solids_marks b ++ L.marks.tail) 0 j (length_marks a ∙ e),
      omega (arith, e, ap length all_marks, length-append (solids_marks a) (length s.points ∷ (solids_marks b ++ L.marks.tail)), length_marks a),
    )

  -- what stands from its own place on
  pub this_points : (x : ℕ) → length (solids_floats a) ≡ x → drop x p ≡ floats_of s.points ++ (solids_floats b ++ L.points.tail)
  this_points x e = ap (drop x) all_points ∙ drop_at (solids_floats a) (floats_of s.points ++ (solids_floats b ++ L.points.tail)) x e

  pub this_places : (x : ℕ) → length (solids_places a) ≡ x → drop x i ≡ flat s.faces ++ (solids_places b ++ L.places.tail)
  this_places x e = ap (drop x) all_places ∙ drop_at (solids_places a) (flat s.faces ++ (solids_places b ++ L.places.tail)) x e

  pub this_counts : (x : ℕ) → length (solids_counts a) ≡ x → drop x c ≡ map length s.faces ++ (solids_counts b ++ L.counts.tail)
  this_counts x e = ap (drop x) all_faces ∙ drop_at (solids_counts a) (map length s.faces ++ (solids_counts b ++ L.counts.tail)) x e
