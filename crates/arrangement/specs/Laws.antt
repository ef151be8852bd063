-- Laws of an arrangement in slices, in the words of the code.
use Rattle.std.proofs.Math.Path.{◌≡◌, sym, ap, subst}
use Rattle.std.specs.Prelude.{refl, List, [], ◌∷◌, ◌++◌, map, ℕ, zero, suc, ◌+◌, ◌*◌, ◌≤◌, ◌<◌, drop, replicate, Float, Ok, Err}
use Rattle.std.proofs.Common.{◌∙◌, append_assoc, append-nil, arith, add-one, length-append, take_at}
use Rattle.std.proofs.Math.ListN.{length, take, set, get_or, length-map, length-set}
use Rattle.std.proofs.lemmas.List.{length-replicate}
use Rattle.std.proofs.Math.Seq.{sets, length-take-le}
use Rattle.std.proofs.lemmas.List.Edits.{sets-eq}
use Rattle.refusal.specs.declared.Refusal.{Refusal}
use Rattle.refusal.specs.Outcome.{Outcome, then, heard}
use Rattle.refusal.specs.Laws.{stop, go, same_ok, never_ok}
use Rattle.lists.specs.Laws.{next, done}
use Rattle.space.specs.declared.Point3.{Point3}
use Rattle.space.specs.declared.Precision.{Precision}
use Rattle.space.specs.Shapes.{Face, Cell, Solid, corners, all_corners}
use Rattle.polygon.specs.Memory.{floats_of, points_at}
use Rattle.polygon.specs.Members.{All, all_append}
use Rattle.room.specs.Rooms.{face_floats, cell_floats, cell_counts, cell_at, counts_at, Within, Small}
use Rattle.room.specs.Laws.{corners_cons, corners_none, length_cell_counts, cell_back, within_stored, points_stored}
use Rattle.clip.specs.Clips.{Wide}
use Rattle.indexed.specs.Stored.{flat, Stored, Fits}
use Rattle.stack.specs.declared.Stack.{Stack}
use Rattle.stack.specs.Stacks.{cells_floats, cells_counts, cells_sizes, cells_at, stack_of, list_at, Sound, Lies, Listed, Holds}
use Rattle.stack.specs.Laws.{all_corners_from, length_cells_sizes, wide_corners}
use Rattle.merge.specs.Merge.{merge, owners_from}
use Rattle.merge.specs.Laws.{Owned}
use Rattle.solids.specs.Frames.{faces_at, Placing}
use Rattle.solids.specs.Faces.{placing_le}
use Rattle.inside.specs.Slices.{Roomy}
use Rattle.arrange.specs.Arrange.{conform_all, arrange}
use Rattle.arrange.specs.Facets as F
use Rattle.arrange.specs.Facets.{Arranged}
use Rattle.arrange.specs.Merged.{merged_cycles, merge_below}
use Rattle.groups.specs.Groups.{bounds}
use Rattle.arrangement.specs.declared.Layout.{Layout}
use Rattle.arrangement.specs.Arrangements.{faces_of, Arrangement, arrange_cells, starts_from, layout_of, layout_by, Shaped, laid_of, Laid, Facing, Stands, Work, Lent}
use Rattle.arrangement.specs.Conforming.{arranged, conform_many, merge_most, merge_corners}

-- ---- where runs begin

-- of n runs, i are done, which reach to `at`
pub record Starting (z : List ℕ) (n : ℕ) (s₀ s : List ℕ) (at i : ℕ) : Type 0 where
  pub upto : i ≤ n
  pub same : length s ≡ length s₀
  pub left : Placing (drop i (take n z)) at 4611686018427387904
  pub rest : sets s i (starts_from at (drop i (take n z))) ≡ sets s₀ 0 (starts_from 0 (take n z))

pub starting_start : (z : List ℕ) (n : ℕ) (s : List ℕ) → Placing (take n z) 0 4611686018427387904 → Starting z n s s 0 0
starting_start z n s p = record { upto = omega arith; same = refl; left = p; rest = refl }

module _ {z : List ℕ} {n : ℕ} {s₀ s : List ℕ} {at i : ℕ} (I : Starting z n s₀ s at i) where
  opened : i < n → n ≤ length z → Placing (drop (i + 1) (take n z)) (at + get_or z i 0) 4611686018427387904
  unfolding Placing
  opened h k = rw (next z n i 0 h k) at I.left

  pub starting_low : i < n → n ≤ length z → at + get_or z i 0 ≤ 4611686018427387904
  starting_low h k = placing_le _ _ _ (opened h k)

  pub starting_step : i < n → n ≤ length z → Starting z n s₀ (set s i at) (at + get_or z i 0) (i + 1)
  unfolding starts_from
  starting_step h k = record {
    upto = omega arith;
    same = length-set s i at ∙ I.same;
    left = opened h k;
    rest = ap (λ j. sets (set s i at) j (starts_from (at + get_or z i 0) (drop (i + 1) (take n z)))) (add-one i) ∙ ap (λ l. sets s i (starts_from at l)) (sym (next z n i 0 h k)) ∙ I.rest;
  }

  pub starting_end : n ≤ i → set s n at ≡ sets s₀ 0 (starts_from 0 (take n z))
  unfolding starts_from
  starting_end h =
      let e : n ≡ i = omega (arith, I.upto) in
      ap (λ j. set s j at) e ∙ ap (λ l. sets s i (starts_from at l)) (sym (done z n i h)) ∙ I.rest

starts_bounds : (a : ℕ) (gs : List (List ℕ)) → starts_from a (map length gs) ≡ bounds a gs
unfolding starts_from bounds
starts_bounds a [] = refl
starts_bounds a (g ∷ gs) = ap (λ l. a ∷ l) (starts_bounds (a + length g) gs)

placing_flat : (gs : List (List ℕ)) (at m : ℕ) → at + length (flat gs) ≤ m → Placing (map length gs) at m
unfolding Placing flat
placing_flat [] at m h = omega arith
placing_flat (g ∷ gs) at m h = placing_flat gs (at + length g) m (omega (arith, length-append g (flat gs)))

-- ---- the faces of a list of cells

floats_both : (a b : Cell) → cell_floats (a ++ b) ≡ cell_floats a ++ cell_floats b
unfolding cell_floats
floats_both [] b = refl
floats_both (f ∷ a) b = ap (λ l. face_floats f ++ l) (floats_both a b) ∙ sym (append_assoc (face_floats f) (cell_floats a) (cell_floats b))

counts_both : (a b : Cell) → cell_counts (a ++ b) ≡ cell_counts a ++ cell_counts b
unfolding cell_counts
counts_both [] b = refl
counts_both (f ∷ a) b = ap (λ l. length f.points ∷ l) (counts_both a b)

corners_both : (a b : Cell) → corners 0 (a ++ b) ≡ corners 0 a + corners 0 b
corners_both [] b = omega (arith, corners_none)
corners_both (f ∷ a) b = omega (arith, corners_both a b, corners_cons f a, corners_cons f (a ++ b))

faces_floats : (cs : List Cell) → cells_floats cs ≡ cell_floats (faces_of cs)
unfolding cells_floats faces_of cell_floats
faces_floats [] = refl
faces_floats (c ∷ cs) = ap (λ l. cell_floats c ++ l) (faces_floats cs) ∙ sym (floats_both c (faces_of cs))

faces_counts : (cs : List Cell) → cells_counts cs ≡ cell_counts (faces_of cs)
unfolding cells_counts faces_of cell_counts
faces_counts [] = refl
faces_counts (c ∷ cs) = ap (λ l. cell_counts c ++ l) (faces_counts cs) ∙ sym (counts_both c (faces_of cs))

faces_corners : (cs : List Cell) → all_corners 0 cs ≡ corners 0 (faces_of cs)
unfolding all_corners faces_of
faces_corners [] = sym corners_none
faces_corners (c ∷ cs) = omega (arith, all_corners_from (0 + corners 0 c) cs, faces_corners cs, corners_both c (faces_of cs))

faces_small : (cs : List Cell) → All Sound cs → Small (faces_of cs)
unfolding All faces_of
faces_small [] a = tt
faces_small (c ∷ cs) a = all_append (λ f. length f.points ≤ 128) c (faces_of cs) a.0.small (faces_small cs a.1)

pub faces_wide : (cs : List Cell) → All Sound cs → Wide (faces_of cs)
unfolding All faces_of
faces_wide [] a = tt
faces_wide (c ∷ cs) a = all_append (λ f. 3 ≤ length f.points) c (faces_of cs) a.0.wide (faces_wide cs a.1)

pub owners_many : (i : ℕ) (cs : List Cell) → length (owners_from i (cells_sizes cs)) ≡ length (faces_of cs)
unfolding owners_from cells_sizes faces_of
owners_many i [] = refl
owners_many i (c ∷ cs) =
    omega (arith, owners_many (suc i) cs, length-append (replicate (length c) i) (owners_from (suc i) (cells_sizes cs)), length-replicate (length c) i, length-append c (faces_of cs))

-- what the slices of a list hold of its faces
module _ {room k faces : ℕ} {d : List Float} {n z : List ℕ} (S : Stands room k faces d n z) where
  counts_are : counts_at n 0 faces ≡ cell_counts (faces_of (cells_at d 0 n (take k z)))
  counts_are = ap (take faces) S.lies.counts.is ∙ take_at (cells_counts (cells_at d 0 n (take k z))) S.lies.counts.tail faces S.faces_are ∙ faces_counts (cells_at d 0 n (take k z))

  pub faces_read : cell_at d 0 (counts_at n 0 faces) ≡ faces_of (cells_at d 0 n (take k z))
  faces_read =
      let c = faces_of (cells_at d 0 n (take k z)) in
      ap (cell_at d 0) counts_are ∙ ap (λ l. cell_at l 0 (cell_counts c)) (S.lies.floats.is ∙ ap (λ l. l ++ S.lies.floats.tail) (faces_floats (cells_at d 0 n (take k z))))
      ∙ cell_back [] c S.lies.floats.tail 0 refl

  sizes_are : take k z ≡ cells_sizes (cells_at d 0 n (take k z))
  sizes_are = ap (take k) S.lies.sizes.is ∙ take_at (cells_sizes (cells_at d 0 n (take k z))) S.lies.sizes.tail k (length_cells_sizes (cells_at d 0 n (take k z)) ∙ S.cells)

  many_faces : length (faces_of (cells_at d 0 n (take k z))) ≡ faces
  many_faces = sym (length_cell_counts (faces_of (cells_at d 0 n (take k z)))) ∙ ap length (sym (faces_counts (cells_at d 0 n (take k z)))) ∙ S.faces_are

  pub faces_facing : Facing room faces d n
  faces_facing =
      let cs = cells_at d 0 n (take k z) in
      let c = faces_of (cells_at d 0 n (take k z)) in
      let small = faces_small cs S.lies.sound in
      let long : 0 + length (cell_floats (faces_of (cells_at d 0 n (take k z)))) ≤ length d
      = omega (arith, ap length S.lies.floats.is, length-append (cells_floats (cells_at d 0 n (take k z))) S.lies.floats.tail, ap length (faces_floats (cells_at d 0 n (take k z)))) in
      record {
        listed = omega (arith, ap length S.lies.counts.is, length-append (cells_counts (cells_at d 0 n (take k z))) S.lies.counts.tail, S.faces_are);
        within = subst (λ l. Within l 0 (length d)) (sym counts_are) (within_stored c 0 (length d) small long);
        small = subst Small (sym faces_read) small;
        wide = subst Wide (sym faces_read) (faces_wide cs S.lies.sound);
        counts = ap cell_counts faces_read ∙ sym counts_are;
        fit = omega (arith, ap (corners 0) faces_read, faces_corners (cells_at d 0 n (take k z)), S.lies.fit);
      }

  -- a face has three corners or more
  pub few_faces : faces ≤ room
  few_faces = omega (arith, many_faces, wide_corners (faces_of (cells_at d 0 n (take k z))) (faces_wide (cells_at d 0 n (take k z)) S.lies.sound), faces_corners (cells_at d 0 n (take k z)), S.lies.fit)

  pub faces_owned : (w : List ℕ) → room ≤ length w → Owned z k w
  faces_owned w h =
      let cs = cells_at d 0 n (take k z) in
      record {
        cells = omega (arith, ap length S.lies.sizes.is, length-append (cells_sizes (cells_at d 0 n (take k z))) S.lies.sizes.tail, length_cells_sizes (cells_at d 0 n (take k z)), S.cells);
        faces = omega (arith, ap (λ l. length (owners_from 0 l)) sizes_are, owners_many 0 (cells_at d 0 n (take k z)), many_faces, few_faces);
      }

-- ---- the faces are merged

-- an answer of merging
pub record Merged (t : Precision) (c : Cell) (p₀ : List Float) (k₀ : List ℕ) (p : List Float) (k : List ℕ) (n : ℕ) : Type 0 where
  pub solid : Solid
  pub is : merge t c ≡ Ok solid
  pub many : n ≡ length solid.points
  pub points : p ≡ sets p₀ 0 (floats_of solid.points)
  pub places : k ≡ sets k₀ 0 (flat solid.faces)

module _ (t : Precision) (c : Cell) (p₀ : List Float) (k₀ : List ℕ) (p : List Float) (k : List ℕ) (r : Outcome ℕ) where
  made_by : (o : Outcome Solid) (n : ℕ) → merge t c ≡ o → Stored o p₀ k₀ p k r → r ≡ Ok n → Merged t c p₀ k₀ p k n
  unfolding Stored
  made_by (Ok s) n g h e = record { solid = s; is = g; many = (let a = h.0 in cc); points = h.1; places = h.2 }
  made_by (Err x) n g h e = absurd (let a = h.0 in let z : ◌≡◌ {A = ℕ} 0 1 = cc in omega arith)

  pub merged_made : (n : ℕ) → Stored (merge t c) p₀ k₀ p k r → r ≡ Ok n → Merged t c p₀ k₀ p k n
  merged_made n h e = made_by (merge t c) n refl h e

  gone_by : (o : Outcome Solid) (x : Refusal) → Stored o p₀ k₀ p k r → r ≡ Err x → o ≡ Err x
  unfolding Stored
  gone_by (Ok s) x h e = absurd (let a = h.0 in let z : ◌≡◌ {A = ℕ} 0 1 = cc in omega arith)
  gone_by (Err y) x h e = (let a = h.0 in let z : y ≡ x = cc in ap Err z)

  pub merged_refused : (room : ℕ) (x : Refusal) (q : Outcome Layout) (c₀ z₀ c' z' : List ℕ) → Stored (merge t c) p₀ k₀ p k r → r ≡ Err x → q ≡ Err x → Shaped (arrange t room c) p₀ c₀ z₀ p c' z' q
  unfolding arrange layout_of
  merged_refused room x q c₀ z₀ c' z' h e g =
      let o : arrange t room c ≡ Err x = stop (merge t c) _ x (gone_by (merge t c) x h e) in
      record { is = g ∙ ap layout_of (sym o); points = λ s w. never_ok (sym o ∙ w); cycles = λ s w. never_ok (sym o ∙ w); lengths = λ s w. never_ok (sym o ∙ w) }

-- what is asked of the slices
pub faces_fit : (room faces : ℕ) (d : List Float) (n : List ℕ) (p : List Float) (k z : List ℕ) → Facing room faces d n → Work room faces p k z → Fits d n 0 0 faces p k
faces_fit room faces d n p k z f w = record {
  faces = omega (arith, f.listed);
  floats = f.within;
  points = omega (arith, f.fit, w.points);
  places = omega (arith, f.fit, w.corners);
}

module _ {t : Precision} {room faces : ℕ} {d : List Float} {counts : List ℕ} {p₀ : List Float} {k₀ : List ℕ} {p : List Float} {k : List ℕ} {n : ℕ}
    (f : Facing room faces d counts) (M : Merged t (cell_at d 0 (counts_at counts 0 faces)) p₀ k₀ p k n) (few : 3 * room ≤ length p₀) (wide : room ≤ length k₀) where
  cycles_are : F.Cycles n k 0 (counts_at counts 0 faces) × (faces_at k 0 (counts_at counts 0 faces) ≡ M.solid.faces)
  cycles_are =
      let c = cell_at d 0 (counts_at counts 0 faces) in
      let h : length (flat M.solid.faces) ≤ length k₀ = omega (arith, merge_corners t (cell_at d 0 (counts_at counts 0 faces)) M.solid M.is, f.fit) in
      subst (λ x. F.Cycles n k 0 x × (faces_at k 0 x ≡ M.solid.faces)) f.counts
      (subst (λ x. F.Cycles x k 0 (cell_counts c) × (faces_at k 0 (cell_counts c) ≡ M.solid.faces)) (sym M.many) (merged_cycles t c M.solid k₀ k M.is f.small M.places h))

  points_are : points_at p 0 n ≡ M.solid.points
  points_are =
      let h : 3 * length M.solid.points ≤ length p₀ = omega (arith, merge_most t (cell_at d 0 (counts_at counts 0 faces)) M.solid M.is, f.fit) in
      ap (λ l. points_at l 0 n) M.points ∙ ap (points_at (sets p₀ 0 (floats_of M.solid.points)) 0) M.many ∙ points_stored p₀ M.solid.points h

  pub conform_asks : (a b : List Float) (l z : List ℕ) → Work room faces p₀ k₀ z → Roomy 4096 a b l → length p ≡ length p₀ → F.Given room p n k counts faces a b l z
  conform_asks a b l z w i e =
      let four : n ≤ 4096 = omega (arith, M.many, (merge_below t (cell_at d 0 (counts_at counts 0 faces)) M.solid M.is).2) in
      record {
        room = w.low;
        points = omega (arith, M.many, merge_most t (cell_at d 0 (counts_at counts 0 faces)) M.solid M.is, f.fit, e);
        few = four;
        faces_in = f.listed;
        faces_out = w.lengths;
        cycles = cycles_are.0;
        lent = record { lows = omega (arith, i.lows); highs = omega (arith, i.highs); places = omega (arith, i.places) };
      }

  -- whatever conforming answers
  shaped_by : (x : Outcome (List (List ℕ))) (a₀ b₀ : List Float) (l₀ c₀ z₀ : List ℕ) (a b : List Float) (l c z : List ℕ) (made : Outcome ℕ) (r : Outcome Layout) →
      conform_all t room M.solid.points M.solid.faces ≡ x → Arranged x a₀ b₀ l₀ c₀ z₀ a b l c z made → r ≡ layout_by n faces made →
      Shaped (arrange t room (cell_at d 0 (counts_at counts 0 faces))) p₀ c₀ z₀ p c z r
  unfolding Arranged arrange layout_by layout_of
  shaped_by (Ok fs) a₀ b₀ l₀ c₀ z₀ a b l c z made r g h e =
      let s : Solid = record { points = M.solid.points; faces = fs } in
      let o : arrange t room (cell_at d 0 (counts_at counts 0 faces)) ≡ Ok (record { points = M.solid.points; faces = fs })
      = go (merge t (cell_at d 0 (counts_at counts 0 faces))) _ M.solid M.is ∙ go (conform_all t room M.solid.points M.solid.faces) _ fs g in
      let u : length (counts_at counts 0 faces) ≡ faces = length-take-le faces counts f.listed in
      let m : faces ≡ length fs
      = omega (arith, conform_many t room M.solid.points M.solid.faces fs g, ap length (merge_below t (cell_at d 0 (counts_at counts 0 faces)) M.solid M.is).1, length-map M.solid.faces length, ap length f.counts, u) in
      record {
        is = e ∙ ap (layout_by n faces) h.0 ∙ ap {B = Outcome Layout} (λ y. Ok (record { points = y; facets = faces; vertices = length (flat fs) })) M.many
            ∙ ap {B = Outcome Layout} (λ y. Ok (record { points = length M.solid.points; facets = y; vertices = length (flat fs) })) m ∙ ap layout_of (sym o);
        points = λ x w. M.points ∙ ap (λ y. sets p₀ 0 (floats_of y.points)) (same_ok (sym o ∙ w));
        cycles = λ x w. h.1 ∙ ap (λ y. sets c₀ 0 (flat y.faces)) (same_ok (sym o ∙ w));
        lengths = λ x w. h.2 ∙ ap (λ y. sets z₀ 0 (map length y.faces)) (same_ok (sym o ∙ w));
      }
  shaped_by (Err x) a₀ b₀ l₀ c₀ z₀ a b l c z made r g h e =
      let o : arrange t room (cell_at d 0 (counts_at counts 0 faces)) ≡ Err x
      = go (merge t (cell_at d 0 (counts_at counts 0 faces))) _ M.solid M.is ∙ stop (conform_all t room M.solid.points M.solid.faces) _ x g in
      record { is = e ∙ ap (layout_by n faces) h.0 ∙ ap layout_of (sym o); points = λ s w. never_ok (sym o ∙ w); cycles = λ s w. never_ok (sym o ∙ w); lengths = λ s w. never_ok (sym o ∙ w) }

  pub shaped_made : (a₀ b₀ : List Float) (l₀ c₀ z₀ : List ℕ) (a b : List Float) (l c z : List ℕ) (made : Outcome ℕ) (r : Outcome Layout) →
      Arranged (conform_all t room (points_at p 0 n) (faces_at k 0 (counts_at counts 0 faces))) a₀ b₀ l₀ c₀ z₀ a b l c z made → r ≡ layout_by n faces made →
      Shaped (arrange t room (cell_at d 0 (counts_at counts 0 faces))) p₀ c₀ z₀ p c z r
  shaped_made a₀ b₀ l₀ c₀ z₀ a b l c z made r h e =
      shaped_by (conform_all t room (points_at p 0 n) (faces_at k 0 (counts_at counts 0 faces))) a₀ b₀ l₀ c₀ z₀ a b l c z made r
      (ap (λ x. conform_all t room x M.solid.faces) (sym points_are) ∙ ap (conform_all t room (points_at p 0 n)) (sym cycles_are.1)) h e

-- ---- the code's cases

pub layout_made : (n faces : ℕ) (made : Outcome ℕ) (m : ℕ) → made ≡ Ok m → ◌≡◌ {A = Outcome Layout} (Ok (record { points = n; facets = faces; vertices = m })) (layout_by n faces made)
unfolding layout_by
layout_made n faces made m e = ap (layout_by n faces) (sym e)

pub layout_refused : (n faces : ℕ) (made : Outcome ℕ) (x : Refusal) (r : Outcome Layout) → made ≡ Err x → r ≡ Err x → r ≡ layout_by n faces made
unfolding layout_by
layout_refused n faces made x r e g = g ∙ ap (layout_by n faces) (sym e)

-- ---- the whole list

module _ (t : Precision) {room k faces : ℕ} {d : List Float} {n z : List ℕ} {p₀ : List Float} {c₀ l₀ : List ℕ} {p : List Float} {c l : List ℕ} {u : Outcome Layout}
    (S : Stands room k faces d n z) (h : Shaped (arrange t room (cell_at d 0 (counts_at n 0 faces))) p₀ c₀ l₀ p c l u) where
  gone_of : (o : Outcome Solid) (x : Refusal) → Err x ≡ layout_of o → o ≡ Err x
  unfolding layout_of
  gone_of (Ok s) x g = never_ok g
  gone_of (Err y) x g = ap Err (let z : y ≡ x = cc in z)

  pub list_refused : (x : Refusal) (r : Outcome Layout) (s₀ w₀ s w : List ℕ) → u ≡ Err x → r ≡ Err x → Laid (arrange_cells t room (cells_at d 0 n (take k z))) p₀ c₀ s₀ w₀ p c s w r
  unfolding arrange_cells laid_of
  list_refused x r s₀ w₀ s w e g =
      let q : arrange t room (cell_at d 0 (counts_at n 0 faces)) ≡ Err x = gone_of (arrange t room (cell_at d 0 (counts_at n 0 faces))) x (sym e ∙ h.is) in
      let o : arrange_cells t room (cells_at d 0 n (take k z)) ≡ Err x = stop (arrange t room (faces_of (cells_at d 0 n (take k z)))) _ x (ap (arrange t room) (sym (faces_read S)) ∙ q) in
      record { is = g ∙ ap laid_of (sym o); points = λ a y. never_ok (sym o ∙ y); cycles = λ a y. never_ok (sym o ∙ y); starts = λ a y. never_ok (sym o ∙ y); owners = λ a y. never_ok (sym o ∙ y) }

  module _ (low : room ≤ 4611686018427387904) (long : room ≤ length l₀) (r : Layout) (made : u ≡ Ok r) where
    lengths_are : (s : Solid) → arrange t room (cell_at d 0 (counts_at n 0 faces)) ≡ Ok s → length s.faces ≤ room → take (length s.faces) l ≡ map length s.faces
    lengths_are s e g =
        ap (take (length s.faces)) (h.lengths s e ∙ sets-eq (map length s.faces) l₀ 0 (omega (arith, length-map s.faces length)))
        ∙ take_at (map length s.faces) (drop (0 + length (map length s.faces)) l₀) (length s.faces) (length-map s.faces length)

    facet_few : (s : Solid) → arrange t room (cell_at d 0 (counts_at n 0 faces)) ≡ Ok s → length s.faces ≤ room
    facet_few s e = omega (arith, (arranged t room (cell_at d 0 (counts_at n 0 faces)) s e (faces_facing S).wide).1, ap length (faces_read S), many_faces S, few_faces S)

    asks_by : (o : Outcome Solid) → arrange t room (cell_at d 0 (counts_at n 0 faces)) ≡ o → Ok r ≡ layout_of o → Placing (take r.facets l) 0 4611686018427387904 × (r.facets ≤ room)
    unfolding layout_of Placing
    asks_by (Ok s) e g =
        let m : r.facets ≡ length s.faces = ap (λ x. x.facets) (same_ok g) in (
          subst (λ x. Placing x 0 4611686018427387904) (sym (ap (λ i. take i l) m ∙ lengths_are s e (facet_few s e)))
              (placing_flat s.faces 0 4611686018427387904 (omega (arith, (arranged t room (cell_at d 0 (counts_at n 0 faces)) s e (faces_facing S).wide).0.fit, low))),
          omega (arith, m, facet_few s e),
        )
    asks_by (Err x) e g = never_ok (sym g)

    pub starts_ask : Placing (take r.facets l) 0 4611686018427387904 × (r.facets ≤ room)
    starts_ask = asks_by (arrange t room (cell_at d 0 (counts_at n 0 faces))) refl (sym made ∙ h.is)

    laid_by : (o : Outcome Solid) (s₀ w₀ s w : List ℕ) → arrange t room (cell_at d 0 (counts_at n 0 faces)) ≡ o → Ok r ≡ layout_of o →
        w ≡ sets w₀ 0 (owners_from 0 (take k z)) → s ≡ sets s₀ 0 (starts_from 0 (take r.facets l)) → Laid (arrange_cells t room (cells_at d 0 n (take k z))) p₀ c₀ s₀ w₀ p c s w (Ok r)
    unfolding arrange_cells layout_of laid_of
    laid_by (Ok q) s₀ w₀ s w e g ew es =
        let m : r.facets ≡ length q.faces = ap (λ x. x.facets) (same_ok g) in
        let o : arrange_cells t room (cells_at d 0 n (take k z)) ≡ Ok (record { points = q.points; cycles = q.faces; owners = owners_from 0 (cells_sizes (cells_at d 0 n (take k z))) })
        = go (arrange t room (faces_of (cells_at d 0 n (take k z)))) _ q (ap (arrange t room) (sym (faces_read S)) ∙ e) in
        record {
          is = g ∙ ap laid_of (sym o);
          points = λ x y. h.points q e ∙ ap (λ v. sets p₀ 0 (floats_of v.points)) (same_ok (sym o ∙ y));
          cycles = λ x y. h.cycles q e ∙ ap (λ v. sets c₀ 0 (flat v.cycles)) (same_ok (sym o ∙ y));
          starts = λ x y. es ∙ ap (λ v. sets s₀ 0 (starts_from 0 v)) (ap (λ i. take i l) m ∙ lengths_are q e (facet_few q e)) ∙ ap (sets s₀ 0) (starts_bounds 0 q.faces) ∙ ap (λ v. sets s₀ 0 (bounds 0 v.cycles)) (same_ok (sym o ∙ y));
          owners = λ x y. ew ∙ ap (λ v. sets w₀ 0 (owners_from 0 v)) (sizes_are S) ∙ ap (λ v. sets w₀ 0 v.owners) (same_ok (sym o ∙ y));
        }
    laid_by (Err x) s₀ w₀ s w e g ew es = never_ok (sym g)

    pub list_laid : (s₀ w₀ s w : List ℕ) → w ≡ sets w₀ 0 (owners_from 0 (take k z)) → s ≡ sets s₀ 0 (starts_from 0 (take r.facets l)) →
        Laid (arrange_cells t room (cells_at d 0 n (take k z))) p₀ c₀ s₀ w₀ p c s w (Ok r)
    list_laid s₀ w₀ s w ew es = laid_by (arrange t room (cell_at d 0 (counts_at n 0 faces))) s₀ w₀ s w refl (sym made ∙ h.is) ew es

-- what is lent for a list serves for its faces
pub lent_work : {room faces : ℕ} {p : List Float} {k c z s w : List ℕ} → Lent room p k c z s w → faces ≤ room → Work room faces p k z
lent_work m h = record { low = m.low; points = m.points; corners = m.corners; lengths = omega (arith, m.lengths) }

module _ {room : ℕ} {s : Stack} {d : List Float} {n z : List ℕ} (h : Holds room s d n z) where
  told : s.verdict ≡ Ok tt → list_at s d n z ≡ Ok (cells_at d 0 n (take s.cells z))
  unfolding list_at heard
  told v = ap (λ x. heard x (cells_at d 0 n (take s.cells z))) v

  pub list_stands : s.verdict ≡ Ok tt → Stands room s.cells s.faces d n z
  unfolding stack_of
  list_stands v = record { lies = h.lies _ (told v); cells = sym (ap (λ x. x.cells) (h.is ∙ ap stack_of (told v))); faces_are = sym (ap (λ x. x.faces) (h.is ∙ ap stack_of (told v))) }

  pub list_arranged : (t : Precision) {p₀ : List Float} {c₀ s₀ w₀ : List ℕ} {p : List Float} {c q w : List ℕ} {r : Outcome Layout} → s.verdict ≡ Ok tt →
      Laid (arrange_cells t room (cells_at d 0 n (take s.cells z))) p₀ c₀ s₀ w₀ p c q w r → Laid (then (list_at s d n z) (arrange_cells t room)) p₀ c₀ s₀ w₀ p c q w r
  list_arranged t {p₀} {c₀} {s₀} {w₀} {p} {c} {q} {w} {r} v l = subst (λ o. Laid (then o (arrange_cells t room)) p₀ c₀ s₀ w₀ p c q w r) (sym (told v)) l

pub list_gone : (t : Precision) (room : ℕ) (s : Stack) (d : List Float) (n z : List ℕ) {p₀ : List Float} {c₀ s₀ w₀ : List ℕ} {p : List Float} {c q w : List ℕ} {r : Outcome Layout} (x : Refusal) → s.verdict ≡ Err x → r ≡ Err x →
    Laid (then (list_at s d n z) (arrange_cells t room)) p₀ c₀ s₀ w₀ p c q w r
unfolding list_at heard laid_of
list_gone t room s d n z {p₀} {c₀} {s₀} {w₀} {p} {c} {q} {w} {r} x v e =
    let o : then (list_at s d n z) (arrange_cells t room) ≡ Err x = ap (λ y. then (heard y (cells_at d 0 n (take s.cells z))) (arrange_cells t room)) v in
    record { is = e ∙ ap laid_of (sym o); points = λ a y. never_ok (sym o ∙ y); cycles = λ a y. never_ok (sym o ∙ y); starts = λ a y. never_ok (sym o ∙ y); owners = λ a y. never_ok (sym o ∙ y) }
