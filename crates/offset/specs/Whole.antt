-- Laws of the whole offset: its stages one after another.
use Rattle.std.proofs.Math.Path.{◌≡◌, refl, sym, ap, subst}
use Rattle.std.proofs.Common.{◌∙◌, arith}
use Rattle.std.specs.Prelude.{true, not, ℕ, ◌+◌, ◌*◌, ◌≤◌, drop, Float, Ok, Err}
use Rattle.std.proofs.Math.Bool.{false}
use mathlib.Core.List.{List, [], ◌++◌}
use Rattle.std.proofs.Math.ListN.{length, take, replicate, length-drop, length-take}
use Rattle.std.proofs.lemmas.List.{length-replicate}
use Rattle.std.proofs.lemmas.List.Edits.{sets}
use Rattle.std.proofs.Math.Seq.{length-sets, take_at}
use Rattle.float.specs.Float.{finite}
use Rattle.lists.specs.Walks.{all}
use Rattle.refusal.specs.declared.Refusal.{Refusal}
use Rattle.refusal.specs.Outcome.{Outcome, refusal_of, then, unless, each, heard}
use Rattle.refusal.specs.Laws.{stop, go}
use Rattle.space.specs.declared.Point3.{Point3}
use Rattle.space.specs.declared.Precision.{Precision}
use Rattle.space.specs.Shapes.{Cell, corners}
use Rattle.polygon.specs.Memory.{floats_of, points_at}
use Rattle.room.specs.Rooms.{cell_floats, cell_counts, cell_at, counts_at, Within}
use Rattle.room.specs.Laws.{points_stored, cell_stored, within_stored, length_cell_floats, length_cell_counts, cell_counts_lem}
use Rattle.indexed.specs.Indexed.{indexed}
use Rattle.indexed.specs.Stored.{flat, Stored}
use Rattle.solids.specs.Frames.{faces_at}
use Rattle.bounds.specs.Bounds.{against, Lies}
use Rattle.offset.specs.Offsets.{Moving, moving, move_points, move_face, not_crossed, move_all, offset_distances, offset_cell}
use Rattle.offset.specs.Stored.{Source, moving_at, PointsMoved, CellMoved, Ready}
use Rattle.offset.specs.Indexes.{run_back, placing_fits, stored_made, stored_not, indexed_few, indexed_points, indexed_faces}

-- ---- what the answers of the stages say

points_made : (o : Outcome (List Point3)) (m : ℕ) (d₀ d : List Float) (v : Outcome Unit) → PointsMoved o m d₀ d v → v ≡ Ok tt → (qs : List Point3) × (o ≡ Ok qs) × (length qs ≡ m) × (d ≡ sets d₀ 0 (floats_of qs))
unfolding PointsMoved
points_made (Ok qs) m d₀ d v h e = (qs, refl, h.1, h.2)
points_made (Err r) m d₀ d v h e = absurd (let a = h.0 in let z : ◌≡◌ {A = ℕ} 0 1 = cc in omega arith)

pub points_size : (o : Outcome (List Point3)) (m : ℕ) (d₀ d : List Float) (v : Outcome Unit) → PointsMoved o m d₀ d v → length d ≡ length d₀
unfolding PointsMoved
points_size (Ok qs) m d₀ d v h = ap length h.2 ∙ length-sets d₀ 0 (floats_of qs)
points_size (Err r) m d₀ d v h = h.1

points_not : (o : Outcome (List Point3)) (m : ℕ) (d₀ d : List Float) (v : Outcome Unit) (r : Refusal) → PointsMoved o m d₀ d v → v ≡ Err r → o ≡ Err r
unfolding PointsMoved
points_not (Ok qs) m d₀ d v r h e = absurd (let a = h.0 in let z : ◌≡◌ {A = ℕ} 0 1 = cc in omega arith)
points_not (Err y) m d₀ d v r h e = let a = h.0 in let b : y ≡ r = cc in ap Err b

module _ (n : ℕ) (d₀ : List Float) (to : ℕ) (n₀ : List ℕ) (k : ℕ) (d : List Float) (ns : List ℕ) where
  pub cell_size : (o : Outcome Cell) (v : Outcome Unit) → CellMoved o n d₀ to n₀ k d ns v → (length d ≡ length d₀) × (length ns ≡ length n₀)
  unfolding CellMoved
  cell_size (Ok c) v h = (ap length h.1 ∙ length-sets d₀ to (cell_floats c), ap length h.2 ∙ length-sets n₀ k (cell_counts c))
  cell_size (Err r) v h = (h.1, h.2)

  pub cell_not : (o : Outcome Cell) (v : Outcome Unit) (r : Refusal) → CellMoved o n d₀ to n₀ k d ns v → v ≡ Err r → o ≡ Err r
  unfolding CellMoved
  cell_not (Ok c) v r h e = absurd (let a = h.0 in let z : ◌≡◌ {A = ℕ} 0 1 = cc in omega arith)
  cell_not (Err y) v r h e = let a = h.0 in let b : y ≡ r = cc in ap Err b

  pub cell_made : (o : Outcome Cell) (v : Outcome Unit) → CellMoved o n d₀ to n₀ k d ns v → v ≡ Ok tt → (c : Cell) × (o ≡ Ok c) × CellMoved (Ok c) n d₀ to n₀ k d ns v
  unfolding CellMoved
  cell_made (Ok c) v h e = (c, refl, h)
  cell_made (Err r) v h e = absurd (let a = h.0 in let z : ◌≡◌ {A = ℕ} 0 1 = cc in omega arith)

  -- the moved cell is read back
  module _ (c : Cell) (v : Outcome Unit) (h : CellMoved (Ok c) n d₀ to n₀ k d ns v) (slots : k + n ≤ length n₀) where
    pub counts_are : counts_at ns k n ≡ cell_counts c
    unfolding CellMoved
    counts_are =
        let e : n ≡ length (cell_counts c) = sym (length_cell_counts c ∙ h.3) in
        ap (λ l. counts_at l k n) h.2 ∙ ap (λ m. counts_at (sets n₀ k (cell_counts c)) k m) e ∙ run_back n₀ k (cell_counts c) (omega arith)

    inside : to + length (cell_floats c) ≤ length d₀
    unfolding CellMoved
    inside = omega (arith, length_cell_floats c, h.3, h.4)

    pub cell_is : cell_at d to (counts_at ns k n) ≡ c
    unfolding CellMoved
    cell_is = ap (cell_at d to) counts_are ∙ ap (λ l. cell_at l to (cell_counts c)) h.1 ∙ cell_stored d₀ to c inside

    pub cell_lies : Lies d to ns k n
    unfolding CellMoved
    cell_lies = record {
      listed = omega (arith, slots, (cell_size (Ok c) v h).1);
      within = subst (λ l. Within l to (length d)) (sym counts_are) (within_stored c to (length d) h.5 (omega (arith, inside, (cell_size (Ok c) v h).0)));
    }

  pub faces_lie : (o : Outcome Cell) (v : Outcome Unit) → CellMoved o n d₀ to n₀ k d ns v → v ≡ Ok tt → k + n ≤ length n₀ → Lies d to ns k n
  faces_lie o v h e slots = let g = cell_made o v h e in cell_lies g.0 v g.2 slots

  -- a verdict on the cell
  judged_cell : (c : Cell) (v w : Outcome Unit) → CellMoved (Ok c) n d₀ to n₀ k d ns v → CellMoved (heard w c) n d₀ to n₀ k d ns w
  unfolding CellMoved heard
  judged_cell c v (Ok tt) h = (refl, h.1, h.2, h.3, h.4, h.5)
  judged_cell c v (Err r) h = (refl, ap length h.1 ∙ length-sets d₀ to (cell_floats c), ap length h.2 ∙ length-sets n₀ k (cell_counts c))

-- ---- the three stages

module _ (t : Precision) (ms : List Moving) (ps : List Point3) (n : ℕ) (to k : ℕ) (m : ℕ) (e₀ e : List Float) (v : Outcome Unit) (P : PointsMoved (move_points t ms 0 [] ps) m e₀ e v) where
  pub all_not_points : (d : List Float) (ns : List ℕ) (r : Refusal) → v ≡ Err r → CellMoved (move_all t ms ps) n d to ns k d ns v
  unfolding move_all CellMoved
  all_not_points d ns r w =
      let z : move_all t ms ps ≡ Err r = stop (move_points t ms 0 [] ps) _ r (points_not _ m e₀ e v r P w) in
      subst (λ y. CellMoved y n d to ns k d ns v) (sym z) (w, refl, refl)

  module _ (w : v ≡ Ok tt) (room : 3 * m ≤ length e₀) (d₀ : List Float) (n₀ : List ℕ) (d : List Float) (ns : List ℕ) (u : Outcome Unit)
      (F : CellMoved (each (move_face t (points_at e 0 m)) [] ms) n d₀ to n₀ k d ns u) where
    onward : move_all t ms ps ≡ then (each (move_face t (points_at e 0 m)) [] ms) (not_crossed t)
    unfolding move_all
    onward =
        let g = points_made (move_points t ms 0 [] ps) m e₀ e v P w in
        let q : points_at e 0 m ≡ g.0 = ap (λ l. points_at l 0 m) g.3 ∙ ap (points_at (sets e₀ 0 (floats_of g.0)) 0) (sym g.2) ∙ points_stored e₀ g.0 (omega (arith, g.2)) in
        go (move_points t ms 0 [] ps) _ g.0 g.1 ∙ ap (λ l. then (each (move_face t l) [] ms) (not_crossed t)) (sym q)

    pub all_not_faces : (r : Refusal) → u ≡ Err r → CellMoved (move_all t ms ps) n d₀ to n₀ k d ns u
    unfolding CellMoved
    all_not_faces r x =
        let z : move_all t ms ps ≡ Err r = onward ∙ stop (each (move_face t (points_at e 0 m)) [] ms) (not_crossed t) r (cell_not n d₀ to n₀ k d ns (each (move_face t (points_at e 0 m)) [] ms) u r F x) in
        let s = cell_size n d₀ to n₀ k d ns (each (move_face t (points_at e 0 m)) [] ms) u F in
        subst (λ y. CellMoved y n d₀ to n₀ k d ns u) (sym z) (x, s.0, s.1)

    pub all_moved : (r : Outcome Unit) → u ≡ Ok tt → k + n ≤ length n₀ → r ≡ against false t (cell_at d to (counts_at ns k n)) (cell_at d to (counts_at ns k n)) → CellMoved (move_all t ms ps) n d₀ to n₀ k d ns r
    unfolding not_crossed
    all_moved r x slots y =
        let g = cell_made n d₀ to n₀ k d ns (each (move_face t (points_at e 0 m)) [] ms) u F x in
        let c = g.0 in
        let i : cell_at d to (counts_at ns k n) ≡ g.0 = cell_is n d₀ to n₀ k d ns g.0 u g.2 slots in
        let a : against false t g.0 g.0 ≡ r = ap (λ z. against false t z z) (sym i) ∙ sym y in
        let z : move_all t ms ps ≡ heard r g.0 = onward ∙ go (each (move_face t (points_at e 0 m)) [] ms) (not_crossed t) g.0 g.1 ∙ ap (λ q. heard q g.0) a in
        subst (λ q. CellMoved q n d₀ to n₀ k d ns r) (sym z) (judged_cell n d₀ to n₀ k d ns g.0 u r g.2)

-- ---- the cell by its points and places

module _ {s : List Float} {at : ℕ} {counts : List ℕ} {first n : ℕ} {by points : List Float} {places : List ℕ} {moved d : List Float} {to : ℕ} {sizes : List ℕ} {k : ℕ}
    (ready : Ready s at counts first n by points places moved d to sizes k) (t : Precision) where
  abbrev whole : Cell
  whole = cell_at s at (counts_at counts first n)

  module _ (p : List Float) (i : List ℕ) (r : Outcome ℕ) (S : Stored (indexed t (cell_at s at (counts_at counts first n))) points places p i r) where
    pub index_source : (m : ℕ) → r ≡ Ok m → Source s at counts first n by i
    index_source m e =
        let g = stored_made (indexed t (cell_at s at (counts_at counts first n))) points places p i r m S e in
        let l : length i ≡ length places = ap length g.4 ∙ length-sets places 0 (flat g.0.faces) in
        record {
          lies = record { listed = ready.fits.faces; within = ready.fits.floats };
          placing = placing_fits s at (counts_at counts first n) (length i) (omega (arith, ready.fits.places, l));
          distances = ready.distances;
        }

    pub index_few : (m : ℕ) → r ≡ Ok m → (3 * m ≤ length p) × (3 * m ≤ length moved)
    index_few m e =
        let g = stored_made (indexed t (cell_at s at (counts_at counts first n))) points places p i r m S e in
        let f = indexed_few t (cell_at s at (counts_at counts first n)) g.0 g.1 in
        let l : length p ≡ length points = ap length g.3 ∙ length-sets points 0 (floats_of g.0.points) in
        (omega (arith, g.2, f, l, ready.fits.points), omega (arith, g.2, f, ready.moves))

    pub index_not : (x : Refusal) (v : Outcome Unit) → r ≡ Err x → v ≡ Err x → all finite true (take n by) ≡ true → CellMoved (offset_distances t (take n by) (cell_at s at (counts_at counts first n))) n d to sizes k d sizes v
    unfolding offset_distances CellMoved
    index_not x v e w fine =
        let z : offset_distances t (take n by) (cell_at s at (counts_at counts first n)) ≡ Err x =
        ap (λ b. unless (not b) 2 (then (indexed t whole) (λ s. move_all t (moving whole s.faces (take n by)) s.points))) fine
        ∙ stop (indexed t whole) _ x (stored_not (indexed t whole) points places p i r x S e) in
        subst (λ y. CellMoved y n d to sizes k d sizes v) (sym z) (w, refl, refl)

    pub index_moved : (m : ℕ) (d' : List Float) (ns' : List ℕ) (v : Outcome Unit) → r ≡ Ok m → all finite true (take n by) ≡ true →
        CellMoved (move_all t (moving_at s at counts first n by i) (points_at p 0 m)) n d to sizes k d' ns' v → CellMoved (offset_distances t (take n by) (cell_at s at (counts_at counts first n))) n d to sizes k d' ns' v
    unfolding offset_distances
    index_moved m d' ns' v e fine M =
        let g = stored_made (indexed t (cell_at s at (counts_at counts first n))) points places p i r m S e in
        let f = indexed_few t (cell_at s at (counts_at counts first n)) g.0 g.1 in
        let a : points_at p 0 m ≡ g.0.points = ap (λ l. points_at l 0 m) g.3 ∙ indexed_points points g.0.points m (corners 0 (cell_at s at (counts_at counts first n))) g.2 f ready.fits.points in
        let b : faces_at i 0 (counts_at counts first n) ≡ g.0.faces = ap (λ l. faces_at l 0 (counts_at counts first n)) g.4 ∙ indexed_faces t s at (counts_at counts first n) g.0 places g.1 ready.fits.places in
        let z : offset_distances t (take n by) (cell_at s at (counts_at counts first n)) ≡ move_all t (moving_at s at counts first n by i) (points_at p 0 m) =
        ap (λ b. unless (not b) 2 (then (indexed t whole) (λ s. move_all t (moving whole s.faces (take n by)) s.points))) fine
        ∙ go (indexed t whole) _ g.0 g.1
        ∙ ap (move_all t (moving whole g.0.faces (take n by))) (sym a)
        ∙ ap (λ l. move_all t (moving whole l (take n by)) (points_at p 0 m)) (sym b) in
        subst (λ y. CellMoved y n d to sizes k d' ns' v) (sym z) M

  -- 2
  pub not_finite : (x : Refusal) (v : Outcome Unit) → x ≡ refusal_of 2 → v ≡ Err x → all finite true (take n by) ≡ false → CellMoved (offset_distances t (take n by) (cell_at s at (counts_at counts first n))) n d to sizes k d sizes v
  unfolding offset_distances CellMoved
  not_finite x v e w fine =
      let z : offset_distances t (take n by) (cell_at s at (counts_at counts first n)) ≡ Err x =
      ap (λ b. unless (not b) 2 (then (indexed t whole) (λ s. move_all t (moving whole s.faces (take n by)) s.points))) fine ∙ ap Err (sym e) in
      subst (λ y. CellMoved y n d to sizes k d sizes v) (sym z) (w, refl, refl)

  -- one distance for all faces
  pub same_distance : (h : Float) (b : List Float) (d' : List Float) (ns' : List ℕ) (v : Outcome Unit) → by ≡ replicate n h ++ drop n b →
      CellMoved (offset_distances t (take n by) (cell_at s at (counts_at counts first n))) n d to sizes k d' ns' v → CellMoved (offset_cell t h (cell_at s at (counts_at counts first n))) n d to sizes k d' ns' v
  unfolding offset_cell
  same_distance h b d' ns' v e M =
      let l : length (cell_at s at (counts_at counts first n)) ≡ n =
      sym (length_cell_counts whole) ∙ ap length (cell_counts_lem s at (counts_at counts first n)) ∙ length-take n (drop first counts) ∙ omega (arith, length-drop first counts, ready.fits.faces) in
      let a : take n by ≡ replicate (length (cell_at s at (counts_at counts first n))) h =
      ap (take n) e ∙ take_at (replicate n h) (drop n b) n (length-replicate n h) ∙ ap (λ m. replicate m h) (sym l) in
      subst (λ y. CellMoved (offset_distances t y whole) n d to sizes k d' ns' v) a M

pub ready_for : {s : List Float} {at : ℕ} {counts : List ℕ} {first n : ℕ} {by points : List Float} {places : List ℕ} {moved d : List Float} {to : ℕ} {sizes : List ℕ} {k : ℕ} (b : List Float) →
    length b ≡ length by → Ready s at counts first n by points places moved d to sizes k → Ready s at counts first n b points places moved d to sizes k
ready_for b e r = record { fits = r.fits; distances = omega (arith, e, r.distances); moves = r.moves; place = r.place }
