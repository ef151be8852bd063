-- An arrangement that was laid out is one that fusing takes, and its bodies are those of the list.
use Rattle.std.proofs.Math.Path.{◌≡◌, sym, ap}
use Rattle.std.specs.Prelude.{refl, List, [], ◌++◌, ℕ, ◌+◌, ◌*◌, ◌≤◌, ◌<◌, length, drop, get_or, Float, Ok, Err}
use Rattle.std.proofs.Common.{ap₂, ◌∙◌, subst, append-nil, arith, length-take-le, get_or-take}
use Rattle.std.proofs.Math.ListN.{take}
use Rattle.std.proofs.lemmas.List.Edits.{sets, sets-eq}
use Rattle.std.proofs.Math.Seq.{length-sets, length-slice, drop-nil, drop-length}
use Rattle.refusal.specs.declared.Refusal.{Refusal}
use Rattle.refusal.specs.Outcome.{Outcome, then}
use Rattle.refusal.specs.Laws.{stop, go, same_ok, never_ok, then_ok}
use Rattle.lists.specs.Laws.{front_stored}
use Rattle.space.specs.declared.Precision.{Precision}
use Rattle.space.specs.Shapes.{Cell, corners}
use Rattle.polygon.specs.Memory.{floats_of}
use Rattle.polygon.specs.Members.{All}
use Rattle.room.specs.Rooms.{cell_at, counts_at}
use Rattle.room.specs.Laws.{length_floats_of}
use Rattle.indexed.specs.Stored.{flat}
use Rattle.merge.specs.Merge.{merge}
use Rattle.arrange.specs.Arrange.{conform_all, arrange}
use Rattle.stack.specs.declared.Stack.{Stack}
use Rattle.stack.specs.Stacks.{stack_of, list_at, Sound, Holds}
use Rattle.stack.specs.Laws.{numbers, list_heard}
use Rattle.keys.specs.Rows.{Starts, row, rows, row_at}
use Rattle.groups.specs.Groups.{bounds, Grouped, length_bounds}
use Rattle.fusing.specs.Groups.{grouped_starts, grouped_rows}
use Rattle.fusing.specs.Bench.{Cycles}
use Rattle.bodies.specs.Fusing.{Bodies, fuse}
use Rattle.interfaces.specs.Facets.{facets_of}
use Rattle.cavities.specs.Steps.{volume_of}
use Rattle.assembly.specs.declared.Fused.{Fused}
use Rattle.assembly.specs.Answer as A
use Rattle.arrangement.specs.declared.Layout.{Layout}
use Rattle.arrangement.specs.Arrangements.{faces_of, Arrangement, arrange_cells, laid_of, Laid, Facing}
use Rattle.arrangement.specs.Conforming.{arranged, merge_most}
use Rattle.arrangement.specs.Laws.{faces_wide, faces_facing, faces_read, list_stands}
use Rattle.arrangement.specs.Facts.{Facets, arrangement_facets, vertices_many, facets_many, vertices_are, cycles_grouped, cycles_wide, vertices_points, owners_cells}
use Rattle.fused.specs.Bodies.{fuse_in}
use Rattle.fused.specs.Laws.{fuse_is}
use Rattle.fuse_list.specs.declared.Listing.{Listing}
use Rattle.fuse_list.specs.Lists.{bodies_of, fuse_at, Ready, Told}

over : {A : Type 0} (l : List A) → sets l 0 l ≡ l
over l =
    let z : 0 + length l ≡ length l = omega arith in
    sets-eq l l 0 (omega arith) ∙ ap (λ k. l ++ drop k l) z ∙ ap (λ r. l ++ r) (drop-length l) ∙ append-nil l

-- ---- the slices' fronts are the arrangement

module _ {o : Outcome Arrangement} {p₀ : List Float} {c₀ s₀ w₀ : List ℕ} {p : List Float} {c s w : List ℕ} {y : Layout} (L : Laid o p₀ c₀ s₀ w₀ p c s w (Ok y))
    {a : Arrangement} (e : o ≡ Ok a) {room n : ℕ} (G : Facets a room n) (few : length a.points ≤ room)
    (points : 3 * room ≤ length p₀) (cycles : room ≤ length c₀) (starts : room < length s₀) (owners : room ≤ length w₀) where
  points_many : y.points ≡ length a.points
  unfolding laid_of
  points_many = ap (λ x. x.points) (same_ok (L.is ∙ ap laid_of e))

  pub points_are : take (3 * y.points) p ≡ floats_of a.points
  points_are = ap (take (3 * y.points)) (L.points a e) ∙ front_stored (floats_of a.points) p₀ (3 * y.points) (omega (arith, points_many, length_floats_of a.points)) (omega (arith, length_floats_of a.points, few, points))

  pub starts_are : take (y.facets + 1) s ≡ bounds 0 a.cycles
  starts_are = ap (take (y.facets + 1)) (L.starts a e) ∙ front_stored (bounds 0 a.cycles) s₀ (y.facets + 1) (omega (arith, facets_many L e G cycles starts, length_bounds 0 a.cycles)) (omega (arith, length_bounds 0 a.cycles, G.many, starts))

  pub owners_are : take y.facets w ≡ a.owners
  owners_are = ap (take y.facets) (L.owners a e) ∙ front_stored a.owners w₀ y.facets (omega (arith, facets_many L e G cycles starts, G.owned)) (omega (arith, G.owned, G.many, owners))

  -- the points alone
  exact : Laid o (floats_of a.points) c₀ s₀ w₀ (take (3 * y.points) p) c s w (Ok y)
  exact = record {
    is = L.is;
    points = λ x g. points_are ∙ sym (over (floats_of a.points)) ∙ ap (λ v. sets (floats_of a.points) 0 (floats_of v.points)) (same_ok (sym e ∙ g));
    cycles = L.cycles;
    starts = L.starts;
    owners = L.owners;
  }

  abbrev vs : List ℕ
  vs = take y.vertices c

  abbrev ss : List ℕ
  ss = take (y.facets + 1) s

  grouped : Grouped a.cycles [] [] vs ss y.facets
  grouped =
      let g = cycles_grouped L e G cycles starts in
      record { many = g.many; nodes = g.nodes; cuts = starts_are ∙ sym (append-nil (bounds 0 a.cycles)) ∙ ap (λ l. bounds 0 a.cycles ++ l) (sym (drop-nil (y.facets + 1))) }

  rows_fine : Cycles vs ss y.facets
  rows_fine =
      let f : Starts vs ss y.facets = grouped_starts a.cycles [] [] vs ss y.facets grouped in
      let r : rows vs ss y.facets ≡ a.cycles = grouped_rows a.cycles [] [] vs ss y.facets grouped in
      record {
        fine = f;
        some = λ k h.
            let i : row vs ss k ≡ get_or a.cycles k [] = sym (row_at vs ss y.facets k h) ∙ ap (λ l. get_or l k []) r in
            omega (arith, ap length i, length-slice (get_or ss k 0) (get_or ss (k + 1) 0) vs (f.inn k h), cycles_wide L e G cycles starts k h);
      }

  long_points : length p ≡ length p₀
  long_points = ap length (L.points a e) ∙ length-sets p₀ 0 (floats_of a.points)

  long_cycles : length c ≡ length c₀
  long_cycles = ap length (L.cycles a e) ∙ length-sets c₀ 0 (flat a.cycles)

  long_starts : length s ≡ length s₀
  long_starts = ap length (L.starts a e) ∙ length-sets s₀ 0 (bounds 0 a.cycles)

  long_owners : length w ≡ length w₀
  long_owners = ap length (L.owners a e) ∙ length-sets w₀ 0 a.owners

  vertices_few : y.vertices ≤ room
  vertices_few = omega (arith, vertices_many L e G cycles starts, G.conforms.fit)

  facets_few : y.facets ≤ room
  facets_few = omega (arith, facets_many L e G cycles starts, G.many)

  pub front_ready : n ≤ room → Ready room y n p c s w
  front_ready h = record {
    few = omega (arith, points_many, G.few);
    points = omega (arith, points_many, few, points, long_points);
    cycles = omega (arith, vertices_few, cycles, long_cycles);
    starts = omega (arith, facets_few, starts, long_starts);
    owners = omega (arith, facets_few, owners, long_owners);
    vertices = vertices_few;
    facets = facets_few;
    cells = h;
    facetted = record {
      points = vertices_points exact e G cycles starts (omega (arith, length_floats_of a.points));
      cycles = rows_fine;
      owned = omega (arith, length-take-le y.facets w (omega (arith, facets_few, owners, long_owners)));
      cells = λ i l. subst (λ x. x < n) (sym (get_or-take y.facets w i 0 l)) (owners_cells L e G cycles starts owners i l);
    };
  }

  -- fusing them is fusing the arrangement
  pub front_fused : fuse (volume_of (take (3 * y.points) p) vs ss) (facets_of vs ss (take y.facets w) y.facets) n ≡ fuse_in a n
  front_fused =
      ap (λ l. fuse (volume_of l vs ss) (facets_of vs ss (take y.facets w) y.facets) n) points_are
      ∙ ap (λ l. fuse (volume_of (floats_of a.points) l ss) (facets_of l ss (take y.facets w) y.facets) n) (vertices_are L e G cycles starts)
      ∙ ap (λ l. fuse (volume_of (floats_of a.points) (flat a.cycles) l) (facets_of (flat a.cycles) l (take y.facets w) y.facets) n) starts_are
      ∙ ap₂ (λ l i. fuse (volume_of (floats_of a.points) (flat a.cycles) (bounds 0 a.cycles)) (facets_of (flat a.cycles) (bounds 0 a.cycles) l i) n) owners_are (facets_many L e G cycles starts)
      ∙ fuse_is a n

-- ---- the list behind a layout

-- a facet for each face
pub cycles_faces : (t : Precision) (room : ℕ) (cs : List Cell) (a : Arrangement) → arrange_cells t room cs ≡ Ok a → All Sound cs → length a.cycles ≡ length (faces_of cs)
unfolding arrange_cells
cycles_faces t room cs a e h =
    let x = then_ok (arrange t room (faces_of cs)) _ a e in
    let g : x.0.faces ≡ a.cycles = ap (λ q. q.cycles) (same_ok x.2) in
    ap length (sym g) ∙ (arranged t room (faces_of cs) x.0 x.1 (faces_wide cs h)).1

-- a merged vertex is a corner of a face
pub points_corners : (t : Precision) (room : ℕ) (cs : List Cell) (a : Arrangement) → arrange_cells t room cs ≡ Ok a → length a.points ≤ corners 0 (faces_of cs)
unfolding arrange_cells arrange
points_corners t room cs a e =
    let x = then_ok (arrange t room (faces_of cs)) _ a e in
    let u = then_ok (merge t (faces_of cs)) _ x.0 x.1 in
    let v = then_ok (conform_all t room u.0.points u.0.faces) (λ fs. Ok (record { points = u.0.points; faces = fs })) x.0 u.2 in
    let g : u.0.points ≡ x.0.points = ap (λ q. q.points) (same_ok v.2) in
    let h : x.0.points ≡ a.points = ap (λ q. q.points) (same_ok x.2) in
    omega (arith, merge_most t (faces_of cs) u.0 u.1, ap length g, ap length h)

module _ {room : ℕ} {k : Stack} {d : List Float} {n z : List ℕ} (H : Holds room k d n z) where
  list_fine : (cs : List Cell) → list_at k d n z ≡ Ok cs → k.verdict ≡ Ok tt
  unfolding stack_of
  list_fine cs e = ap (λ x. x.verdict) (H.is ∙ ap stack_of e)

  pub list_cells : (cs : List Cell) → list_at k d n z ≡ Ok cs → k.cells ≡ length cs
  unfolding stack_of
  list_cells cs e = ap (λ x. x.cells) (H.is ∙ ap stack_of e)

  -- the faces of the cells, one behind another
  pub list_faces : (cs : List Cell) → list_at k d n z ≡ Ok cs → Facing room k.faces d n × (cell_at d 0 (counts_at n 0 k.faces) ≡ faces_of cs)
  list_faces cs e =
      let S' = list_stands H (list_fine cs e) in
      (faces_facing S', faces_read S' ∙ ap faces_of (same_ok (sym (list_heard k d n z (list_fine cs e)) ∙ e)))

  pub list_corners : (cs : List Cell) → list_at k d n z ≡ Ok cs → corners 0 (faces_of cs) ≤ room
  list_corners cs e = let q = list_faces cs e in omega (arith, q.0.fit, ap (corners 0) q.1)

  list_few : k.cells ≤ room
  list_few = let q = numbers room (list_at k d n z) k d n z H in omega (arith, q.fit, q.wide, q.some)

  module _ (t : Precision) where
    both_stop : (o : Outcome (List Cell)) (x : Refusal) → then o (arrange_cells t room) ≡ Err x → then o (bodies_of t room) ≡ Err x
    unfolding bodies_of
    both_stop (Ok cs) x e = stop (arrange_cells t room cs) (λ a. fuse_in a (length cs)) x e
    both_stop (Err r) x e = let u : r ≡ x = cc in ap Err u

    stopped_by : (o : Outcome Arrangement) (x : Refusal) → then (list_at k d n z) (arrange_cells t room) ≡ o → Err x ≡ laid_of o → then (list_at k d n z) (bodies_of t room) ≡ Err x
    unfolding laid_of
    stopped_by (Ok a) x e l = never_ok l
    stopped_by (Err y) x e l = let u : y ≡ x = cc in both_stop (list_at k d n z) x (e ∙ ap Err u)

  module _ (t : Precision) {p₀ : List Float} {c₀ s₀ w₀ : List ℕ} {p : List Float} {c s w : List ℕ} {v : Outcome Layout} (L : Laid (then (list_at k d n z) (arrange_cells t room)) p₀ c₀ s₀ w₀ p c s w v)
      (points : 3 * room ≤ length p₀) (cycles : room ≤ length c₀) (starts : room < length s₀) (owners : room ≤ length w₀) where
    pub facets_of_lem : (a : Arrangement) (cs : List Cell) → list_at k d n z ≡ Ok cs → arrange_cells t room cs ≡ Ok a → Facets a room k.cells
    facets_of_lem a cs e g = subst (Facets a room) (sym (list_cells cs e)) (arrangement_facets t room cs a g (H.lies cs e).sound)

    -- a refusal of the layout is the list's
    pub list_stopped : (x : Refusal) → v ≡ Err x → then (list_at k d n z) (bodies_of t room) ≡ Err x
    list_stopped x e = stopped_by t (then (list_at k d n z) (arrange_cells t room)) x refl (sym e ∙ L.is)

    module _ (y : Layout) (made : v ≡ Ok y) where
      laid : Laid (then (list_at k d n z) (arrange_cells t room)) p₀ c₀ s₀ w₀ p c s w (Ok y)
      laid = subst (Laid (then (list_at k d n z) (arrange_cells t room)) p₀ c₀ s₀ w₀ p c s w) made L

      ready_by : (o : Outcome Arrangement) → then (list_at k d n z) (arrange_cells t room) ≡ o → Ok y ≡ laid_of o → Ready room y k.cells p c s w
      unfolding laid_of
      ready_by (Ok a) e l =
          let x = then_ok (list_at k d n z) (arrange_cells t room) a e in
          front_ready laid e (facets_of_lem a x.0 x.1 x.2) (omega (arith, points_corners t room x.0 a x.2, list_corners x.0 x.1)) points cycles starts owners list_few
      ready_by (Err x) e l = never_ok (sym l)

      -- what a layout tells can be fused
      pub list_ready : Ready room y k.cells p c s w
      list_ready = ready_by (then (list_at k d n z) (arrange_cells t room)) refl laid.is

      tells_by : (o : Outcome Arrangement) → then (list_at k d n z) (arrange_cells t room) ≡ o → Ok y ≡ laid_of o → fuse_at y k.cells p c s w ≡ then (list_at k d n z) (bodies_of t room)
      unfolding laid_of fuse_at bodies_of
      tells_by (Ok a) e l =
          let x = then_ok (list_at k d n z) (arrange_cells t room) a e in
          front_fused laid e (facets_of_lem a x.0 x.1 x.2) (omega (arith, points_corners t room x.0 a x.2, list_corners x.0 x.1)) points cycles starts owners
          ∙ ap (fuse_in a) (list_cells x.0 x.1)
          ∙ sym (go (list_at k d n z) (bodies_of t room) x.0 x.1 ∙ go (arrange_cells t room x.0) (λ b. fuse_in b (length x.0)) a x.2)
      tells_by (Err x) e l = never_ok (sym l)

      -- its bodies are the list's
      pub list_tells : fuse_at y k.cells p c s w ≡ then (list_at k d n z) (bodies_of t room)
      list_tells = tells_by (then (list_at k d n z) (arrange_cells t room)) refl laid.is

      module _ {x₀ z₀ b₀ x q b : List ℕ} (o : Outcome Fused) (h : A.Laid (fuse_at y k.cells p c s w) x₀ z₀ b₀ x q b o) where
        told_by : (r : Outcome Listing) → r ≡ then o (λ g. Ok (record { layout = y; fused = g })) → Told t room (list_at k d n z) p₀ c₀ s₀ w₀ x₀ z₀ b₀ p c s w x q b r
        told_by r e = record { layout = v; bodies = o; arranged = L; fused = subst (λ u. A.Laid u x₀ z₀ b₀ x q b o) list_tells h; is = e ∙ sym (go v (λ y. then o (λ g. Ok (record { layout = y; fused = g }))) y made) }

        pub list_told : (g : Fused) → o ≡ Ok g → Told t room (list_at k d n z) p₀ c₀ s₀ w₀ x₀ z₀ b₀ p c s w x q b (Ok (record { layout = y; fused = g }))
        list_told g e = told_by (Ok (record { layout = y; fused = g })) (sym (go o (λ g. Ok (record { layout = y; fused = g })) g e))

        pub list_unfused : (x' : Refusal) (r : Outcome Listing) → o ≡ Err x' → r ≡ Err x' → Told t room (list_at k d n z) p₀ c₀ s₀ w₀ x₀ z₀ b₀ p c s w x q b r
        list_unfused x' r e g = told_by r (g ∙ sym (stop o (λ g. Ok (record { layout = y; fused = g })) x' e))

    pub list_refused : {x₀ z₀ b₀ x q b : List ℕ} (e : Refusal) (r : Outcome Listing) → v ≡ Err e → r ≡ Err e → Told t room (list_at k d n z) p₀ c₀ s₀ w₀ x₀ z₀ b₀ p c s w x q b r
    unfolding A.Laid
    list_refused {x₀} {z₀} {b₀} {x} {q} {b} e r m g = record {
      layout = v;
      bodies = Err e;
      arranged = L;
      fused = subst (λ u. A.Laid u x₀ z₀ b₀ x q b (Err e)) (sym (list_stopped e m)) refl;
      is = g ∙ sym (stop v (λ y. then (Err e) (λ g. Ok (record { layout = y; fused = g }))) e m);
    }

  module _ (t : Precision) {p₀ : List Float} {c₀ s₀ w₀ x₀ z₀ b₀ : List ℕ} {p : List Float} {c s w x q b : List ℕ} (r : Outcome Listing) (T : Told t room (list_at k d n z) p₀ c₀ s₀ w₀ x₀ z₀ b₀ p c s w x q b r) where
    bodies_by : (o : Outcome Bodies) (e : Refusal) → A.Laid o x₀ z₀ b₀ x q b (Err e) → o ≡ Err e
    unfolding A.Laid
    bodies_by (Ok bs) e l = never_ok l.0
    bodies_by (Err y) e l = let u : y ≡ e = cc in ap Err u

    told_stopped : (v : Outcome Layout) (g : Outcome Fused) (e : Refusal) → Laid (then (list_at k d n z) (arrange_cells t room)) p₀ c₀ s₀ w₀ p c s w v → A.Laid (then (list_at k d n z) (bodies_of t room)) x₀ z₀ b₀ x q b g →
        ◌≡◌ {A = Outcome Listing} (Err e) (then v (λ y. then g (λ f. Ok (record { layout = y; fused = f })))) → then (list_at k d n z) (bodies_of t room) ≡ Err e
    told_stopped (Err y) g e L B h = stopped_by t (then (list_at k d n z) (arrange_cells t room)) e refl (let u : e ≡ y = cc in ap Err u ∙ L.is)
    told_stopped (Ok y) (Err f) e L B h = bodies_by (then (list_at k d n z) (bodies_of t room)) e (subst (λ f. A.Laid (then (list_at k d n z) (bodies_of t room)) x₀ z₀ b₀ x q b (Err f)) (let u : f ≡ e = cc in u) B)
    told_stopped (Ok y) (Ok f) e L B h = never_ok h

    -- a refusal of the answer is the list's
    pub told_refused : (e : Refusal) → r ≡ Err e → then (list_at k d n z) (bodies_of t room) ≡ Err e
    told_refused e m = told_stopped T.layout T.bodies e T.arranged T.fused (sym m ∙ T.is)
