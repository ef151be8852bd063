-- Laws of a cut under way, in the words of the code.
use Rattle.std.specs.Prelude.{◌≡◌, Bool, false, List, [], ◌∷◌, ◌++◌, ℕ, ◌+◌, ◌*◌, ◌≤◌, ◌<◌, length, drop, get_or, ltb, Float, Ok, Err, Some, None}
use Rattle.std.proofs.Math.Path.{refl, subst}
use Rattle.std.proofs.Common.{sym, ap, ◌∙◌, arith}
use Rattle.std.proofs.Math.Bool.{true}
use Rattle.std.proofs.lemmas.List.Edits.{sets}
use Rattle.refusal.specs.declared.Refusal.{Refusal}
use Rattle.std.specs.Result.{IfOk}
use Rattle.refusal.specs.Outcome.{Outcome, then, walk}
use Rattle.refusal.specs.Laws.{same_ok, never_ok, walk_go, walk_stop, walk_end}
use Rattle.space.specs.declared.Point3.{Point3}
use Rattle.space.specs.declared.Plane.{Plane}
use Rattle.space.specs.declared.Precision.{Precision}
use Rattle.space.specs.Shapes.{Face, Cell, Part, nothing, part, corners}
use Rattle.polygon.specs.declared.Polygon.{Polygon}
use Rattle.polygon.specs.Polygons.{corners_of, polygon, made}
use Rattle.polygon.specs.Memory.{points_at}
use Rattle.polygon.specs.Unique.{unique}
use Rattle.polygon.specs.Laws.{corners_polygon}
use Rattle.edge.specs.declared.Seen.{Seen}
use Rattle.edge.specs.Meets.{unseen}
use Rattle.ring.specs.declared.Ringed.{Ringed}
use Rattle.ring.specs.Rings.{sign_one, Ring, cut_ring, ring_of, Bounded, Rung}
use Rattle.polygon.specs.Members.{All}
use Rattle.room.specs.Rooms.{plane_at, cell_floats, cell_counts, face_at, cell_at, counts_at, Within}
use Rattle.room.specs.Steps.{onward, onward_next, onward_end, then_then}
use Rattle.cell.specs.declared.Kept.{Kept}
use Rattle.cell.specs.Cells.{add_face, keep_face, left_cell, Stored, Turned}
use Rattle.cell.specs.Laws.{Ahead, ahead_next, ahead_face, ahead_done}
use Rattle.hull.specs.Hull.{cap_of}
use Rattle.clip.specs.declared.Going.{Going}
use Rattle.clip.specs.Cuts.{sign_face, signs_of, Cutting, joined, cut_face, closed, cut_faces, cut_cell, as_part, clip_by, clip}
use Rattle.clip.specs.Clips.{Clipped, Held, Space, Few, Cutter, Closer, Gone, Given, told, answered, Sized, Clips}

-- ---- the sides of a cell's corners

pub record Signed (t : Precision) (w : Plane) (src : List Float) (from : ℕ) (ns : List ℕ) (j faces : ℕ) (s : Seen) (o i : ℕ) : Type 0 where
  pub ahead : Ahead src ns j faces o i
  pub rest : walk (sign_face t w) s (cell_at src o (drop i (counts_at ns j faces))) ≡ signs_of t w (cell_at src from (counts_at ns j faces))

pub signed_start : (t : Precision) (w : Plane) (src : List Float) (from : ℕ) (ns : List ℕ) (j faces : ℕ) (s : Seen) → Within (counts_at ns j faces) from (length src) →
    s ≡ unseen → Signed t w src from ns j faces s from 0
unfolding signs_of
signed_start t w src from ns j faces s h e = record {
  ahead = record { upto = omega arith; within = h };
  rest = ap (λ x. walk (sign_face t w) x (cell_at src from (counts_at ns j faces))) e;
}

module _ (t : Precision) (w : Plane) (src : List Float) (from : ℕ) (ns : List ℕ) (j faces : ℕ) (s : Seen) (o i : ℕ) (x : Outcome Seen) (listed : j + faces ≤ length ns) (h : i < faces)
    (e : x ≡ walk (sign_one t w) s (points_at src (o + 13) (get_or ns (j + i) 0))) (c : Signed t w src from ns j faces s o i) where
  abbrev others : Cell
  others = cell_at src (o + 13 + 3 * get_or ns (j + i) 0) (drop (i + 1) (counts_at ns j faces))

  signed_one : sign_face t w s (face_at src o (get_or ns (j + i) 0)) ≡ x
  unfolding sign_face
  signed_one = sym e

  signed_onward : walk (sign_face t w) s (face_at src o (get_or ns (j + i) 0) ∷ others) ≡ signs_of t w (cell_at src from (counts_at ns j faces))
  signed_onward = ap (walk (sign_face t w) s) (sym (ahead_face src ns j faces o i listed h c.ahead)) ∙ c.rest

  pub signed_step : (r : Seen) → x ≡ Ok r → Signed t w src from ns j faces r (o + 13 + 3 * get_or ns (j + i) 0) (i + 1)
  signed_step r y = record {
    ahead = ahead_next src ns j faces o i listed h c.ahead;
    rest = sym (walk_go (sign_face t w) s (face_at src o (get_or ns (j + i) 0)) others r (signed_one ∙ y)) ∙ signed_onward;
  }

  -- a refusal ends the loop
  pub signed_stop : (r : Refusal) → x ≡ Err r → Err r ≡ signs_of t w (cell_at src from (counts_at ns j faces))
  signed_stop r y = sym (walk_stop (sign_face t w) s (face_at src o (get_or ns (j + i) 0)) others r (signed_one ∙ y)) ∙ signed_onward

pub signed_end : (t : Precision) (w : Plane) (src : List Float) (from : ℕ) (ns : List ℕ) (j faces : ℕ) (s : Seen) (o i : ℕ) → faces ≤ i →
    Signed t w src from ns j faces s o i → Ok s ≡ signs_of t w (cell_at src from (counts_at ns j faces))
signed_end t w src from ns j faces s o i h c =
    sym (walk_end (sign_face t w) s) ∙ ap (walk (sign_face t w) s) (sym (ahead_done src ns j faces o i h)) ∙ c.rest

-- ---- one face

at_held : {B : Type 0} (f : Cutting → Outcome B) (c : Cutting) (o : Outcome Cutting) → Ok c ≡ o → then o f ≡ f c
at_held f c o w = ap (λ x. then x f) (sym w)

-- a polygon that was made has the corners of its outcome
made_ok : (o : Outcome (List Point3)) (u : Polygon) → Ok u ≡ made o → o ≡ Ok (corners_of u)
unfolding made
made_ok (Ok l) u e = ap Ok (sym (ap corners_of (same_ok e) ∙ corners_polygon l))
made_ok (Err r) u e = never_ok (sym e)

made_err : (o : Outcome (List Point3)) (r : Refusal) → Err r ≡ made o → o ≡ Err r
unfolding made
made_err (Ok l) r e = never_ok e
made_err (Err x) r e = let z : x ≡ r = cc in ap {B = Outcome (List Point3)} Err z

module _ (t : Precision) (room at k : ℕ) (w : Plane) (f : Face) (s : Going) (cap d : List Float) (n : List ℕ) (cap' face' : List Float) (z : Outcome Ringed)
    (ring : Rung (cut_ring t w (points_at cap 0 s.caps) f.points) z face' cap') where
  -- what the ring's refusal gives
  pub cutter_refused : (r : Refusal) (y : Outcome Going) → z ≡ Err r → y ≡ Err r → Cutter room at k (λ x. cut_face t room w x f) s y cap d n cap' d n
  unfolding ring_of cut_face
  cutter_refused r y q ey = subst (λ v. Cutter room at k (λ x. cut_face t room w x f) s v cap d n cap' d n) (sym ey) (record {
    on = λ d₀ n₀ o x.
        let a : cut_ring t w (points_at cap 0 s.caps) f.points ≡ Err r = sym ring.is ∙ ap (λ v. ring_of v face' cap') q in
        record {
          cell = x.cell;
          is = ap (λ v. then v (joined t room x.cell f.plane)) (sym a)
              ∙ sym (at_held (λ v. cut_face t room w v f) (record { cell = x.cell; cap = points_at cap 0 s.caps }) o x.is);
          floats = x.floats;
          counts = x.counts;
          sized = tt;
          small = x.small;
          most = x.most;
        };
    few = tt;
  })

  module _ (g : Ringed) (q : z ≡ Ok g) where
    ring_is : cut_ring t w (points_at cap 0 s.caps) f.points ≡ Ok (record { face = points_at face' 0 g.corners; cap = points_at cap' 0 g.caps })
    unfolding ring_of
    ring_is = sym ring.is ∙ ap (λ v. ring_of v face' cap') q

    -- what a refusal to make the polygon gives
    pub cutter_unmade : (u : Outcome Polygon) (r : Refusal) (y : Outcome Going) → u ≡ made (unique t (points_at face' 0 g.corners)) → u ≡ Err r → y ≡ Err r →
        Cutter room at k (λ x. cut_face t room w x f) s y cap d n cap' d n
    unfolding cut_face joined
    cutter_unmade u r y eu er ey = subst (λ v. Cutter room at k (λ x. cut_face t room w x f) s v cap d n cap' d n) (sym ey) (record {
      on = λ d₀ n₀ o x.
          let m : unique t (points_at face' 0 g.corners) ≡ Err r = made_err (unique t (points_at face' 0 g.corners)) r (sym er ∙ eu) in
          record {
            cell = x.cell;
            is = ap (λ i. then i (λ l. then (keep_face (ltb (length l) 3) room x.cell (record { plane = f.plane; points = l })) (λ c'. Ok (record { cell = c'; cap = points_at cap' 0 g.caps })))) (sym m)
                ∙ ap (λ i. then i (joined t room x.cell f.plane)) (sym ring_is)
                ∙ sym (at_held (λ i. cut_face t room w i f) (record { cell = x.cell; cap = points_at cap 0 s.caps }) o x.is);
            floats = x.floats;
            counts = x.counts;
            sized = tt;
            small = x.small;
            most = x.most;
          };
      few = tt;
    })

    -- a face that was kept, or the refusal to
    abbrev going : Outcome Kept → Outcome Going
    going r = then r (λ x. Ok (record { faces = x.faces; corners = x.corners; caps = g.caps }))

    going_is : (r : Outcome Kept) (c : Cell) → then {B = Cutting} (going r) (λ x. Ok (record { cell = c; cap = points_at cap' 0 x.caps })) ≡ then {B = Cutting} (then r (λ x. Ok c)) (λ x. Ok (record { cell = x; cap = points_at cap' 0 g.caps }))
    going_is (Ok x) c = refl
    going_is (Err e) c = refl

    going_sized : (r : Outcome Kept) (c : Cell) → IfOk r (λ x. (x.faces ≡ length c) × (x.corners ≡ corners 0 c)) → IfOk (going r) (λ x. (x.faces ≡ length c) × (x.corners ≡ corners 0 c))
    going_sized (Ok x) c h = h
    going_sized (Err e) c h = tt

    going_few : (r : Outcome Kept) → IfOk r (λ x. x.faces ≤ 128) → IfOk r (λ x. x.corners ≤ room) → g.caps ≤ 1024 → IfOk (going r) (Few room)
    going_few (Ok x) a b c = record { few = a; fit = b; few_caps = c }
    going_few (Err e) a b c = tt

    module _ (d' : List Float) (n' : List ℕ) (u : Polygon) (v : Plane) (r : Outcome Kept) (ev : v ≡ f.plane) (eu : Ok u ≡ made (unique t (points_at face' 0 g.corners)))
        (turned : Turned room at k (λ c. keep_face (ltb (length (corners_of u)) 3) room c (record { plane = v; points = corners_of u })) (Ok (record { faces = s.faces; corners = s.corners })) r d n d' n') where
      cutter_done : Cutter room at k (λ x. cut_face t room w x f) s (going r) cap d n cap' d' n'
      unfolding cut_face joined
      cutter_done = record {
        on = λ d₀ n₀ o x.
            let l = points_at face' 0 g.corners in
            let y = turned.on d₀ n₀ (Ok x.cell) (record { cell = x.cell; is = refl; floats = x.floats; counts = x.counts; sized = x.sized; small = x.small; most = x.most }) in
            let m : then r (λ i. Ok y.cell) ≡ then (unique t (points_at face' 0 g.corners)) (λ i. keep_face (ltb (length i) 3) room x.cell (record { plane = f.plane; points = i })) =
            y.is ∙ ap (λ i. then i (λ j. keep_face (ltb (length j) 3) room x.cell (record { plane = v; points = j }))) (sym (made_ok (unique t l) u eu))
            ∙ ap (λ i. then (unique t l) (λ j. keep_face (ltb (length j) 3) room x.cell (record { plane = i; points = j }))) ev in
            record {
              cell = y.cell;
              is = going_is r y.cell
                  ∙ ap (λ i. then i (λ c. Ok (record { cell = c; cap = points_at cap' 0 g.caps }))) m
                  ∙ then_then (unique t l) (λ i. keep_face (ltb (length i) 3) room x.cell (record { plane = f.plane; points = i })) (λ c. Ok (record { cell = c; cap = points_at cap' 0 g.caps }))
                  ∙ ap (λ i. then i (joined t room x.cell f.plane)) (sym ring_is)
                  ∙ sym (at_held (λ i. cut_face t room w i f) (record { cell = x.cell; cap = points_at cap 0 s.caps }) o x.is);
              floats = y.floats;
              counts = y.counts;
              sized = going_sized r y.cell y.sized;
              small = y.small;
              most = y.most;
            };
        few = going_few r turned.few turned.fit (subst Bounded q ring.few).1;
      }

      pub cutter_kept : (x : Kept) → r ≡ Ok x → Cutter room at k (λ y. cut_face t room w y f) s (Ok (record { faces = x.faces; corners = x.corners; caps = g.caps })) cap d n cap' d' n'
      cutter_kept x e = subst (λ y. Cutter room at k (λ i. cut_face t room w i f) s (going y) cap d n cap' d' n') e cutter_done

      pub cutter_full : (e : Refusal) (y : Outcome Going) → r ≡ Err e → y ≡ Err e → Cutter room at k (λ i. cut_face t room w i f) s y cap d n cap' d' n'
      cutter_full e y er ey = subst (λ i. Cutter room at k (λ j. cut_face t room w j f) s i cap d n cap' d' n') (ap going er ∙ sym ey) cutter_done

-- a polygon that was made has as many corners as it says
pub made_drawn : (o : Outcome (List Point3)) (u : Polygon) → Ok u ≡ made o → u.n ≡ length (corners_of u)
unfolding made
made_drawn (Ok l) u e = ap (λ x. x.n) (same_ok e) ∙ sym (ap length (ap corners_of (same_ok e) ∙ corners_polygon l))
made_drawn (Err r) u e = never_ok (sym e)

-- ---- all faces

pub record Cutting_on (t : Precision) (room : ℕ) (w : Plane) (src : List Float) (from : ℕ) (ns : List ℕ) (j faces : ℕ) (face₀ cap₀ d₀ : List Float) (at : ℕ) (n₀ : List ℕ) (k : ℕ) (s : Going) (face cap d : List Float) (n : List ℕ) (o i : ℕ) : Type 0 where
  pub ahead : Ahead src ns j faces o i
  pub few : Few room s
  pub face_size : length face ≡ length face₀
  pub cap_size : length cap ≡ length cap₀
  pub size : length d ≡ length d₀
  pub slots : length n ≡ length n₀
  pub out : Outcome Cutting
  pub held : Held d₀ at n₀ k out (Ok s) cap d n
  pub rest : onward (cut_face t room w) out (cell_at src o (drop i (counts_at ns j faces))) ≡ cut_faces t room w (cell_at src from (counts_at ns j faces))

pub cutting_start : (t : Precision) (room : ℕ) (w : Plane) (src : List Float) (from : ℕ) (ns : List ℕ) (j faces : ℕ) (face cap d : List Float) (at : ℕ) (n : List ℕ) (k : ℕ) → Within (counts_at ns j faces) from (length src) →
    Cutting_on t room w src from ns j faces face cap d at n k (record { faces = 0; corners = 0; caps = 0 }) face cap d n from 0
unfolding cut_faces cell_floats cell_counts corners All points_at
cutting_start t room w src from ns j faces face cap d at n k h = record {
  ahead = record { upto = omega arith; within = h };
  few = record { few = omega arith; fit = omega arith; few_caps = omega arith };
  face_size = refl;
  cap_size = refl;
  size = refl;
  slots = refl;
  out = Ok (record { cell = []; cap = [] });
  held = record { cell = []; is = refl; floats = refl; counts = refl; sized = (refl, refl); small = tt; most = omega arith };
  rest = refl;
}

module _ (t : Precision) (room : ℕ) (w : Plane) (src : List Float) (from : ℕ) (ns : List ℕ) (j faces : ℕ) (face₀ cap₀ d₀ : List Float) (at : ℕ) (n₀ : List ℕ) (k : ℕ) (s : Going) (q : Outcome Going) (face cap d : List Float) (n : List ℕ) (face' cap' d' : List Float) (n' : List ℕ) (o i : ℕ)
    (listed : j + faces ≤ length ns) (h : i < faces)
    (g : Cutter room at k (λ x. cut_face t room w x (face_at src o (get_or ns (j + i) 0))) s q cap d n cap' d' n')
    (c : Cutting_on t room w src from ns j faces face₀ cap₀ d₀ at n₀ k s face cap d n o i) where
  abbrev cut : Outcome Cutting
  cut = then c.out (λ y. cut_face t room w y (face_at src o (get_or ns (j + i) 0)))

  abbrev uncut : Cell
  uncut = cell_at src (o + 13 + 3 * get_or ns (j + i) 0) (drop (i + 1) (counts_at ns j faces))

  cutting_onward : onward (cut_face t room w) cut uncut ≡ cut_faces t room w (cell_at src from (counts_at ns j faces))
  cutting_onward = onward_next (cut_face t room w) c.out (face_at src o (get_or ns (j + i) 0)) uncut ∙ ap (onward (cut_face t room w) c.out) (sym (ahead_face src ns j faces o i listed h c.ahead)) ∙ c.rest

  pub cutting_step : (r : Going) → q ≡ Ok r → length face' ≡ length face → length cap' ≡ length cap → length d' ≡ length d → length n' ≡ length n →
      Cutting_on t room w src from ns j faces face₀ cap₀ d₀ at n₀ k r face' cap' d' n' (o + 13 + 3 * get_or ns (j + i) 0) (i + 1)
  cutting_step r e lf lc ld ln =
      let u = subst (λ x. Cutter room at k (λ y. cut_face t room w y (face_at src o (get_or ns (j + i) 0))) s x cap d n cap' d' n') e g in
      record {
        ahead = ahead_next src ns j faces o i listed h c.ahead;
        few = u.few;
        face_size = lf ∙ c.face_size;
        cap_size = lc ∙ c.cap_size;
        size = ld ∙ c.size;
        slots = ln ∙ c.slots;
        out = cut;
        held = u.on d₀ n₀ c.out c.held;
        rest = cutting_onward;
      }

  -- a refusal ends the loop
  pub cutting_stop : (x : Refusal) (r : Outcome Going) → q ≡ Err x → r ≡ Err x → Gone room d₀ at n₀ k (cut_faces t room w (cell_at src from (counts_at ns j faces))) r cap' d' n'
  cutting_stop x r e er =
      let S = g.on d₀ n₀ c.out c.held in
      let z : cut ≡ Err x = sym S.is ∙ ap (λ y. then y (λ v. Ok (record { cell = S.cell; cap = points_at cap' 0 v.caps }))) e in
      record {
        held = subst (λ y. Held d₀ at n₀ k y r cap' d' n') (z ∙ ap (λ y. onward (cut_face t room w) y uncut) (sym z) ∙ cutting_onward)
            (subst (λ y. Held d₀ at n₀ k cut y cap' d' n') (e ∙ sym er) S);
        few = subst (λ y. IfOk y (Few room)) (sym er) tt;
      }

pub cutting_end : (t : Precision) (room : ℕ) (w : Plane) (src : List Float) (from : ℕ) (ns : List ℕ) (j faces : ℕ) (face₀ cap₀ d₀ : List Float) (at : ℕ) (n₀ : List ℕ) (k : ℕ) (s : Going) (face cap d : List Float) (n : List ℕ) (o i : ℕ) → faces ≤ i →
    Cutting_on t room w src from ns j faces face₀ cap₀ d₀ at n₀ k s face cap d n o i → Gone room d₀ at n₀ k (cut_faces t room w (cell_at src from (counts_at ns j faces))) (Ok s) cap d n
cutting_end t room w src from ns j faces face₀ cap₀ d₀ at n₀ k s face cap d n o i h c = record {
  held = subst (λ x. Held d₀ at n₀ k x (Ok s) cap d n)
      (sym (onward_end (cut_face t room w) c.out) ∙ ap (onward (cut_face t room w) c.out) (sym (ahead_done src ns j faces o i h)) ∙ c.rest) c.held;
  few = c.few;
}

-- ---- the cap

pub closer_unmade : (t : Precision) (room at k : ℕ) (w : Plane) (s : Going) (cap d : List Float) (n : List ℕ) (u : Outcome Polygon) (r : Refusal) (y : Outcome Kept) →
    u ≡ made (cap_of t w (points_at cap 0 s.caps)) → u ≡ Err r → y ≡ Err r →
    Closer at k (closed t room w) s y cap d n d n
unfolding closed
closer_unmade t room at k w s cap d n u r y eu er ey = subst (λ v. Closer at k (closed t room w) s v cap d n d n) (sym ey) (record {
  on = λ d₀ n₀ o x.
      record {
        cell = x.cell;
        is = ap (λ i. then i (λ j. add_face room x.cell (record { plane = w; points = j }))) (sym (made_err (cap_of t w (points_at cap 0 s.caps)) r (sym er ∙ eu)))
            ∙ sym (at_held (closed t room w) (record { cell = x.cell; cap = points_at cap 0 s.caps }) o x.is);
        floats = x.floats;
        counts = x.counts;
        sized = tt;
        small = x.small;
        most = x.most;
      };
})

pub closer_added : (t : Precision) (room at k : ℕ) (w : Plane) (s : Going) (r : Outcome Kept) (cap d : List Float) (n : List ℕ) (d' : List Float) (n' : List ℕ) (u : Polygon) →
    Ok u ≡ made (cap_of t w (points_at cap 0 s.caps)) →
    Turned room at k (λ c. add_face room c (record { plane = w; points = corners_of u })) (Ok (record { faces = s.faces; corners = s.corners })) r d n d' n' →
    Closer at k (closed t room w) s r cap d n d' n'
unfolding closed
closer_added t room at k w s r cap d n d' n' u eu turned = record {
  on = λ d₀ n₀ o x.
      let l = points_at cap 0 s.caps in
      let y = turned.on d₀ n₀ (Ok x.cell) (record { cell = x.cell; is = refl; floats = x.floats; counts = x.counts; sized = x.sized; small = x.small; most = x.most }) in
      record {
        cell = y.cell;
        is = y.is ∙ ap (λ i. then i (λ j. add_face room x.cell (record { plane = w; points = j }))) (sym (made_ok (cap_of t w l) u eu))
            ∙ sym (at_held (closed t room w) (record { cell = x.cell; cap = points_at cap 0 s.caps }) o x.is);
        floats = y.floats;
        counts = y.counts;
        sized = y.sized;
        small = y.small;
        most = y.most;
      };
}

-- ---- the answer

told_answered : (v : Outcome Kept) (c : Cell) → told (answered v) c ≡ then (then v (λ x. Ok c)) as_part
unfolding told answered
told_answered (Ok x) c = refl
told_answered (Err r) c = refl

sized_answered : (v : Outcome Kept) (c : Cell) → IfOk v (λ x. (x.faces ≡ length c) × (x.corners ≡ corners 0 c)) → Sized (answered v) c
unfolding Sized answered
sized_answered (Ok x) c a = a
sized_answered (Err r) c a = tt

pub part_clips : (o : Outcome Cell) (r : Outcome Kept) (a : Outcome Clipped) (d : List Float) (at : ℕ) (n : List ℕ) (k : ℕ) (d' : List Float) (n' : List ℕ) → Stored d at n k o r d' n' → a ≡ answered r → Clips (then o as_part) a d at n k d' n'
part_clips o r a d at n k d' n' s e = record {
  cell = s.cell;
  is = ap (λ x. told x s.cell) e ∙ told_answered r s.cell ∙ ap (λ x. then x as_part) s.is;
  floats = s.floats;
  counts = s.counts;
  sized = subst (λ x. Sized x s.cell) (sym e) (sized_answered r s.cell s.sized);
  small = s.small;
}

module _ (t : Precision) (room : ℕ) (w : Plane) (c : Cell) (d : List Float) (at : ℕ) (n : List ℕ) (k : ℕ) (z : Outcome Going) (r : Outcome Kept) (cap d' : List Float) (n' : List ℕ)
    (g : Gone room d at n k (cut_faces t room w c) z cap d' n') where
  pub cell_cut : (s : Going) (d'' : List Float) (n'' : List ℕ) → z ≡ Ok s → Closer at k (closed t room w) s r cap d' n' d'' n'' → Stored d at n k (cut_cell t room w c) r d'' n''
  unfolding cut_cell
  cell_cut s d'' n'' e h = h.on d n (cut_faces t room w c) (subst (λ x. Held d at n k (cut_faces t room w c) x cap d' n') e g.held)

  pub cell_uncut : (x : Refusal) → z ≡ Err x → r ≡ Err x → Stored d at n k (cut_cell t room w c) r d' n'
  unfolding cut_cell
  cell_uncut x e er =
      let H = g.held in
      let q : cut_faces t room w c ≡ Err x = sym H.is ∙ ap (λ y. then y (λ v. Ok (record { cell = H.cell; cap = points_at cap 0 v.caps }))) e in
      subst (λ y. Stored d at n k (cut_cell t room w c) y d' n') (sym er) (record {
        cell = H.cell;
        is = ap (λ y. then y (closed t room w)) (sym q);
        floats = H.floats;
        counts = H.counts;
        sized = tt;
        small = H.small;
        most = H.most;
      })

-- nothing is written
none_clips : (o : Outcome Part) (a : Outcome Clipped) (d : List Float) (at : ℕ) (n : List ℕ) (k : ℕ) → told a [] ≡ o → Sized a [] → Clips o a d at n k d n
unfolding cell_floats cell_counts All
none_clips o a d at n k e s = record { cell = []; is = e; floats = refl; counts = refl; sized = s; small = tt }

module _ (t : Precision) (room : ℕ) (w : Plane) (c : Cell) (d : List Float) (at : ℕ) (n : List ℕ) (k : ℕ) where
  pub by_nothing : (negative positive : Bool) → negative ≡ false → Clips (clip_by t room w c negative positive) (Ok None) d at n k d n
  unfolding clip_by told Sized
  by_nothing negative positive e = subst (λ x. Clips (clip_by t room w c x positive) (Ok None) d at n k d n) (sym e) (none_clips (Ok nothing) (Ok None) d at n k refl refl)

  module _ (a : Outcome Clipped) (r : Outcome Kept) (d' : List Float) (n' : List ℕ) (ea : a ≡ answered r) where
    pub by_left : (negative positive : Bool) → negative ≡ true → positive ≡ false → Stored d at n k (left_cell room c) r d' n' → Clips (clip_by t room w c negative positive) a d at n k d' n'
    unfolding clip_by
    by_left negative positive e f s =
        subst (λ x. Clips (clip_by t room w c x positive) a d at n k d' n') (sym e)
        (subst (λ x. Clips (clip_by t room w c true x) a d at n k d' n') (sym f) (part_clips (left_cell room c) r a d at n k d' n' s ea))

    pub by_cut : (negative positive : Bool) → negative ≡ true → positive ≡ true → Stored d at n k (cut_cell t room w c) r d' n' → Clips (clip_by t room w c negative positive) a d at n k d' n'
    unfolding clip_by
    by_cut negative positive e f s =
        subst (λ x. Clips (clip_by t room w c x positive) a d at n k d' n') (sym e)
        (subst (λ x. Clips (clip_by t room w c true x) a d at n k d' n') (sym f) (part_clips (cut_cell t room w c) r a d at n k d' n' s ea))

  pub clip_refused : (o : Outcome Seen) (a : Outcome Clipped) (r : Refusal) → o ≡ signs_of t w c → o ≡ Err r → a ≡ Err r → Clips (clip t room w c) a d at n k d n
  unfolding clip told Sized
  clip_refused o a r e f g =
      subst (λ x. Clips (clip t room w c) x d at n k d n) (sym g)
      (none_clips (clip t room w c) (Err r) d at n k (ap (λ x. then x (λ s. clip_by t room w c s.negative s.positive)) (sym f ∙ e)) tt)

  pub clip_on : (o : Outcome Seen) (s : Seen) (a : Outcome Clipped) (d' : List Float) (n' : List ℕ) → o ≡ signs_of t w c → o ≡ Ok s → Clips (clip_by t room w c s.negative s.positive) a d at n k d' n' → Clips (clip t room w c) a d at n k d' n'
  unfolding clip
  clip_on o s a d' n' e f h = subst (λ x. Clips x a d at n k d' n') (ap (λ x. then x (λ y. clip_by t room w c y.negative y.positive)) (sym f ∙ e)) h
