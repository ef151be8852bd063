-- What `fuse_list` leaves can be written, and its bytes are those of the fused bodies.
use Rattle.std.proofs.Math.Path.{◌≡◌, refl, sym, ap, ap₂, subst}
use Rattle.std.proofs.Common.{◌∙◌, arith}
use mathlib.Core.List.{List, [], ◌∷◌, ◌++◌, map}
use Rattle.std.specs.Prelude.{ℕ, ◌+◌, ◌*◌, ◌≤◌, ◌<◌, drop, get_or, Float, Ok, Err}
use Rattle.std.proofs.Math.ListN.{length, take, length-append}
use Rattle.std.proofs.lemmas.List.{length-map}
use Rattle.std.proofs.Math.Seq.{length-take-le, take_at}
use Rattle.refusal.specs.declared.Refusal.{Refusal}
use Rattle.refusal.specs.Outcome.{Outcome, then}
use Rattle.refusal.specs.Laws.{stop, go, same_ok, never_ok, then_ok}
use Rattle.space.specs.declared.Precision.{Precision}
use Rattle.space.specs.Shapes.{Face, Cell}
use Rattle.polygon.specs.Memory.{floats_of}
use Rattle.room.specs.Rooms.{cell_at, counts_at, plane_at, Within}
use Rattle.room.specs.Laws.{length_cell_counts, all_map}
use Rattle.clip.specs.Clips.{Wide}
use Rattle.words.specs.Little.{digits}
use Rattle.writer.specs.Rows.{row}
use Rattle.answer.specs.Answers.{shell_answer}
use Rattle.stack.specs.declared.Stack.{Stack}
use Rattle.stack.specs.Stacks.{list_at, Holds}
use Rattle.stack.specs.Stacks as L
use Rattle.sums.specs.Sum.{Each}
use Rattle.sums.proofs.KeyLaws.{each_get_d}
use Rattle.groups.specs.Groups.{joined}
use Rattle.listing.specs.Appended.{appended}
use Rattle.keys.specs.Rows as K
use Rattle.bodies.specs.Fusing as F
use Rattle.bodies.specs.Fusing.{Bodies, fuse}
use Rattle.bodies.specs.ListLaws.{Valid}
use Rattle.bodies.proofs.Demand.{demand}
use Rattle.interfaces.specs.Facets.{facets_of, many_facets}
use Rattle.volume.specs.Shell as O
use Rattle.cavities.specs.Steps.{volume_of}
use Rattle.parts.specs.Cells.{valid_cells}
use Rattle.assembly.specs.Answer as A
use Rattle.assembly.specs.Answer.{shells_in}
use Rattle.fuse.specs.Theorem.{each_shells}
use Rattle.ended.specs.declared.Ended.{Ended}
use Rattle.ended.specs.Ends.{ended_of, written}
use Rattle.arrangement.specs.Arrangements as R
use Rattle.arrangement.specs.Arrangements.{faces_of, Arrangement, arrange_cells}
use Rattle.arrangement.specs.Facts.{Facets, facets_many, vertices_are}
use Rattle.fused.specs.Bodies.{no_face, fuse_in, facet_in, drawn_in, fuse_cells}
use Rattle.fused.specs.Laws.{corners_are}
use Rattle.fused_answer.specs.Fused.{facet_of, shell_bytes, shells_bytes, body_bytes}
use Rattle.fused_answer.specs.Bodies.{bodies_at, Stacked}
use Rattle.fused_answer.specs.Spots.{spot_plane, spot_stored}
use Rattle.fused_answer.specs.Lies.{laid_bodies, laid_stacked, laid_many}
use Rattle.fuse_list.specs.declared.Listing.{Listing}
use Rattle.fuse_list.specs.Lists.{bodies_of, Ready, Told}
use Rattle.fuse_list.specs.Laws.{points_are, starts_are, front_fused, points_corners, cycles_faces, list_cells, list_faces, list_corners, facets_of_lem, list_ready, told_refused}
use Rattle.fused_bytes.specs.Size.{cells_short}
use Rattle.fused_bytes.specs.Bytes.{shells_answer, body_answer, fused_answer, answer_of, spots_at, printed, print_at, Printable}

-- ---- lists of lists

map_each : {A B : Type 0} (P : A → Type 0) (f g : A → B) (l : List A) → ((x : A) → P x → f x ≡ g x) → Each P l → map f l ≡ map g l
map_each P f g [] h e = refl
map_each P f g (x ∷ l) h e = ap₂ (λ a b. a ∷ b) (h x e.0) (map_each P f g l h e.1)

-- ---- the bytes of facets that are the same

module _ (d : List Float) (spots : List ℕ) (ps : List Float) (v starts : List ℕ) (f : ℕ) (g : ℕ → Face) (same : (i : ℕ) → i < f → facet_of d spots ps v starts i ≡ g i) where
  shells_same : (sense : ℕ) (gs : List (List ℕ)) → Each (Each (λ i. i < f)) gs → shells_bytes d spots ps v starts sense gs ≡ shells_answer sense (map (map g) gs)
  unfolding shells_bytes shells_answer shell_bytes
  shells_same sense [] e = refl
  shells_same sense (s ∷ gs) e = ap₂ (λ a b. shell_answer sense a ++ b) (map_each (λ i. i < f) (facet_of d spots ps v starts) g s same e.0) (shells_same 0 gs e.1)

  bodies_same : (bs : Bodies) → Each (Each (Each (λ i. i < f))) bs → row (body_bytes d spots ps v starts) bs ≡ fused_answer (map (map (map g)) bs)
  unfolding row body_bytes fused_answer body_answer
  bodies_same [] e = refl
  bodies_same (b ∷ bs) e =
      ap₂ (λ a c. a ++ c) (ap₂ (λ n l. digits 4 n ++ l) (sym (length-map b (map g))) (shells_same 1 b e.0)) (bodies_same bs e.1)

-- ---- an answer of `fuse_list`

module _ {room : ℕ} {k : Stack} {d : List Float} {n j : List ℕ} (H : Holds room k d n j) (t : Precision)
    {p₀ : List Float} {c₀ s₀ w₀ x₀ z₀ b₀ : List ℕ} {p : List Float} {c s w x z b : List ℕ} {o : Outcome Listing} (T : Told t room (list_at k d n j) p₀ c₀ s₀ w₀ x₀ z₀ b₀ p c s w x z b o)
    (points : 3 * room ≤ length p₀) (cycles : room ≤ length c₀) (starts : room < length s₀) (owners : room ≤ length w₀) where
  module _ (y : Listing) (made : o ≡ Ok y) where
    -- the layout and the bodies of the answer
    parts : (R.Laid (then (list_at k d n j) (arrange_cells t room)) p₀ c₀ s₀ w₀ p c s w (Ok y.layout)) × (A.Laid (then (list_at k d n j) (bodies_of t room)) x₀ z₀ b₀ x z b (Ok y.fused))
    parts =
        let u = then_ok T.layout (λ y. then T.bodies (λ g. Ok (record { layout = y; fused = g }))) y (sym T.is ∙ made) in
        let v = then_ok T.bodies (λ g. Ok (record { layout = u.0; fused = g })) y u.2 in
        let e : record { layout = u.0; fused = v.0 } ≡ y = same_ok v.2 in (
          subst (R.Laid (then (list_at k d n j) (arrange_cells t room)) p₀ c₀ s₀ w₀ p c s w) (u.1 ∙ ap (λ q. Ok q.layout) e) T.arranged,
          subst (A.Laid (then (list_at k d n j) (bodies_of t room)) x₀ z₀ b₀ x z b) (v.1 ∙ ap (λ q. Ok q.fused) e) T.fused,
        )

    lay : R.Laid (then (list_at k d n j) (arrange_cells t room)) p₀ c₀ s₀ w₀ p c s w (Ok y.layout)
    lay = parts.0

    fus : A.Laid (then (list_at k d n j) (bodies_of t room)) x₀ z₀ b₀ x z b (Ok y.fused)
    fus = parts.1

    abbrev ps : List Float
    ps = take (3 * y.layout.points) p

    abbrev vs : List ℕ
    vs = take y.layout.vertices c

    abbrev ss : List ℕ
    ss = take (y.layout.facets + 1) s

    abbrev f : ℕ
    f = y.layout.facets

    module _ (cs : List Cell) (a : Arrangement) (bs : Bodies) (e : list_at k d n j ≡ Ok cs) (g : arrange_cells t room cs ≡ Ok a) (h : fuse_in a (length cs) ≡ Ok bs) (l : A.Laid (Ok bs) x₀ z₀ b₀ x z b (Ok y.fused)) where
      told : then (list_at k d n j) (arrange_cells t room) ≡ Ok a
      told = go (list_at k d n j) (arrange_cells t room) cs e ∙ g

      facts : Facets a room k.cells
      facts = facets_of_lem H t lay points cycles starts owners a cs e g

      few : length a.points ≤ room
      few = omega (arith, points_corners t room cs a g, list_corners H cs e)

      ready : Ready room y.layout k.cells p c s w
      ready = list_ready H t lay points cycles starts owners y.layout refl

      abbrev fs : List F.Facet
      fs = facets_of vs ss (take f w) f

      fused : fuse (volume_of ps vs ss) fs k.cells ≡ Ok bs
      fused = front_fused lay told facts few points cycles starts owners ∙ ap (fuse_in a) (list_cells H cs e) ∙ h

      valid : Valid fs k.cells
      valid = valid_cells vs ss (take f w) f k.cells ready.facetted.cells

      inside : Each (Each (Each (λ i. i < f))) bs
      inside = subst (λ m. Each (Each (Each (λ i. i < m))) bs) (many_facets vs ss (take f w) f) (demand (volume_of ps vs ss) fs k.cells valid bs fused).inside

      -- how many there are
      facets_told : y.fused.facets ≡ length (joined (shells_in bs))
      unfolding A.Laid
      facets_told = ap (λ q. q.facets) (same_ok l.0)

      bodies_told : y.fused.bodies ≡ length bs
      unfolding A.Laid
      bodies_told = ap (λ q. q.bodies) (same_ok l.0)

      facets_long : length (joined (shells_in bs)) ≤ length x
      unfolding A.Laid appended
      facets_long = omega (arith, ap length l.1, length-append (joined (shells_in bs)) (drop (0 + length (joined (shells_in bs))) x₀))

      facets_are : take y.fused.facets x ≡ joined (shells_in bs)
      unfolding A.Laid appended
      facets_are = ap (λ i. take i x) facets_told ∙ ap (take (length (joined (shells_in bs)))) l.1 ∙ take_at (joined (shells_in bs)) (drop (0 + length (joined (shells_in bs))) x₀) (length (joined (shells_in bs))) refl

      stacked : Stacked (take y.fused.facets x) z 0 0 (counts_at b 0 y.fused.bodies)
      unfolding A.Laid
      stacked = subst (λ i. Stacked (take i x) z 0 0 (counts_at b 0 y.fused.bodies)) (sym facets_told)
          (subst (λ i. Stacked (take (length (joined (shells_in bs))) x) z 0 0 (counts_at b 0 i)) (sym bodies_told) (laid_stacked bs x₀ z₀ b₀ x z b l.1 l.2 l.3))

      printed_are : (spots : List ℕ) → printed y d n p c s x z b spots ≡ row (body_bytes d (spots_at y d n p c s x z b spots) ps vs ss) bs
      unfolding A.Laid printed
      printed_are spots = ap (row (body_bytes d (spots_at y d n p c s x z b spots) ps vs ss)) (ap₂ (λ i m. bodies_at (take i x) z 0 0 (counts_at b 0 m)) facets_told bodies_told ∙ laid_bodies bs x₀ z₀ b₀ x z b l.1 l.2 l.3)

      -- the facets are the cells' faces
      faces_told : f ≡ k.faces
      faces_told =
          let q = list_faces H cs e in
          let u : length (counts_at n 0 k.faces) ≡ k.faces = length-take-le k.faces n q.0.listed in
          omega (arith, facets_many lay told facts cycles starts, cycles_faces t room cs a g (H.lies cs e).sound, ap length q.1, length_cell_counts (cell_at d 0 (counts_at n 0 k.faces)), ap length q.0.counts, u)

      faces_listed : f ≤ length n
      faces_listed = omega (arith, faces_told, (list_faces H cs e).0.listed)

      -- a facet's plane is its face's, its corners are the points of its cycle
      facet_same : (spots : List ℕ) → room ≤ length spots → (i : ℕ) → i < f → facet_of d (spots_at y d n p c s x z b spots) ps vs ss i ≡ facet_in a (faces_of cs) i
      unfolding facet_of facet_in spots_at O.point_at
      facet_same spots q i v =
          let u : length (counts_at n 0 f) ≡ f = length-take-le f n faces_listed in
          let r : cell_at d 0 (counts_at n 0 f) ≡ faces_of cs = ap (λ m. cell_at d 0 (counts_at n 0 m)) faces_told ∙ (list_faces H cs e).1 in
          ap₂ (λ m q. record { plane = m; points = q })
          (ap (plane_at d) (spot_stored spots (counts_at n 0 f) i (omega (arith, u, ready.facets)) (omega (arith, u))) ∙ spot_plane d 0 (counts_at n 0 f) i no_face (omega (arith, u)) ∙ ap (λ m. (get_or m i no_face).plane) r)
          (ap (λ m. map (O.point_at m) (K.row vs ss i)) (points_are lay told facts few points cycles starts owners)
          ∙ ap₂ (λ m q. map (O.point_at (floats_of a.points)) (K.row m q i)) (vertices_are lay told facts cycles starts) (starts_are lay told facts few points cycles starts owners) ∙ corners_are a i)

      pub prints : (spots : List ℕ) → room ≤ length spots → printed y d n p c s x z b spots ≡ fused_answer (drawn_in cs a bs)
      prints spots q = printed_are spots ∙ bodies_same d (spots_at y d n p c s x z b spots) ps vs ss f (facet_in a (faces_of cs)) (facet_same spots q) bs inside

      -- they are at most 64 for each corner of the room, as those of any answer
      drawn : fuse_cells t room cs ≡ Ok (drawn_in cs a bs)
      unfolding fuse_cells
      drawn = go (arrange_cells t room cs) _ a g ∙ go (fuse_in a (length cs)) (λ bs. Ok (drawn_in cs a bs)) bs h

      bytes_few : (spots : List ℕ) → room ≤ length spots → length (printed y d n p c s x z b spots) ≤ 64 * room
      bytes_few spots q = omega (arith, ap length (prints spots q), cells_short t room cs (drawn_in cs a bs) drawn (all_map L.Sound Wide cs (λ c r. r.wide) (H.lies cs e).sound))

      can_print : (spots out : List ℕ) → room ≤ 4611686018427387904 → room ≤ length spots → 64 * room ≤ length out → Printable y d n p c s x z b spots out
      unfolding A.Laid
      can_print spots out low q m = record {
        few = ready.few;
        low = omega (arith, ready.facets);
        points = ready.points;
        cycles = ready.cycles;
        starts = ready.starts;
        counts = faces_listed;
        spotted = omega (arith, ready.facets);
        within = subst (λ i. Within (counts_at n 0 i) 0 (length d)) (sym faces_told) (list_faces H cs e).0.within;
        rows = ready.facetted.cycles.fine;
        vertices = ready.facetted.points;
        listed = omega (arith, facets_told, facets_long);
        inside = λ i v. each_get_d (λ i. i < f) (take y.fused.facets x) 0 i (subst (Each (λ i. i < f)) (sym facets_are) (each_shells (λ i. i < f) bs inside)) v;
        bodies = omega (arith, bodies_told, laid_many bs x₀ z₀ b₀ x z b l.1 l.2 l.3);
        stacked = stacked;
        fits = omega (arith, bytes_few spots q, m);
      }

    can_by : (spots out : List ℕ) → room ≤ 4611686018427387904 → room ≤ length spots → 64 * room ≤ length out → (o : Outcome Bodies) → then (list_at k d n j) (bodies_of t room) ≡ o → A.Laid o x₀ z₀ b₀ x z b (Ok y.fused) → Printable y d n p c s x z b spots out
    unfolding bodies_of A.Laid
    can_by spots out low q m (Ok bs) e l =
        let u = then_ok (list_at k d n j) (bodies_of t room) bs e in
        let r = then_ok (arrange_cells t room u.0) (λ a. fuse_in a (length u.0)) bs u.2 in
        can_print u.0 r.0 bs u.1 r.1 r.2 l spots out low q m
    can_by spots out low q m (Err r) e l = never_ok (sym l)

    -- what is told can be written
    pub listing_printable : (spots out : List ℕ) → room ≤ 4611686018427387904 → room ≤ length spots → 64 * room ≤ length out → Printable y d n p c s x z b spots out
    listing_printable spots out low q m = can_by spots out low q m (then (list_at k d n j) (bodies_of t room)) refl fus

    -- its bytes are those of the list's bodies
    bytes_by : (spots : List ℕ) → room ≤ length spots → (o : Outcome Bodies) → then (list_at k d n j) (bodies_of t room) ≡ o → A.Laid o x₀ z₀ b₀ x z b (Ok y.fused) →
        (Ok (printed y d n p c s x z b spots) ≡ answer_of (then (list_at k d n j) (fuse_cells t room))) × (length (printed y d n p c s x z b spots) ≤ 64 * room)
    unfolding bodies_of fuse_cells A.Laid answer_of
    bytes_by spots q (Ok bs) e l =
        let u = then_ok (list_at k d n j) (bodies_of t room) bs e in
        let r = then_ok (arrange_cells t room u.0) (λ a. fuse_in a (length u.0)) bs u.2 in
        let made : then (list_at k d n j) (fuse_cells t room) ≡ Ok (drawn_in u.0 r.0 bs)
        = go (list_at k d n j) (fuse_cells t room) u.0 u.1 ∙ drawn u.0 r.0 bs u.1 r.1 r.2 l in
        (ap Ok (prints u.0 r.0 bs u.1 r.1 r.2 l spots q) ∙ ap answer_of (sym made), bytes_few u.0 r.0 bs u.1 r.1 r.2 l spots q)
    bytes_by spots q (Err r) e l = never_ok (sym l)

    bytes_are : (spots : List ℕ) → room ≤ length spots → (Ok (printed y d n p c s x z b spots) ≡ answer_of (then (list_at k d n j) (fuse_cells t room))) × (length (printed y d n p c s x z b spots) ≤ 64 * room)
    bytes_are spots q = bytes_by spots q (then (list_at k d n j) (bodies_of t room)) refl fus

  drawn_stop : (cs : List Cell) (r : Refusal) (o : Outcome Arrangement) → then o (λ a. fuse_in a (length cs)) ≡ Err r → then o (λ a. then (fuse_in a (length cs)) (λ bs. Ok (drawn_in cs a bs))) ≡ Err r
  drawn_stop cs r (Ok a) e = stop (fuse_in a (length cs)) (λ bs. Ok (drawn_in cs a bs)) r e
  drawn_stop cs r (Err q) e = let u : q ≡ r = cc in ap Err u

  cells_stop : (r : Refusal) (o : Outcome (List Cell)) → then o (bodies_of t room) ≡ Err r → then o (fuse_cells t room) ≡ Err r
  unfolding bodies_of fuse_cells
  cells_stop r (Ok cs) e = drawn_stop cs r (arrange_cells t room cs) e
  cells_stop r (Err q) e = let u : q ≡ r = cc in ap Err u

  print_is : (spots : List ℕ) → room ≤ length spots → (r : Outcome Listing) → o ≡ r → (print_at o d n p c s x z b spots ≡ answer_of (then (list_at k d n j) (fuse_cells t room))) × ((ended_of (print_at o d n p c s x z b spots)).bytes ≤ 64 * room)
  unfolding print_at answer_of ended_of
  print_is spots q (Ok y) e =
      let u = bytes_are y e spots q in
      let v : print_at o d n p c s x z b spots ≡ Ok (printed y d n p c s x z b spots) = go o (λ y. Ok (printed y d n p c s x z b spots)) y e in
      (v ∙ u.0, omega (arith, u.1, ap (λ l. (ended_of l).bytes) v))
  print_is spots q (Err r) e =
      let v : print_at o d n p c s x z b spots ≡ Err r = stop o (λ y. Ok (printed y d n p c s x z b spots)) r e in
      (v ∙ ap answer_of (sym (cells_stop r (list_at k d n j) (told_refused H t o T r e))), omega (arith, ap (λ l. (ended_of l).bytes) v))

  -- its bytes are those of the list's bodies, and at most 64 for each corner of the room
  pub listing_answered : (spots : List ℕ) → room ≤ length spots → (out₀ out : List ℕ) (r : Ended) → r ≡ ended_of (print_at o d n p c s x z b spots) → out ≡ written (print_at o d n p c s x z b spots) out₀ →
      ((r ≡ ended_of (answer_of (then (list_at k d n j) (fuse_cells t room)))) × (r.bytes ≤ 64 * room)) × (out ≡ written (answer_of (then (list_at k d n j) (fuse_cells t room))) out₀)
  listing_answered spots q out₀ out r h g =
      let u = print_is spots q o refl in
      ((h ∙ ap ended_of u.0, subst (λ e. e.bytes ≤ 64 * room) (sym h) u.1), g ∙ ap (λ o. written o out₀) u.0)
