-- Laws of the writing of solids, one after another, in the words of the code.
use Rattle.std.specs.Prelude.{◌≡◌, refl, ℕ, suc, ◌+◌, ◌-◌, ◌*◌, ◌≤◌, ◌<◌, take, drop, get_or, Float, Ok, Err}
use Rattle.std.proofs.Common.{sym, ap₂, ◌∙◌, subst, arith, length-drop, take_all, take_at}
use Rattle.std.proofs.Math.Path.{ap}
use mathlib.Core.List.{List, [], ◌∷◌, ◌++◌, append_assoc, append-nil, map}
use Rattle.std.proofs.Math.ListN.{length, length-append, length-map}
use Rattle.std.proofs.Math.Seq.{sets, length-sets}
use Rattle.refusal.specs.declared.Refusal.{Refusal}
use Rattle.refusal.specs.Outcome.{Outcome, then, heard}
use Rattle.space.specs.Shapes.{Solid}
use Rattle.polygon.specs.Memory.{floats_of}
use Rattle.room.specs.Rooms.{counts_at}
use Rattle.room.specs.Laws.{sets_append, length_floats_of}
use Rattle.indexed.specs.Stored.{flat}
use Rattle.sums.specs.Sum.{sum}
use Rattle.solids.specs.Frames.{Placing}
use Rattle.writer.specs.Rows.{row}
use Rattle.writer.specs.Writing.{solid_in, Lent}
use Rattle.answer.specs.Answers.{solid_answer}
use Rattle.answer.specs.Laws.{solid_size}
use Rattle.finish.specs.Finish.{total, solids_floats, solids_places, solids_counts, solids_at, solids_told, Lain, Holding}
use Rattle.finish.specs.Lists.{total_flat, points_both, places_both, faces_both, points_more, places_more, faces_more, this_size, this_mark, this_points, this_places, this_counts, solid_back}
use Rattle.ended.specs.declared.Ended.{Ended}
use Rattle.ended.specs.Ends.{ended_of, written}
use Rattle.cell_answer.specs.Solids.{solids_answer}

-- ---- how many bytes there are

solids_size : (ss : List Solid) → length (row solid_answer ss) ≡ 8 * length ss + 8 * length (solids_floats ss) + 4 * length (solids_counts ss) + 4 * length (solids_places ss)
unfolding row solids_floats solids_counts solids_places
solids_size [] = refl
solids_size (s ∷ ss) =
    omega (
      arith,
      solids_size ss,
      solid_size s,
      length-append (solid_answer s) (row solid_answer ss),
      length-append (floats_of s.points) (solids_floats ss),
      length-append (map length s.faces) (solids_counts ss),
      length-append (flat s.faces) (solids_places ss),
      length_floats_of s.points,
      length-map s.faces length,
    )

-- 64 bytes a corner of the room hold every answer: half of them do
pub solids_fit : (room k : ℕ) (ss : List Solid) (p : List Float) (i c z m : List ℕ) → Lain room k ss p i c z m → length (row solid_answer ss) ≤ 32 * room
solids_fit room k ss p i c z m L = omega (arith, solids_size ss, L.few, L.wide, L.some, L.fit)

row_both : (a b : List Solid) → row solid_answer (a ++ b) ≡ row solid_answer a ++ row solid_answer b
unfolding row
row_both [] b = refl
row_both (s ∷ a) b = ap (λ l. solid_answer s ++ l) (row_both a b) ∙ sym (append_assoc (solid_answer s) (row solid_answer a) (row solid_answer b))

-- ---- the solids one after another: those that are written, and the rest

pub record Putting (ss : List Solid) (out₀ out : List ℕ) (p q f at j : ℕ) : Type 0 where
  pub done : List Solid
  pub rest : List Solid
  pub all : done ++ rest ≡ ss
  pub upto : length done ≡ j
  pub points : length (solids_floats done) ≡ p
  pub places : length (solids_places done) ≡ q
  pub counts : length (solids_counts done) ≡ f
  pub bytes : length (row solid_answer done) ≡ at
  pub is : out ≡ sets out₀ 0 (row solid_answer done)

pub putting_start : (ss : List Solid) (out : List ℕ) → Putting ss out out 0 0 0 0 0
unfolding row solids_floats solids_places solids_counts
putting_start ss out = record { done = []; rest = ss; all = refl; upto = refl; points = refl; places = refl; counts = refl; bytes = refl; is = refl }

-- a part that reaches to the end
tail_part : {A : Type 0} (l : List A) (a x : ℕ) → x ≡ length l - a → take x (drop a l) ≡ drop a l
tail_part l a x e = take_all x (drop a l) (omega (arith, e, length-drop a l))

first_of : (l : List Solid) → 0 < length l → (s : Solid) × (b : List Solid) × (l ≡ s ∷ b)
first_of [] h = absurd (omega arith)
first_of (s ∷ b) h = (s, b, refl)

placing_flat : (fs : List (List ℕ)) (b : List ℕ) (at m : ℕ) → at + length (flat fs) ≤ m → Placing (map length fs) at m
unfolding Placing flat
placing_flat [] b at m h = omega (arith, h)
placing_flat (f ∷ fs) b at m h = placing_flat fs b (at + length f) m (omega (arith, h, length-append f (flat fs)))

-- the solid at hand, of m points and n faces, in the parts that are lent
pub record Turn (left : List Solid) (P : List Float) (I C : List ℕ) (m n : ℕ) : Type 0 where
  pub solid : Solid
  pub after : List Solid
  pub first : left ≡ solid ∷ after
  pub marked : m ≡ length solid.points
  pub sized : n ≡ length solid.faces
  pub counts : take n C ≡ map length solid.faces
  pub is : solid_in P m I C n ≡ solid
  pub points : 3 * m ≤ length P
  pub lent : Lent I C n

turn_of : (left : List Solid) (s : Solid) (b : List Solid) (P : List Float) (I C : List ℕ) (a : List Float) (i c : List ℕ) → left ≡ s ∷ b → P ≡ floats_of s.points ++ a → I ≡ flat s.faces ++ i →
    C ≡ map length s.faces ++ c → Turn left P I C (length s.points) (length s.faces)
turn_of left s b P I C a i c e x y z =
    let t : take (length s.faces) C ≡ map length s.faces = ap (take (length s.faces)) z ∙ take_at (map length s.faces) c (length s.faces) (length-map s.faces length) in
    record {
      solid = s;
      after = b;
      first = e;
      marked = refl;
      sized = refl;
      counts = t;
      is = ap (λ l. solid_in l (length s.points) I C (length s.faces)) x
          ∙ ap (λ l. solid_in (floats_of s.points ++ a) (length s.points) l C (length s.faces)) y
          ∙ ap (λ l. solid_in (floats_of s.points ++ a) (length s.points) (flat s.faces ++ i) l (length s.faces)) z
          ∙ solid_back s a i c;
      points = omega (arith, ap length x, length-append (floats_of s.points) a, length_floats_of s.points);
      lent = record {
        few = omega (arith, ap length z, length-append (map length s.faces) c, length-map s.faces length);
        placing = subst (λ l. Placing l 0 (length I)) (sym t) (placing_flat s.faces i 0 (length I) (omega (arith, ap length y, length-append (flat s.faces) i)));
      };
    }

module _ {ss : List Solid} {out₀ out : List ℕ} {p q f at j : ℕ} (W : Putting ss out₀ out p q f at j) (room k : ℕ) (P : List Float) (I C z m : List ℕ) (L : Lain room k ss P I C z m) where
  lain : (s : Solid) (b : List Solid) → W.rest ≡ s ∷ b → Lain room k (W.done ++ (s ∷ b)) P I C z m
  lain s b e = subst (λ l. Lain room k l P I C z m) (sym W.all ∙ ap (λ l. W.done ++ l) e) L

  next : j < length ss → (s : Solid) × (b : List Solid) × (W.rest ≡ s ∷ b)
  next h = first_of W.rest (omega (arith, ap length W.all, length-append W.done W.rest, W.upto))

  pub putting_seats : j < length ss → (j < length m) × (j < length z)
  putting_seats h =
      let g = next h in
      let K = lain g.0 g.1 g.2 in
      ((this_mark room k W.done g.0 g.1 P I C z m K j W.upto).1, (this_size room k W.done g.0 g.1 P I C z m K j W.upto).1)

  pub putting_turn : j < length ss → (x y w : ℕ) → x ≡ length P - p → y ≡ length I - q → w ≡ length C - f → Turn W.rest (take x (drop p P)) (take y (drop q I)) (take w (drop f C)) (get_or m j 0) (get_or z j 0)
  putting_turn h x y w ex ey ew =
      let g = next h in
      let K = lain g.0 g.1 g.2 in
      let T = turn_of W.rest g.0 g.1 (take x (drop p P)) (take y (drop q I)) (take w (drop f C)) _ _ _ g.2
      (tail_part P p x ex ∙ this_points room k W.done g.0 g.1 P I C z m K p W.points)
      (tail_part I q y ey ∙ this_places room k W.done g.0 g.1 P I C z m K q W.places)
      (tail_part C f w ew ∙ this_counts room k W.done g.0 g.1 P I C z m K f W.counts) in
      subst (λ a. Turn W.rest (take x (drop p P)) (take y (drop q I)) (take w (drop f C)) a (get_or z j 0)) (sym (this_mark room k W.done g.0 g.1 P I C z m K j W.upto).0)
      (subst (Turn W.rest (take x (drop p P)) (take y (drop q I)) (take w (drop f C)) (length g.0.points)) (sym (this_size room k W.done g.0 g.1 P I C z m K j W.upto).0) T)

  -- the next places lie within the slices
  pub putting_within : (p ≤ length P) × (q ≤ length I) × (f ≤ length C)
  putting_within =
      let x : solids_floats ss ≡ solids_floats W.done ++ solids_floats W.rest = ap solids_floats (sym W.all) ∙ points_both W.done W.rest in
      let y : solids_places ss ≡ solids_places W.done ++ solids_places W.rest = ap solids_places (sym W.all) ∙ places_both W.done W.rest in
      let w : solids_counts ss ≡ solids_counts W.done ++ solids_counts W.rest = ap solids_counts (sym W.all) ∙ faces_both W.done W.rest in (
        omega (arith, W.points, ap length L.points.is, length-append (solids_floats ss) L.points.tail, ap length x, length-append (solids_floats W.done) (solids_floats W.rest)),
        omega (arith, W.places, ap length L.places.is, length-append (solids_places ss) L.places.tail, ap length y, length-append (solids_places W.done) (solids_places W.rest)),
        omega (arith, W.counts, ap length L.counts.is, length-append (solids_counts ss) L.counts.tail, ap length w, length-append (solids_counts W.done) (solids_counts W.rest)),
      )

  pub putting_size : length out ≡ length out₀
  putting_size = ap length W.is ∙ length-sets out₀ 0 (row solid_answer W.done)

  module _ (h : j < length ss) (x y w : ℕ) (ex : x ≡ length P - p) (ey : y ≡ length I - q) (ew : w ≡ length C - f) where
    abbrev this : Solid
    this = solid_in (take x (drop p P)) (get_or m j 0) (take y (drop q I)) (take w (drop f C)) (get_or z j 0)

    bytes_of : (s : Solid) (b : List Solid) → W.rest ≡ s ∷ b → row solid_answer ss ≡ row solid_answer W.done ++ (solid_answer s ++ row solid_answer b)
    unfolding row
    bytes_of s b e = ap (row solid_answer) (sym W.all ∙ ap (λ l. W.done ++ l) e) ∙ row_both W.done (s ∷ b)

    pub putting_room : 64 * room ≤ length out₀ →
        at + length (solid_answer (solid_in (take x (drop p P)) (get_or m j 0) (take y (drop q I)) (take w (drop f C)) (get_or z j 0))) ≤ length out
    putting_room r =
        let T = putting_turn h x y w ex ey ew in
        omega (
          arith,
          r,
          putting_size,
          solids_fit room k ss P I C z m L,
          ap (λ v. length (solid_answer v)) T.is,
          W.bytes,
          ap length (bytes_of T.solid T.after T.first),
          length-append (row solid_answer W.done) (solid_answer T.solid ++ row solid_answer T.after),
          length-append (solid_answer T.solid) (row solid_answer T.after),
        )

    faces_are : counts_at C f (get_or z j 0) ≡ map length (putting_turn h x y w ex ey ew).solid.faces
    faces_are = ap (take (get_or z j 0)) (sym (tail_part C f w ew)) ∙ (putting_turn h x y w ex ey ew).counts

    flat_are : total (counts_at C f (get_or z j 0)) ≡ length (flat (putting_turn h x y w ex ey ew).solid.faces)
    flat_are = ap total faces_are ∙ total_flat (putting_turn h x y w ex ey ew).solid.faces

    places_are : q + length (flat (putting_turn h x y w ex ey ew).solid.faces) ≤ length (solids_places ss)
    unfolding solids_places
    places_are =
        let T = putting_turn h x y w ex ey ew in
        let e : solids_places ss ≡ solids_places W.done ++ (flat T.solid.faces ++ solids_places T.after) =
        ap solids_places (sym W.all ∙ ap (λ l. W.done ++ l) T.first) ∙ places_both W.done (T.solid ∷ T.after) in
        omega (arith, W.places, ap length e, length-append (solids_places W.done) (flat T.solid.faces ++ solids_places T.after), length-append (flat T.solid.faces) (solids_places T.after))

    pub putting_corners : (f + get_or z j 0 ≤ length C) × (q + total (counts_at C f (get_or z j 0)) ≤ length I) × (q + total (counts_at C f (get_or z j 0)) ≤ room)
    putting_corners =
        let T = putting_turn h x y w ex ey ew in (
          omega (arith, T.lent.few, ap length (tail_part C f w ew), length-drop f C, putting_within.2),
          omega (arith, flat_are, places_are, ap length L.places.is, length-append (solids_places ss) L.places.tail),
          omega (arith, flat_are, places_are, L.fit),
        )

    pub putting_points : p + 3 * get_or m j 0 ≤ length P
    putting_points = omega (arith, (putting_turn h x y w ex ey ew).points, ap length (tail_part P p x ex), length-drop p P, putting_within.0)

    pub putting_step : (c : ℕ) (out' : List ℕ) (at' : ℕ) → c ≡ total (counts_at C f (get_or z j 0)) →
        out' ≡ sets out at (solid_answer (solid_in (take x (drop p P)) (get_or m j 0) (take y (drop q I)) (take w (drop f C)) (get_or z j 0))) →
        at' ≡ at + length (solid_answer (solid_in (take x (drop p P)) (get_or m j 0) (take y (drop q I)) (take w (drop f C)) (get_or z j 0))) →
        Putting ss out₀ out' (p + 3 * get_or m j 0) (q + c) (f + get_or z j 0) at' (j + 1)
    unfolding row
    putting_step c out' at' e eo ea =
        let T = putting_turn h x y w ex ey ew in
        let s = T.solid in
        let r : row solid_answer (W.done ++ (T.solid ∷ [])) ≡ row solid_answer W.done ++ solid_answer T.solid = row_both W.done (T.solid ∷ []) ∙ ap (λ l. row solid_answer W.done ++ l) (append-nil (solid_answer T.solid)) in
        let u : at ≡ 0 + length (row solid_answer W.done) = omega (arith, W.bytes) in
        record {
          done = W.done ++ (T.solid ∷ []);
          rest = T.after;
          all = append_assoc W.done (T.solid ∷ []) T.after ∙ ap (λ l. W.done ++ l) (sym T.first) ∙ W.all;
          upto = length-append W.done (T.solid ∷ []) ∙ ap (λ l. l + 1) W.upto;
          points = omega (arith, ap length (points_more W.done T.solid), length-append (solids_floats W.done) (floats_of T.solid.points), length_floats_of T.solid.points, W.points, T.marked);
          places = omega (arith, ap length (places_more W.done T.solid), length-append (solids_places W.done) (flat T.solid.faces), W.places, e, flat_are);
          counts = omega (arith, ap length (faces_more W.done T.solid), length-append (solids_counts W.done) (map length T.solid.faces), length-map T.solid.faces length, W.counts, T.sized);
          bytes = omega (arith, ap length r, length-append (row solid_answer W.done) (solid_answer T.solid), W.bytes, ea, ap (λ v. length (solid_answer v)) T.is);
          is = eo ∙ ap (λ v. sets out at (solid_answer v)) T.is ∙ ap (λ l. sets l at (solid_answer T.solid)) W.is
              ∙ ap (λ v. sets (sets out₀ 0 (row solid_answer W.done)) v (solid_answer T.solid)) u
              ∙ sets_append out₀ 0 (row solid_answer W.done) (solid_answer T.solid) ∙ ap (sets out₀ 0) (sym r);
        }

  no_more : (l : List Solid) → length l ≡ 0 → l ≡ []
  no_more [] e = refl
  no_more (s ∷ l) e = absurd (omega (arith, e))

  pub putting_end : length ss ≤ j → (at ≡ length (row solid_answer ss)) × (out ≡ sets out₀ 0 (row solid_answer ss))
  putting_end h =
      let e : W.rest ≡ [] = no_more W.rest (omega (arith, ap length W.all, length-append W.done W.rest, W.upto)) in
      let g : W.done ≡ ss = sym (append-nil W.done) ∙ ap (λ l. W.done ++ l) (sym e) ∙ W.all in
      (sym W.bytes ∙ ap (λ l. length (row solid_answer l)) g, W.is ∙ ap (λ l. sets out₀ 0 (row solid_answer l)) g)

-- ---- what the verdict tells

module _ (room k : ℕ) (v : Outcome Unit) (P : List Float) (I C z m : List ℕ) (H : Holding room k v P I C z m) where
  abbrev told : Outcome (List Solid)
  told = solids_told v k P I C z m

  tells : v ≡ Ok tt → solids_told v k P I C z m ≡ Ok (solids_at P I C (take k m) (take k z))
  unfolding solids_told heard
  tells e = ap (λ v. heard v (solids_at P I C (take k m) (take k z))) e

  pub tells_lain : v ≡ Ok tt → Lain room k (solids_at P I C (take k m) (take k z)) P I C z m
  tells_lain e = H.lain _ (tells e)

  pub tells_many : v ≡ Ok tt → k ≡ length (solids_at P I C (take k m) (take k z))
  tells_many e = (tells_lain e).many

  pub ended_before : (r : Refusal) (out : List ℕ) → v ≡ Err r →
      ((◌≡◌ {A = Ended} (record { verdict = v; bytes = 0 }) (ended_of (then (solids_told v k P I C z m) solids_answer))) × (0 ≤ 32 * room)) × (out ≡ written (then (solids_told v k P I C z m) solids_answer) out)
  unfolding solids_told heard ended_of written
  ended_before r out e =
      let o : then (solids_told v k P I C z m) solids_answer ≡ Err r = ap (λ v. then (heard v (solids_at P I C (take k m) (take k z))) solids_answer) e in
      ((ap (λ v. record { verdict = v; bytes = 0 }) e ∙ ap ended_of (sym o), omega arith), ap (λ o. written o out) (sym o))

  pub ended_end : v ≡ Ok tt → (out₀ out : List ℕ) (at : ℕ) → (at ≡ length (row solid_answer (solids_at P I C (take k m) (take k z)))) × (out ≡ sets out₀ 0 (row solid_answer (solids_at P I C (take k m) (take k z)))) →
      ((◌≡◌ {A = Ended} (record { verdict = Ok tt; bytes = at }) (ended_of (then (solids_told v k P I C z m) solids_answer))) × (at ≤ 32 * room)) × (out ≡ written (then (solids_told v k P I C z m) solids_answer) out₀)
  unfolding solids_answer ended_of written
  ended_end e out₀ out at h =
      let o : then (solids_told v k P I C z m) solids_answer ≡ Ok (row solid_answer (solids_at P I C (take k m) (take k z))) = ap (λ o. then o solids_answer) (tells e) in
      ((ap (λ n. record { verdict = Ok tt; bytes = n }) h.0 ∙ ap ended_of (sym o), omega (arith, h.0, solids_fit _ _ _ _ _ _ _ _ (tells_lain e))), h.1 ∙ ap (λ o. written o out₀) (sym o))
