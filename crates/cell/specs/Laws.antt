-- Laws of a cell that grows face by face, in the words of the code.
use Rattle.std.specs.Prelude.{◌≡◌, refl, Bool, true, false, cond, ◌||◌, List, [], ◌∷◌, ◌++◌, ℕ, ◌+◌, ◌*◌, ◌≤◌, ◌<◌, length, set, drop, get_or, ltb, leb, Float, Ok, Err}
use Rattle.std.proofs.Common.{sym, ap, ◌∙◌, subst, arith, length-append, leb-false, ltb-false, lt-ltb, le-ltb}
use Rattle.std.proofs.lemmas.List.Edits.{sets}
use Rattle.std.specs.Result.{IfOk}
use Rattle.refusal.specs.declared.Refusal.{Refusal}
use Rattle.refusal.specs.Outcome.{Outcome, refusal_of, then, unless, walk}
use Rattle.refusal.specs.Laws.{same_ok, never_ok}
use Rattle.space.specs.Shapes.{Face, Cell, corners}
use Rattle.polygon.specs.Members.{All}
use Rattle.room.specs.Rooms.{face_floats, cell_floats, cell_counts, face_at, cell_at, counts_at, Within}
use Rattle.room.specs.Laws.{corners_snoc, floats_more, counts_more, all_snoc, next_count, counts_done, cell_next, cell_none, within_small, within_rest, within_le}
use Rattle.room.specs.Steps.{onward, onward_next, onward_end}
use Rattle.cell.specs.declared.Kept.{Kept}
use Rattle.cell.specs.Cells.{is_full, add_face, keep_face, left_cell, added, Filled, Stored, Turned}

-- what the outcome is of a cell that lies there
at_cell : (f : Cell → Outcome Cell) (c : Cell) (o : Outcome Cell) → Ok c ≡ o → then o f ≡ f c
at_cell f c o w = ap (λ x. then x f) (sym w)

-- a refusal stays
pub turned_stays : (room at k : ℕ) (f : Cell → Outcome Cell) (s r : Outcome Kept) (d : List Float) (n : List ℕ) (x : Refusal) → s ≡ Err x → r ≡ Err x → Turned room at k f s r d n d n
turned_stays room at k f s r d n x e g = subst (λ y. Turned room at k f y r d n d n) (sym e) (subst (λ y. Turned room at k f (Err x) y d n d n) (sym g) (record {
  on = λ d₀ n₀ o w. record {
    cell = w.cell;
    is = w.is ∙ gone o w.is;
    floats = w.floats;
    counts = w.counts;
    sized = tt;
    small = w.small;
    most = w.most;
  };
  few = tt;
  fit = tt;
  kept = λ y z. (refl, refl);
}))
  where
    gone : (o : Outcome Cell) → Err x ≡ o → o ≡ then o f
    gone (Ok c) q = never_ok q
    gone (Err y) q = refl

-- a step from what a fine outcome holds
pub turned_from : (room at k : ℕ) (f : Cell → Outcome Cell) (s : Outcome Kept) (x : Kept) (r : Outcome Kept) (d : List Float) (n : List ℕ) (d' : List Float) (n' : List ℕ) → s ≡ Ok x →
    Turned room at k f (Ok x) r d n d' n' → Turned room at k f s r d n d' n'
turned_from room at k f s x r d n d' n' e t = subst (λ y. Turned room at k f y r d n d' n') (sym e) t

-- nothing is added, and the step says so
pub turned_idle : (room at k : ℕ) (f : Cell → Outcome Cell) (s : Outcome Kept) (d : List Float) (n : List ℕ) → IfOk s (λ x. x.faces ≤ 128) → IfOk s (λ x. x.corners ≤ room) →
    ((c : Cell) → f c ≡ Ok c) → Turned room at k f s s d n d n
turned_idle room at k f s d n h g e = record {
  on = λ d₀ n₀ o w. record {
    cell = w.cell;
    is = w.is ∙ sym (same o);
    floats = w.floats;
    counts = w.counts;
    sized = w.sized;
    small = w.small;
    most = w.most;
  };
  few = h;
  fit = g;
  kept = λ y z. (refl, refl);
}
  where
    same : (o : Outcome Cell) → then o f ≡ o
    same (Ok c) = e c
    same (Err r) = refl

-- there is no room for a face
pub turned_full : (room at k : ℕ) (p : Face) (s : Kept) (d : List Float) (n : List ℕ) (r : Refusal) →
    is_full room s.faces s.corners (length p.points) ≡ true → r ≡ refusal_of 12 →
    Turned room at k (λ c. add_face room c p) (Ok s) (Err r) d n d n
unfolding add_face
turned_full room at k p s d n r b q = record {
  on = λ d₀ n₀ o w.
      let x : is_full room (length w.cell) (corners 0 w.cell) (length p.points) ≡ true =
      ap (λ m. is_full room m (corners 0 w.cell) (length p.points)) (sym w.sized.0) ∙ ap (λ m. is_full room s.faces m (length p.points)) (sym w.sized.1) ∙ b in
      record {
        cell = w.cell;
        is = ap Err q ∙ ap (λ z. unless z 12 (Ok (w.cell ++ (p ∷ [])))) (sym x) ∙ sym (at_cell (λ c. add_face room c p) w.cell o w.is);
        floats = w.floats;
        counts = w.counts;
        sized = tt;
        small = w.small;
        most = w.most;
      };
  few = tt;
  fit = tt;
  kept = λ e x. (refl, refl);
}

-- and there is
pub turned_more : (room at k : ℕ) (p : Face) (s : Kept) (d : List Float) (n : List ℕ) (d' : List Float) (n' : List ℕ) →
    is_full room s.faces s.corners (length p.points) ≡ false → length p.points ≤ 128 →
    s.faces + 1 ≤ 128 → s.corners + length p.points ≤ room →
    d' ≡ sets d (at + 13 * s.faces + 3 * s.corners) (face_floats p) → n' ≡ set n (k + s.faces) (length p.points) →
    Turned room at k (λ c. add_face room c p) (Ok s) (Ok (record { faces = s.faces + 1; corners = s.corners + length p.points })) d n d' n'
unfolding add_face
turned_more room at k p s d n d' n' b small few fit ed en = record {
  on = λ d₀ n₀ o w.
      let x : is_full room (length w.cell) (corners 0 w.cell) (length p.points) ≡ false =
      ap (λ m. is_full room m (corners 0 w.cell) (length p.points)) (sym w.sized.0) ∙ ap (λ m. is_full room s.faces m (length p.points)) (sym w.sized.1) ∙ b in
      record {
        cell = w.cell ++ (p ∷ []);
        is = ap (λ z. unless z 12 (Ok (w.cell ++ (p ∷ [])))) (sym x) ∙ sym (at_cell (λ c. add_face room c p) w.cell o w.is);
        floats = ed ∙ ap (λ l. sets l (at + 13 * s.faces + 3 * s.corners) (face_floats p)) w.floats
            ∙ floats_more d₀ at w.cell p (at + 13 * s.faces + 3 * s.corners) (omega (arith, w.sized.0, w.sized.1));
        counts = en ∙ ap (λ l. set l (k + s.faces) (length p.points)) w.counts ∙ counts_more n₀ k w.cell p (k + s.faces) (omega (arith, w.sized.0));
        sized = (omega (arith, w.sized.0, length-append w.cell (p ∷ [])), omega (arith, w.sized.1, corners_snoc w.cell p));
        small = all_snoc _ w.cell p w.small small;
        most = omega (arith, few, w.sized.0, length-append w.cell (p ∷ []));
      };
  few = few;
  fit = fit;
  kept = λ e x. never_ok (sym x);
}

-- what there is room for
pub not_full : (room faces held n : ℕ) → is_full room faces held n ≡ false → (faces < 128) × (held + n ≤ room)
unfolding is_full
not_full room faces held n e = (leb-false 128 faces (or_l (leb 128 faces) _ e), ltb-false room (held + n) (or_r (leb 128 faces) _ e))
  where
    or_l : (a b : Bool) → (a || b) ≡ false → a ≡ false
    or_l true b h = h
    or_l false b h = refl

    or_r : (a b : Bool) → (a || b) ≡ false → b ≡ false
    or_r true b h = cc
    or_r false b h = h

-- the number of corners is that of the points
pub counted : (room faces held n m : ℕ) (b c : Bool) → n ≡ m → b ≡ is_full room faces held n → b ≡ c → is_full room faces held m ≡ c
counted room faces held n m b c e f g = ap (is_full room faces held) (sym e) ∙ sym f ∙ g

-- a face is dropped, or added
pub turned_drop : (room at k : ℕ) (p : Face) (s : Outcome Kept) (d : List Float) (n : List ℕ) → IfOk s (λ x. x.faces ≤ 128) → IfOk s (λ x. x.corners ≤ room) → length p.points < 3 →
    Turned room at k (λ c. keep_face (ltb (length p.points) 3) room c p) s s d n d n
unfolding keep_face
turned_drop room at k p s d n h g b = turned_idle room at k _ s d n h g (λ c. ap (λ x. keep_face x room c p) (lt-ltb _ _ b))

pub turned_keep : (room at k : ℕ) (p : Face) (s r : Outcome Kept) (d : List Float) (n : List ℕ) (d' : List Float) (n' : List ℕ) → 3 ≤ length p.points →
    Turned room at k (λ c. add_face room c p) s r d n d' n' → Turned room at k (λ c. keep_face (ltb (length p.points) 3) room c p) s r d n d' n'
unfolding keep_face
turned_keep room at k p s r d n d' n' b w = subst (λ x. Turned room at k (λ c. keep_face x room c p) s r d n d' n') (sym (le-ltb _ _ b)) w

-- the same, the number of corners being m
pub turned_added : (room at k : ℕ) (p : Face) (s : Kept) (d : List Float) (n : List ℕ) (d' : List Float) (n' : List ℕ) (m : ℕ) (b : Bool) → m ≤ 128 → m ≡ length p.points →
    b ≡ is_full room s.faces s.corners m → b ≡ false →
    d' ≡ sets d (at + 13 * s.faces + 3 * s.corners) (face_floats p) → n' ≡ set n (k + s.faces) m →
    Turned room at k (λ c. add_face room c p) (Ok s) (Ok (record { faces = s.faces + 1; corners = s.corners + m })) d n d' n'
turned_added room at k p s d n d' n' m b h em f g ed en =
    let x = counted room s.faces s.corners m (length p.points) b false em f g in
    let y = not_full room s.faces s.corners (length p.points) x in
    subst (λ z. Turned room at k (λ c. add_face room c p) (Ok s) (Ok (record { faces = s.faces + 1; corners = s.corners + z })) d n d' n') (sym em)
    (turned_more room at k p s d n d' n' x (omega (arith, em)) (omega (arith, y.0)) y.1 ed (en ∙ ap (set n (k + s.faces)) em))

-- ---- a walk over the faces of a cell in a room: what is still ahead

pub record Ahead (src : List Float) (ns : List ℕ) (j faces o i : ℕ) : Type 0 where
  pub upto : i ≤ faces
  pub within : Within (drop i (counts_at ns j faces)) o (length src)

module _ (src : List Float) (ns : List ℕ) (j faces o i : ℕ) (listed : j + faces ≤ length ns) (h : i < faces) (a : Ahead src ns j faces o i) where
  this : Within (get_or ns (j + i) 0 ∷ drop (i + 1) (counts_at ns j faces)) o (length src)
  this = rw (next_count ns j faces i h listed) at a.within

  pub ahead_small : get_or ns (j + i) 0 ≤ 128
  ahead_small = within_small (get_or ns (j + i) 0) _ o (length src) this

  pub ahead_inside : o + 13 + 3 * get_or ns (j + i) 0 ≤ length src
  ahead_inside = within_le _ _ _ (within_rest (get_or ns (j + i) 0) (drop (i + 1) (counts_at ns j faces)) o (length src) this)

  pub ahead_next : Ahead src ns j faces (o + 13 + 3 * get_or ns (j + i) 0) (i + 1)
  ahead_next = record { upto = omega arith; within = within_rest (get_or ns (j + i) 0) (drop (i + 1) (counts_at ns j faces)) o (length src) this }

  pub ahead_face : cell_at src o (drop i (counts_at ns j faces)) ≡ face_at src o (get_or ns (j + i) 0) ∷ cell_at src (o + 13 + 3 * get_or ns (j + i) 0) (drop (i + 1) (counts_at ns j faces))
  ahead_face = ap (cell_at src o) (next_count ns j faces i h listed) ∙ cell_next src o (get_or ns (j + i) 0) (drop (i + 1) (counts_at ns j faces))

pub ahead_done : (src : List Float) (ns : List ℕ) (j faces o i : ℕ) → faces ≤ i → cell_at src o (drop i (counts_at ns j faces)) ≡ []
ahead_done src ns j faces o i h = ap (cell_at src o) (counts_done ns j faces i h) ∙ cell_none src o

-- ---- how much of a cell is added

one_more : (b : Bool) (c c' : Cell) → Ok c' ≡ unless b 12 (Ok c) → (b ≡ false) × (c' ≡ c)
one_more true c c' e = never_ok (sym e)
one_more false c c' e = (refl, same_ok e)

no_more : (b : Bool) (c : Cell) (r : Refusal) → Err r ≡ unless b 12 (Ok c) → b ≡ true
no_more true c r e = refl
no_more false c r e = never_ok e

added_next : (room : ℕ) (c c' : Cell) (f : Face) (l : Cell) → Ok c' ≡ add_face room c f → added room c' l ≡ added room c (f ∷ l)
unfolding add_face added
added_next room c c' f l e =
    let m = one_more (is_full room (length c) (corners 0 c) (length f.points)) (c ++ (f ∷ [])) c' e in
    ap (λ x. added room x l) m.1 ∙ ap (λ b. cond b c (added room (c ++ (f ∷ [])) l)) (sym m.0)

added_stop : (room : ℕ) (c : Cell) (f : Face) (l : Cell) (r : Refusal) → Err r ≡ add_face room c f → added room c (f ∷ l) ≡ c
unfolding add_face added
added_stop room c f l r e = ap (λ b. cond b c (added room (c ++ (f ∷ [])) l)) (no_more (is_full room (length c) (corners 0 c) (length f.points)) (c ++ (f ∷ [])) r e)

-- ---- the copy of a cell

pub record Copying (room : ℕ) (src : List Float) (from : ℕ) (ns : List ℕ) (j faces : ℕ) (d₀ : List Float) (at : ℕ) (n₀ : List ℕ) (k : ℕ) (s : Kept) (d : List Float) (n : List ℕ) (o i : ℕ) : Type 0 where
  pub ahead : Ahead src ns j faces o i
  pub few : s.faces ≤ 128
  pub fit : s.corners ≤ room
  pub size : length d ≡ length d₀
  pub slots : length n ≡ length n₀
  pub out : Outcome Cell
  pub stored : Stored d₀ at n₀ k out (Ok s) d n
  pub rest : onward (add_face room) out (cell_at src o (drop i (counts_at ns j faces))) ≡ left_cell room (cell_at src from (counts_at ns j faces))

-- the same, and how much of the cell is added in the end
pub record Filling (room : ℕ) (src : List Float) (from : ℕ) (ns : List ℕ) (j faces : ℕ) (d₀ : List Float) (at : ℕ) (n₀ : List ℕ) (k : ℕ) (s : Kept) (d : List Float) (n : List ℕ) (o i : ℕ) : Type 0 where
  pub copying : Copying room src from ns j faces d₀ at n₀ k s d n o i
  pub more : added room copying.stored.cell (cell_at src o (drop i (counts_at ns j faces))) ≡ added room [] (cell_at src from (counts_at ns j faces))

-- an empty cell lies anywhere
pub stored_none : (d : List Float) (at : ℕ) (n : List ℕ) (k : ℕ) → Stored d at n k (Ok []) (Ok (record { faces = 0; corners = 0 })) d n
unfolding cell_floats cell_counts corners All
stored_none d at n k = record { cell = []; is = refl; floats = refl; counts = refl; sized = (refl, refl); small = tt; most = omega arith }

pub copying_start : (room : ℕ) (src : List Float) (from : ℕ) (ns : List ℕ) (j faces : ℕ) (d : List Float) (at : ℕ) (n : List ℕ) (k : ℕ) → Within (counts_at ns j faces) from (length src) →
    Copying room src from ns j faces d at n k (record { faces = 0; corners = 0 }) d n from 0
unfolding left_cell
copying_start room src from ns j faces d at n k h = record {
  ahead = record { upto = omega arith; within = h };
  few = omega arith;
  fit = omega arith;
  size = refl;
  slots = refl;
  out = Ok [];
  stored = stored_none d at n k;
  rest = refl;
}

pub filling_start : (room : ℕ) (src : List Float) (from : ℕ) (ns : List ℕ) (j faces : ℕ) (d : List Float) (at : ℕ) (n : List ℕ) (k : ℕ) → Within (counts_at ns j faces) from (length src) →
    Filling room src from ns j faces d at n k (record { faces = 0; corners = 0 }) d n from 0
unfolding copying_start stored_none
filling_start room src from ns j faces d at n k h = record { copying = copying_start room src from ns j faces d at n k h; more = refl }

module _ (room : ℕ) (src : List Float) (from : ℕ) (ns : List ℕ) (j faces : ℕ) (d₀ : List Float) (at : ℕ) (n₀ : List ℕ) (k : ℕ) (s : Kept) (q : Outcome Kept) (d : List Float) (n : List ℕ) (d' : List Float) (n' : List ℕ) (o i : ℕ)
    (listed : j + faces ≤ length ns) (h : i < faces) (t : Turned room at k (λ c. add_face room c (face_at src o (get_or ns (j + i) 0))) (Ok s) q d n d' n') where
  abbrev others : Cell
  others = cell_at src (o + 13 + 3 * get_or ns (j + i) 0) (drop (i + 1) (counts_at ns j faces))

  module _ (c : Copying room src from ns j faces d₀ at n₀ k s d n o i) where
    abbrev next : Outcome Cell
    next = then c.out (λ y. add_face room y (face_at src o (get_or ns (j + i) 0)))

    copying_onward : onward (add_face room) next others ≡ left_cell room (cell_at src from (counts_at ns j faces))
    copying_onward = onward_next (add_face room) c.out (face_at src o (get_or ns (j + i) 0)) others ∙ ap (onward (add_face room) c.out) (sym (ahead_face src ns j faces o i listed h c.ahead)) ∙ c.rest

    copying_face : next ≡ add_face room c.stored.cell (face_at src o (get_or ns (j + i) 0))
    copying_face = ap (λ x. then x (λ y. add_face room y (face_at src o (get_or ns (j + i) 0)))) (sym c.stored.is)

    pub copying_step : (r : Kept) → q ≡ Ok r → length d' ≡ length d → length n' ≡ length n → Copying room src from ns j faces d₀ at n₀ k r d' n' (o + 13 + 3 * get_or ns (j + i) 0) (i + 1)
    copying_step r e ld ln =
        let u = subst (λ x. Turned room at k (λ c. add_face room c (face_at src o (get_or ns (j + i) 0))) (Ok s) x d n d' n') e t in
        record {
          ahead = ahead_next src ns j faces o i listed h c.ahead;
          few = u.few;
          fit = u.fit;
          size = ld ∙ c.size;
          slots = ln ∙ c.slots;
          out = next;
          stored = u.on d₀ n₀ c.out c.stored;
          rest = copying_onward;
        }

    -- a refusal ends the loop
    pub copying_stop : (x : Refusal) (r : Outcome Kept) → q ≡ Err x → r ≡ Err x → Stored d₀ at n₀ k (left_cell room (cell_at src from (counts_at ns j faces))) r d' n'
    copying_stop x r e er =
        let S = t.on d₀ n₀ c.out c.stored in
        let z : next ≡ Err x = sym S.is ∙ ap (λ y. then y (λ v. Ok S.cell)) e in
        subst (λ y. Stored d₀ at n₀ k y r d' n') (z ∙ ap (λ y. onward (add_face room) y others) (sym z) ∙ copying_onward)
        (subst (λ y. Stored d₀ at n₀ k next y d' n') (e ∙ sym er) S)

  module _ (f : Filling room src from ns j faces d₀ at n₀ k s d n o i) where
    -- what is still to be added
    filling_more : added room f.copying.stored.cell (face_at src o (get_or ns (j + i) 0) ∷ others) ≡ added room [] (cell_at src from (counts_at ns j faces))
    filling_more = ap (added room f.copying.stored.cell) (sym (ahead_face src ns j faces o i listed h f.copying.ahead)) ∙ f.more

    pub filling_step : (r : Kept) → q ≡ Ok r → length d' ≡ length d → length n' ≡ length n → Filling room src from ns j faces d₀ at n₀ k r d' n' (o + 13 + 3 * get_or ns (j + i) 0) (i + 1)
    unfolding copying_step
    filling_step r e ld ln =
        let w = copying_step f.copying r e ld ln in
        record {
          copying = w;
          more = added_next room f.copying.stored.cell w.stored.cell (face_at src o (get_or ns (j + i) 0)) others (w.stored.is ∙ copying_face f.copying) ∙ filling_more;
        }

    pub copying_filled : (x : Refusal) → q ≡ Err x → Filled room (cell_at src from (counts_at ns j faces)) d₀ at n₀ k d' n'
    copying_filled x e =
        let z = f.copying.stored in
        let S = t.on d₀ n₀ f.copying.out z in
        let full : Err x ≡ add_face room z.cell (face_at src o (get_or ns (j + i) 0)) = ap (λ y. then y (λ v. Ok S.cell)) (sym e) ∙ S.is ∙ copying_face f.copying in
        let w : added room [] (cell_at src from (counts_at ns j faces)) ≡ z.cell = sym filling_more ∙ added_stop room z.cell (face_at src o (get_or ns (j + i) 0)) others x full in
        record {
          floats = (t.kept x e).0 ∙ z.floats ∙ ap (λ y. sets d₀ at (cell_floats y)) (sym w);
          counts = (t.kept x e).1 ∙ z.counts ∙ ap (λ y. sets n₀ k (cell_counts y)) (sym w);
        }

pub copying_end : (room : ℕ) (src : List Float) (from : ℕ) (ns : List ℕ) (j faces : ℕ) (d₀ : List Float) (at : ℕ) (n₀ : List ℕ) (k : ℕ) (s : Kept) (d : List Float) (n : List ℕ) (o i : ℕ) → faces ≤ i →
    Copying room src from ns j faces d₀ at n₀ k s d n o i → Stored d₀ at n₀ k (left_cell room (cell_at src from (counts_at ns j faces))) (Ok s) d n
copying_end room src from ns j faces d₀ at n₀ k s d n o i h c =
    subst (λ x. Stored d₀ at n₀ k x (Ok s) d n)
    (sym (onward_end (add_face room) c.out) ∙ ap (onward (add_face room) c.out) (sym (ahead_done src ns j faces o i h)) ∙ c.rest) c.stored

pub copying_all : (room : ℕ) (src : List Float) (from : ℕ) (ns : List ℕ) (j faces : ℕ) (d₀ : List Float) (at : ℕ) (n₀ : List ℕ) (k : ℕ) (s : Kept) (d : List Float) (n : List ℕ) (o i : ℕ) → faces ≤ i →
    Filling room src from ns j faces d₀ at n₀ k s d n o i → Filled room (cell_at src from (counts_at ns j faces)) d₀ at n₀ k d n
unfolding added
copying_all room src from ns j faces d₀ at n₀ k s d n o i h f =
    let z = f.copying.stored in
    let w : added room [] (cell_at src from (counts_at ns j faces)) ≡ z.cell = sym f.more ∙ ap (added room z.cell) (ahead_done src ns j faces o i h) in
    record {
      floats = z.floats ∙ ap (λ y. sets d₀ at (cell_floats y)) (sym w);
      counts = z.counts ∙ ap (λ y. sets n₀ k (cell_counts y)) (sym w);
    }
