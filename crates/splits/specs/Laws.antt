-- Laws of the splitting of a list, in the words of the code.
use Rattle.std.specs.Prelude.{◌≡◌, refl, List, [], ◌∷◌, ◌++◌, ℕ, zero, suc, ◌+◌, ◌*◌, ◌≤◌, ◌<◌, length, take, drop, Float, Ok, Err}
use Rattle.std.proofs.Math.Path.{sym, ap, subst}
use Rattle.std.proofs.Common.{◌∙◌, append_assoc, arith, not-suc-le-zero, le_of_suc-le-suc, add-one, length-append, take_at, drop_at}
use Rattle.std.proofs.Math.ListN.{get_or}
use Rattle.std.proofs.Math.Seq.{sets}
use Rattle.std.proofs.lemmas.List.Edits.{sets-eq}
use Rattle.std.proofs.lemmas.List.{get_or_at}
use Rattle.refusal.specs.declared.Refusal.{Refusal}
use Rattle.refusal.specs.Outcome.{Outcome, then, walk}
use Rattle.space.specs.declared.Plane.{Plane}
use Rattle.space.specs.declared.Precision.{Precision}
use Rattle.space.specs.Shapes.{Cell, all_corners}
use Rattle.side.specs.Sides.{opposite_of}
use Rattle.polygon.specs.Members.{All}
use Rattle.room.specs.Rooms.{plane_floats, plane_at, face_at, cell_floats, cell_counts, cell_at, counts_at, Within}
use Rattle.room.specs.Laws.{sets_append, length_cell_counts, next_count, counts_done, cell_back, within_stored}
use Rattle.room.specs.Steps.{onward, onward_next, onward_end}
use Rattle.cell.specs.Laws.{Ahead, ahead_next, ahead_face, ahead_done}
use Rattle.clip.specs.Clips.{Given, Wide}
use Rattle.stack.specs.declared.Stack.{Stack}
use Rattle.stack.specs.Stacks.{cells_floats, cells_counts, cells_sizes, behind, cells_at, stack_of, list_at, Front, Sound, Lies, Listed, Holds, Places, Work}
use Rattle.stack.specs.Laws.{length_cells_floats, length_cells_sizes, behind_cell, listed_is, holds, numbers, listed_none, listed_refused, listed_same, places_on, work_on, list_heard}
use Rattle.split.specs.Splits.{split_cell}
use Rattle.splits.specs.Planes.{split_on, split_plane, split_all, planes_at, planes_floats, Standing}

-- ---- the place behind a cell

pub record Passing (src : List Float) (from : ℕ) (ns : List ℕ) (j faces o i : ℕ) : Type 0 where
  pub ahead : Ahead src ns j faces o i
  pub rest : behind o (drop i (counts_at ns j faces)) ≡ behind from (counts_at ns j faces)

pub passing_start : (src : List Float) (from : ℕ) (ns : List ℕ) (j faces : ℕ) → Given src from ns j faces → Passing src from ns j faces from 0
passing_start src from ns j faces g = record { ahead = record { upto = omega arith; within = g.within }; rest = refl }

pub passing_step : (src : List Float) (from : ℕ) (ns : List ℕ) (j faces o i : ℕ) → j + faces ≤ length ns → i < faces → Passing src from ns j faces o i →
    Passing src from ns j faces (o + 13 + 3 * get_or ns (j + i) 0) (i + 1)
unfolding behind
passing_step src from ns j faces o i listed h p = record {
  ahead = ahead_next src ns j faces o i listed h p.ahead;
  rest = sym (ap (behind o) (next_count ns j faces i h listed)) ∙ p.rest;
}

pub passing_end : (src : List Float) (from : ℕ) (ns : List ℕ) (j faces o i : ℕ) → faces ≤ i → Passing src from ns j faces o i → o ≡ behind from (counts_at ns j faces)
unfolding behind
passing_end src from ns j faces o i h p = sym (ap (behind o) (counts_done ns j faces i h)) ∙ p.rest

-- ---- cells from a place on

-- a list stands in another from the i-th place on
pub record Seam {A : Type 0} (l s : List A) (i : ℕ) : Type 0 where
  pub before : List A
  pub after : List A
  pub is : s ≡ before ++ (l ++ after)
  pub at : i ≡ length before

module _ {A : Type 0} (a b s : List A) (i : ℕ) (m : Seam (a ++ b) s i) where
  parts : s ≡ m.before ++ (a ++ (b ++ m.after))
  parts = m.is ∙ ap (λ l. m.before ++ l) (append_assoc a b m.after)

  seam_next : (k : ℕ) → k ≡ i + length a → Seam b s k
  seam_next k e = record {
    before = m.before ++ a;
    after = m.after;
    is = parts ∙ sym (append_assoc m.before a (b ++ m.after));
    at = omega (arith, e, m.at, length-append m.before a);
  }

  seam_head : (k : ℕ) → k ≡ length a → take k (drop i s) ≡ a
  seam_head k e = ap (λ l. take k (drop i l)) parts ∙ ap (take k) (drop_at m.before (a ++ (b ++ m.after)) i (sym m.at)) ∙ take_at a (b ++ m.after) k (sym e)

  seam_within : i + length a ≤ length s
  seam_within = omega (arith, m.at, ap length parts, length-append m.before (a ++ (b ++ m.after)), length-append a (b ++ m.after))

-- the floats of the cells stand from one place on, the numbers of corners of their faces and their own numbers of faces from others on
pub record Beyond (cs : List Cell) (d : List Float) (n z : List ℕ) (from j i : ℕ) : Type 0 where
  pub floats : Seam (cells_floats cs) d from
  pub counts : Seam (cells_counts cs) n j
  pub sizes : Seam (cells_sizes cs) z i

-- the first of them, and the others
pub record First (cs : List Cell) (d : List Float) (n z : List ℕ) (from j i : ℕ) : Type 0 where
  pub cell : Cell
  pub rest : List Cell
  pub both : cs ≡ cell ∷ rest
  pub inside : i < length z
  pub is : cell_at d from (counts_at n j (get_or z i 0)) ≡ cell
  pub given : Given d from n j (get_or z i 0)
  pub wide : Wide (cell_at d from (counts_at n j (get_or z i 0)))
  pub beyond : Beyond rest d n z (behind from (counts_at n j (get_or z i 0))) (j + get_or z i 0) (i + 1)
  pub sound : All Sound rest

first : (cs : List Cell) (d : List Float) (n z : List ℕ) (from j i : ℕ) → 0 < length cs → Beyond cs d n z from j i → All Sound cs → First cs d n z from j i
unfolding All cells_floats cells_counts cells_sizes
first [] d n z from j i h b a = absurd (not-suc-le-zero h)
first (c ∷ cs) d n z from j i h b a =
    let m : get_or z i 0 ≡ length c = ap (λ l. get_or l i 0) b.sizes.is ∙ get_or_at b.sizes.before (length c) (cells_sizes cs ++ b.sizes.after) 0 i (sym b.sizes.at) in
    let k : length (cell_counts c) ≡ length c = length_cell_counts c in
    let e : counts_at n j (get_or z i 0) ≡ cell_counts c = seam_head (cell_counts c) (cells_counts cs) n j b.counts (get_or z i 0) (m ∙ sym k) in
    let q : cell_at d from (counts_at n j (get_or z i 0)) ≡ c =
    ap (cell_at d from) e ∙ ap (λ l. cell_at l from (cell_counts c)) (parts (cell_floats c) (cells_floats cs) d from b.floats)
    ∙ cell_back b.floats.before c (cells_floats cs ++ b.floats.after) from b.floats.at in
    record {
      cell = c;
      rest = cs;
      both = refl;
      inside = omega (arith, seam_within (length c ∷ []) (cells_sizes cs) z i b.sizes);
      is = q;
      given = record {
        listed = omega (arith, m, k, seam_within (cell_counts c) (cells_counts cs) n j b.counts);
        within = subst (λ l. Within l from (length d)) (sym e) (within_stored c from (length d) a.0.small (seam_within (cell_floats c) (cells_floats cs) d from b.floats));
      };
      wide = subst Wide (sym q) a.0.wide;
      beyond = record {
        floats = seam_next (cell_floats c) (cells_floats cs) d from b.floats _ (ap (behind from) e ∙ behind_cell c from);
        counts = seam_next (cell_counts c) (cells_counts cs) n j b.counts _ (omega (arith, m, k));
        sizes = seam_next (length c ∷ []) (cells_sizes cs) z i b.sizes _ refl;
      };
      sound = a.1;
    }

-- ---- one plane

abbrev turn : Precision → ℕ → Plane → Plane → List Cell → Cell → Outcome (List Cell)
turn t room p o next c = split_cell t room p o c next

-- of k cells in a room, i are split; the next one stands from the places on
pub record Splitting (t : Precision) (room : ℕ) (p o : Plane) (k : ℕ) (d : List Float) (n z : List ℕ) (s : Stack) (f : List Float) (m y : List ℕ) (from j i : ℕ) : Type 0 where
  pub rest : List Cell
  pub beyond : Beyond rest d n z from j i
  pub sound : All Sound rest
  pub many : i + length rest ≡ k
  pub holds : Holds room s f m y
  pub left : onward (turn t room p o) (list_at s f m y) rest ≡ split_on t room p o (cells_at d 0 n (take k z))

pub splitting_start : (t : Precision) (room : ℕ) (p o : Plane) (k : ℕ) (d : List Float) (n z : List ℕ) (s : Stack) (f : List Float) (m y : List ℕ) → Standing room k d n z → s ≡ stack_of (Ok []) →
    Splitting t room p o k d n z s f m y 0 0 0
unfolding split_on
splitting_start t room p o k d n z s f m y h e =
    let l = listed_none room s f m y e in
    let cs = cells_at d 0 n (take k z) in
    record {
      rest = cs;
      beyond = record {
        floats = record { before = []; after = h.lies.floats.tail; is = h.lies.floats.is; at = refl };
        counts = record { before = []; after = h.lies.counts.tail; is = h.lies.counts.is; at = refl };
        sizes = record { before = []; after = h.lies.sizes.tail; is = h.lies.sizes.is; at = refl };
      };
      sound = h.lies.sound;
      many = omega (arith, h.many);
      holds = holds room (Ok []) s f m y l;
      left = ap (λ q. onward (turn t room p o) q cs) (listed_is room (Ok []) s f m y l);
    }

module _ {t : Precision} {room : ℕ} {p o : Plane} {k : ℕ} {d : List Float} {n z : List ℕ} {s : Stack} {f : List Float} {m y : List ℕ} {from j i : ℕ}
    (I : Splitting t room p o k d n z s f m y from j i) where
  pub splitting_first : i < k → First I.rest d n z from j i
  splitting_first h = first I.rest d n z from j i (omega (arith, I.many)) I.beyond I.sound

  pub splitting_step : (r : Stack) (f' : List Float) (m' y' : List ℕ) (to : ℕ) → i < k →
      Listed room (then (list_at s f m y) (split_cell t room p o (cell_at d from (counts_at n j (get_or z i 0))))) r f' m' y' → to ≡ behind from (counts_at n j (get_or z i 0)) →
      Splitting t room p o k d n z r f' m' y' to (j + get_or z i 0) (i + 1)
  splitting_step r f' m' y' to h l e =
      let F = splitting_first h in
      record {
        rest = F.rest;
        beyond = subst (λ x. Beyond F.rest d n z x (j + get_or z i 0) (i + 1)) (sym e) F.beyond;
        sound = F.sound;
        many = omega (arith, I.many, ap length F.both);
        holds = holds room _ r f' m' y' l;
        left = ap (λ q. onward (turn t room p o) q F.rest) (listed_is room _ r f' m' y' l ∙ ap (λ c. then (list_at s f m y) (split_cell t room p o c)) F.is)
            ∙ onward_next (turn t room p o) (list_at s f m y) F.cell F.rest ∙ ap (onward (turn t room p o) (list_at s f m y)) (sym F.both) ∙ I.left;
      }

  ended : (l : List Cell) → length l ≡ 0 → onward (turn t room p o) (list_at s f m y) l ≡ list_at s f m y
  ended [] e = onward_end (turn t room p o) (list_at s f m y)
  ended (c ∷ l) e = absurd (omega arith)

  pub splitting_end : k ≤ i → Listed room (split_on t room p o (cells_at d 0 n (take k z))) s f m y
  splitting_end h = subst (λ q. Listed room q s f m y) (sym (ended I.rest (omega (arith, I.many))) ∙ I.left) I.holds

-- ---- a list is copied

front_copied : {A : Type 0} (l s d : List A) (k : ℕ) → k ≡ length l → length l ≤ length d → Front l s → Front l (sets d 0 (take k s))
front_copied l s d k e h f = record {
  tail = drop (0 + length l) d;
  is = ap (sets d 0) (ap (take k) f.is ∙ take_at l f.tail k (sym e)) ∙ sets-eq l d 0 (omega arith);
}

list_copied : (room : ℕ) (s : Stack) (d : List Float) (n z : List ℕ) (d' : List Float) (n' z' : List ℕ) → Holds room s d n z → Places room d' n' z' →
    Listed room (list_at s d n z) s (sets d' 0 (take (13 * s.faces + 3 * s.corners) d)) (sets n' 0 (take s.faces n)) (sets z' 0 (take s.cells z))
unfolding stack_of
list_copied room s d n z d' n' z' h p = record {
  is = h.is;
  lies = λ cs q.
      let l = h.lies cs q in
      let e : s ≡ stack_of (Ok cs) = h.is ∙ ap stack_of q in
      let u = numbers room _ s d n z h in
      let a : s.faces ≡ length (cells_counts cs) = ap (λ x. x.faces) e in
      let b : s.corners ≡ all_corners 0 cs = ap (λ x. x.corners) e in
      let c : s.cells ≡ length cs = ap (λ x. x.cells) e in
      record {
        floats = front_copied (cells_floats cs) d d' (13 * s.faces + 3 * s.corners) (omega (arith, a, b, length_cells_floats cs)) (omega (arith, a, b, length_cells_floats cs, u.fit, u.wide, p.place)) l.floats;
        counts = front_copied (cells_counts cs) n n' s.faces a (omega (arith, a, u.fit, u.wide, p.slots)) l.counts;
        sizes = front_copied (cells_sizes cs) z z' s.cells (omega (arith, c, length_cells_sizes cs)) (omega (arith, c, length_cells_sizes cs, u.fit, u.wide, u.some, p.seats)) l.sizes;
        sound = l.sound;
        fit = l.fit;
      };
}

pub list_placed : (room : ℕ) (s : Stack) (d : List Float) (n z : List ℕ) (d₀ : List Float) (n₀ z₀ : List ℕ) → Holds room s d n z → Places room d₀ n₀ z₀ → (d' : List Float) (n' z' : List ℕ) →
    d' ≡ sets d₀ 0 (take (13 * s.faces + 3 * s.corners) d) → n' ≡ sets n₀ 0 (take s.faces n) → z' ≡ sets z₀ 0 (take s.cells z) → Listed room (list_at s d n z) s d' n' z'
list_placed room s d n z d₀ n₀ z₀ h p d' n' z' ed en ez = listed_same room refl refl (sym ed) (sym en) (sym ez) (list_copied room s d n z d₀ n₀ z₀ h p)

pub list_carried : (room : ℕ) (q : Outcome (List Cell)) (s : Stack) (d : List Float) (n z : List ℕ) (d' : List Float) (n' z' : List ℕ) → Listed room q s d n z → Listed room (list_at s d n z) s d' n' z' →
    Listed room q s d' n' z'
list_carried room q s d n z d' n' z' l k = subst (λ x. Listed room x s d' n' z') (listed_is room q s d n z l) k

-- ---- the plane and its opposite

module _ (room : ℕ) (s : Stack) (d : List Float) (n z : List ℕ) (h : Holds room s d n z) (v : s.verdict ≡ Ok tt) where
  pub list_stands : Standing room s.cells d n z
  unfolding stack_of
  list_stands = record { lies = h.lies _ (list_heard s d n z v); many = sym (ap (λ x. x.cells) (h.is ∙ ap stack_of (list_heard s d n z v))) }

  turned : (t : Precision) (w : Plane) (q : Outcome Plane) → opposite_of t w ≡ q → then (list_at s d n z) (λ cs. split_plane t room cs w) ≡ then q (λ o. split_on t room w o (cells_at d 0 n (take s.cells z)))
  unfolding split_plane
  turned t w q e = ap (λ x. then x (λ cs. split_plane t room cs w)) (list_heard s d n z v) ∙ ap (λ x. then x (λ o. split_on t room w o (cells_at d 0 n (take s.cells z)))) e

  pub plane_made : (t : Precision) (w : Plane) (o : Outcome Plane) (back : Plane) (r : Stack) (d' : List Float) (n' z' : List ℕ) → o ≡ opposite_of t w → o ≡ Ok back →
      Listed room (split_on t room w back (cells_at d 0 n (take s.cells z))) r d' n' z' → Listed room (then (list_at s d n z) (λ cs. split_plane t room cs w)) r d' n' z'
  plane_made t w o back r d' n' z' e q l = subst (λ x. Listed room x r d' n' z') (sym (turned t w (Ok back) (sym e ∙ q))) l

  pub plane_refused : (t : Precision) (w : Plane) (o : Outcome Plane) (x : Refusal) (r : Stack) → o ≡ opposite_of t w → o ≡ Err x → r ≡ stack_of (Err x) →
      Listed room (then (list_at s d n z) (λ cs. split_plane t room cs w)) r d n z
  plane_refused t w o x r e q g = subst (λ y. Listed room y r d n z) (sym (turned t w (Err x) (sym e ∙ q))) (listed_refused room x r d n z g)

-- ---- the walk over planes in a slice

planes_from : (s : List Float) (at n i : ℕ) → i < n → drop i (planes_at s at n) ≡ plane_at s (at + 13 * i) ∷ drop (suc i) (planes_at s at n)
unfolding planes_at
planes_from s at zero i h = absurd (not-suc-le-zero h)
planes_from s at (suc n) zero h = ap (λ k. plane_at s k ∷ planes_at s (at + 13) n) (omega arith)
planes_from s at (suc n) (suc i) h = planes_from s (at + 13) n i (le_of_suc-le-suc h) ∙ ap (λ k. plane_at s k ∷ drop (suc i) (planes_at s (at + 13) n)) (omega arith)

next_plane : (s : List Float) (n i : ℕ) → i < n → drop i (planes_at s 0 n) ≡ plane_at s (13 * i) ∷ drop (i + 1) (planes_at s 0 n)
next_plane s n i h = planes_from s 0 n i h ∙ ap (λ k. plane_at s k ∷ drop (suc i) (planes_at s 0 n)) (omega arith) ∙ ap (λ k. plane_at s (13 * i) ∷ drop k (planes_at s 0 n)) (sym (add-one i))

planes_done : (s : List Float) (at n i : ℕ) → n ≤ i → drop i (planes_at s at n) ≡ []
unfolding planes_at
planes_done s at zero zero h = refl
planes_done s at zero (suc i) h = refl
planes_done s at (suc n) zero h = absurd (not-suc-le-zero h)
planes_done s at (suc n) (suc i) h = planes_done s (at + 13) n i (le_of_suc-le-suc h)

-- of n planes, i are done
pub record Cutting (t : Precision) (room : ℕ) (ps : List Float) (n : ℕ) (whole : Outcome (List Cell)) (s : Stack) (d : List Float) (m z : List ℕ) (i : ℕ) : Type 0 where
  pub upto : i ≤ n
  pub holds : Holds room s d m z
  pub rest : onward (split_plane t room) (list_at s d m z) (drop i (planes_at ps 0 n)) ≡ whole

pub cutting_start : (t : Precision) (room : ℕ) (ps : List Float) (n : ℕ) (s : Stack) (d : List Float) (m z : List ℕ) → Holds room s d m z →
    Cutting t room ps n (then (list_at s d m z) (split_all t room (planes_at ps 0 n))) s d m z 0
unfolding split_all
cutting_start t room ps n s d m z h = record { upto = omega arith; holds = h; rest = refl }

module _ {t : Precision} {room : ℕ} {ps : List Float} {n : ℕ} {whole : Outcome (List Cell)} {s : Stack} {d : List Float} {m z : List ℕ} {i : ℕ} (I : Cutting t room ps n whole s d m z i) where
  pub cutting_step : (w : Plane) (r : Stack) (d' : List Float) (m' z' : List ℕ) → i < n → w ≡ plane_at ps (13 * i) → Listed room (then (list_at s d m z) (λ cs. split_plane t room cs w)) r d' m' z' →
      Cutting t room ps n whole r d' m' z' (i + 1)
  cutting_step w r d' m' z' h e l =
      let k = drop (i + 1) (planes_at ps 0 n) in
      record {
        upto = omega arith;
        holds = holds room _ r d' m' z' l;
        rest = ap (λ q. onward (split_plane t room) q k) (listed_is room _ r d' m' z' l ∙ ap (λ x. then (list_at s d m z) (λ cs. split_plane t room cs x)) e)
            ∙ onward_next (split_plane t room) (list_at s d m z) (plane_at ps (13 * i)) k ∙ ap (onward (split_plane t room) (list_at s d m z)) (sym (next_plane ps n i h)) ∙ I.rest;
      }

  pub cutting_end : n ≤ i → Listed room whole s d m z
  cutting_end h =
      subst (λ q. Listed room q s d m z) (sym (onward_end (split_plane t room) (list_at s d m z)) ∙ ap (onward (split_plane t room) (list_at s d m z)) (sym (planes_done ps 0 n i h)) ∙ I.rest) I.holds

-- ---- slices that are as long as they were

pub record Three (d : List Float) (n z : List ℕ) (d₀ : List Float) (n₀ z₀ : List ℕ) : Type 0 where
  pub dst : length d ≡ length d₀
  pub counts : length n ≡ length n₀
  pub sizes : length z ≡ length z₀

pub record Five (f p a : List Float) (o c : List ℕ) (f₀ p₀ a₀ : List Float) (o₀ c₀ : List ℕ) : Type 0 where
  pub face : length f ≡ length f₀
  pub cap : length p ≡ length p₀
  pub flat : length a ≡ length a₀
  pub order : length o ≡ length o₀
  pub chain : length c ≡ length c₀

pub places_three : (room : ℕ) (d₀ : List Float) (n₀ z₀ : List ℕ) (d : List Float) (n z : List ℕ) → Places room d₀ n₀ z₀ → Three d n z d₀ n₀ z₀ → Places room d n z
places_three room d₀ n₀ z₀ d n z p l = places_on room d₀ n₀ z₀ d n z p l.dst l.counts l.sizes

pub work_five : (f₀ p₀ a₀ : List Float) (o₀ c₀ : List ℕ) (f p a : List Float) (o c : List ℕ) → Work f₀ p₀ a₀ o₀ c₀ → Five f p a o c f₀ p₀ a₀ o₀ c₀ → Work f p a o c
work_five f₀ p₀ a₀ o₀ c₀ f p a o c w l = work_on f₀ p₀ a₀ o₀ c₀ f p a o c w l.face l.cap l.flat l.order l.chain

-- ---- the planes of a cell

pub record Copying (src : List Float) (from : ℕ) (ns : List ℕ) (j faces : ℕ) (p₀ : List Float) (k : ℕ) (p : List Float) (o i : ℕ) : Type 0 where
  pub ahead : Ahead src ns j faces o i
  pub same : length p ≡ length p₀
  pub rest : sets p (13 * k + 13 * i) (planes_floats (cell_at src o (drop i (counts_at ns j faces)))) ≡ sets p₀ (13 * k) (planes_floats (cell_at src from (counts_at ns j faces)))

pub copying_start : (src : List Float) (from : ℕ) (ns : List ℕ) (j faces : ℕ) (p : List Float) (k : ℕ) → Given src from ns j faces → Copying src from ns j faces p k p from 0
copying_start src from ns j faces p k g = record {
  ahead = record { upto = omega arith; within = g.within };
  same = refl;
  rest = ap (λ x. sets p x (planes_floats (cell_at src from (counts_at ns j faces)))) (omega arith);
}

module _ {src : List Float} {from : ℕ} {ns : List ℕ} {j faces : ℕ} {p₀ : List Float} {k : ℕ} {p : List Float} {o i : ℕ} (I : Copying src from ns j faces p₀ k p o i) where
  pub copying_step : (w : Plane) (p' : List Float) → j + faces ≤ length ns → i < faces → w ≡ plane_at src o → p' ≡ sets p (13 * k + 13 * i) (plane_floats w) → length p' ≡ length p →
      Copying src from ns j faces p₀ k p' (o + 13 + 3 * get_or ns (j + i) 0) (i + 1)
  unfolding planes_floats
  copying_step w p' listed h e g l =
      let q = 13 * k + 13 * i in
      let x = planes_floats (cell_at src (o + 13 + 3 * get_or ns (j + i) 0) (drop (i + 1) (counts_at ns j faces))) in
      record {
        ahead = ahead_next src ns j faces o i listed h I.ahead;
        same = l ∙ I.same;
        rest = ap (λ y. sets y (13 * k + 13 * (i + 1)) x) (g ∙ ap (λ y. sets p q (plane_floats y)) e) ∙ ap (λ y. sets (sets p q (plane_floats (plane_at src o))) y x) (omega arith)
            ∙ sets_append p q (plane_floats (plane_at src o)) x
            ∙ ap (λ c. sets p q (planes_floats c)) (sym (ahead_face src ns j faces o i listed h I.ahead)) ∙ I.rest;
      }

  pub copying_end : faces ≤ i → p ≡ sets p₀ (13 * k) (planes_floats (cell_at src from (counts_at ns j faces)))
  unfolding planes_floats
  copying_end h = sym (ap (λ c. sets p (13 * k + 13 * i) (planes_floats c)) (ahead_done src ns j faces o i h)) ∙ I.rest
