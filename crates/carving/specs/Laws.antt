-- Laws of the remainder and of the pieces, in the words of the code.
use Rattle.std.specs.Prelude.{◌≡◌, true, false, List, ℕ, ◌+◌, ◌*◌, ◌≤◌, Float, Ok, Err, Some, None}
use Rattle.std.proofs.Math.Path.{refl, sym, ap, subst}
use Rattle.std.proofs.Common.{◌∙◌, true≢false, arith}
use Rattle.std.proofs.lemmas.Bool.{false≢true}
use Rattle.std.proofs.Math.ListN.{length, take}
use Rattle.std.proofs.lemmas.List.Edits.{sets}
use Rattle.std.proofs.Math.Seq.{length-sets}
use Rattle.refusal.specs.declared.Refusal.{Refusal}
use Rattle.refusal.specs.Outcome.{Outcome, then, heard}
use Rattle.refusal.specs.Laws.{never_ok}
use Rattle.lists.specs.Laws.{front_stored}
use Rattle.space.specs.declared.Plane.{Plane}
use Rattle.space.specs.declared.Precision.{Precision}
use Rattle.space.specs.Shapes.{Cell, Part, nothing, part}
use Rattle.side.specs.Sides.{opposite_of}
use Rattle.room.specs.Rooms.{cell_floats, cell_counts, cell_at, counts_at, Within}
use Rattle.room.specs.Laws.{length_cell_floats, length_cell_counts, cell_stored, within_stored}
use Rattle.room.specs.Steps.{then_then}
use Rattle.clip.specs.Cuts.{clip}
use Rattle.clip.specs.Clips.{Clipped, Wide, told, Sized, Clips}
use Rattle.clip.specs.Bounds.{part_wide, part_some, part_fit}
use Rattle.stack.specs.declared.Stack.{Stack}
use Rattle.stack.specs.Stacks.{cells_at, add_cut, stack_of, list_at, Listed}
use Rattle.stack.specs.Laws.{listed_is, holds, listed_refused}
use Rattle.carving.specs.declared.Rest.{Rest}
use Rattle.carving.specs.declared.Carved.{Carved}
use Rattle.carving.specs.Carvings.{Carving, carving, carve_on, carve_cell, carve_part, clip_part}
use Rattle.carving.specs.Rests.{part_at, rest_at, Sits, Kept, Left, Place, kept_rest, kept_floats, kept_counts, Keeps, Inside, carving_at, Ready, ended, Carves}

-- ---- the remainder

-- a cell that was copied to the front of a room sits there
module _ (c : Cell) (d : List Float) (n : List ℕ) (h : length (cell_floats c) ≤ length d) (g : length c ≤ length n) where
  cell_copied : cell_at (sets d 0 (cell_floats c)) 0 (counts_at (sets n 0 (cell_counts c)) 0 (length c)) ≡ c
  cell_copied =
      ap (cell_at (sets d 0 (cell_floats c)) 0) (front_stored (cell_counts c) n (length c) (sym (length_cell_counts c)) (omega (arith, length_cell_counts c)))
      ∙ cell_stored d 0 c (omega arith)

module _ (t : Precision) (room : ℕ) (w : Plane) (c : Cell) where
  -- what a cut answers fits a room
  pub clip_inside : (p : Outcome Clipped) (s : List Float) (at : ℕ) (k : List ℕ) (i : ℕ) (s' : List Float) (k' : List ℕ) (d n : ℕ) →
      Clips (clip t room w c) p s at k i s' k' → 3 * room + 1664 ≤ d → 128 ≤ n → Inside d n p
  unfolding told Sized Inside
  clip_inside (Ok None) s at k i s' k' d n x ld ln = tt
  clip_inside (Ok (Some f)) s at k i s' k' d n x ld ln =
      let b = part_fit t room w c x.cell (sym x.is) in
      (omega (arith, x.sized.0, x.sized.1, b.few, b.fit), omega (arith, x.sized.0, b.few))
  clip_inside (Err r) s at k i s' k' d n x ld ln = tt

  module _ (s : List Float) (k : List ℕ) (s' : List Float) (k' : List ℕ) (d : List Float) (n : List ℕ) (a : Wide c) (ls : Place room s k) (ld : Place room d n) where
    part_kept : (f m : ℕ) → Clips (clip t room w c) (Ok (Some (record { faces = f; corners = m }))) s 0 k 0 s' k' →
        Sits f (sets d 0 (take (13 * f + 3 * m) s')) (sets n 0 (take f k')) × (clip t room w c ≡ Ok (part (cell_at (sets d 0 (take (13 * f + 3 * m) s')) 0 (counts_at (sets n 0 (take f k')) 0 f))))
    unfolding told Sized
    part_kept f m x =
        let b = part_fit t room w c x.cell (sym x.is) in
        let l = length_cell_floats x.cell in
        let i = length_cell_counts x.cell in
        let e1 : take (13 * f + 3 * m) s' ≡ cell_floats x.cell =
        ap (take (13 * f + 3 * m)) x.floats ∙ front_stored (cell_floats x.cell) s (13 * f + 3 * m) (omega (arith, l, x.sized.0, x.sized.1)) (omega (arith, l, b.few, b.fit, ls.place)) in
        let e2 : take f k' ≡ cell_counts x.cell =
        ap (take f) x.counts ∙ front_stored (cell_counts x.cell) k f (omega (arith, i, x.sized.0)) (omega (arith, i, b.few, ls.slots)) in
        let h : length (cell_floats x.cell) ≤ length d = omega (arith, l, b.few, b.fit, ld.place) in
        let g : length x.cell ≤ length n = omega (arith, b.few, ld.slots) in
        let q = cell_copied x.cell d n h g in
        let u : counts_at (sets n 0 (cell_counts x.cell)) 0 (length x.cell) ≡ cell_counts x.cell =
        front_stored (cell_counts x.cell) n (length x.cell) (sym i) (omega (arith, i)) in
        let base : Sits (length x.cell) (sets d 0 (cell_floats x.cell)) (sets n 0 (cell_counts x.cell)) = record {
          given = record {
            listed = omega (arith, length-sets n 0 (cell_counts x.cell));
            within = subst (λ y. Within y 0 (length (sets d 0 (cell_floats x.cell)))) (sym u) (within_stored x.cell 0 (length (sets d 0 (cell_floats x.cell))) x.small (omega (arith, length-sets d 0 (cell_floats x.cell))));
          };
          wide = subst Wide (sym q) (part_wide t room w c x.cell (sym x.is) a);
          some = part_some t room w c x.cell (sym x.is);
          few = b.few;
        } in (
          subst (λ y. Sits y (sets d 0 (take (13 * f + 3 * m) s')) (sets n 0 (take f k'))) (sym x.sized.0)
              (subst (λ y. Sits (length x.cell) (sets d 0 y) (sets n 0 (take f k'))) (sym e1)
              (subst (λ y. Sits (length x.cell) (sets d 0 (cell_floats x.cell)) (sets n 0 y)) (sym e2) base)),
          sym x.is ∙ ap (λ y. Ok (part y)) (sym q)
              ∙ ap (λ y. Ok (part (cell_at (sets d 0 (cell_floats x.cell)) 0 (counts_at (sets n 0 y) 0 (length x.cell))))) (sym e2)
              ∙ ap (λ y. Ok (part (cell_at (sets d 0 y) 0 (counts_at (sets n 0 (take f k')) 0 (length x.cell))))) (sym e1)
              ∙ ap (λ y. Ok (part (cell_at (sets d 0 (take (13 * f + 3 * m) s')) 0 (counts_at (sets n 0 (take f k')) 0 y)))) (sym x.sized.0),
        )

    cut_kept : (p : Outcome Clipped) → Clips (clip t room w c) p s 0 k 0 s' k' → Kept (kept_rest p) (kept_floats p d s') (kept_counts p n k') × (rest_at (kept_rest p) (kept_floats p d s') (kept_counts p n k') ≡ clip t room w c)
    unfolding told kept_rest kept_floats kept_counts rest_at part_at heard
    cut_kept (Ok None) x = (record { sits = λ e. absurd (false≢true e); fine = λ e. absurd (false≢true e) }, x.is)
    cut_kept (Ok (Some f)) x = let q = part_kept f.faces f.corners x in (record { sits = λ e. q.0; fine = λ e. refl }, sym q.1)
    cut_kept (Err r) x = (record { sits = λ e. absurd (false≢true e); fine = λ e. absurd (false≢true e) }, x.is)

-- ---- one cut of the remainder

pub left_stays : (g : Part → Outcome Part) (s : Rest) (d : List Float) (n : List ℕ) (e : Refusal) → s.verdict ≡ Err e → Left g s (record { verdict = s.verdict; some = false; faces = 0 }) d n d n
unfolding rest_at heard
left_stays g s d n e v = record {
  kept = record { sits = λ x. absurd (false≢true x); fine = λ x. absurd (false≢true x) };
  is = ap (λ y. heard y (part_at false 0 d n)) v ∙ ap (λ o. then o g) (sym (ap (λ y. heard y (part_at s.some s.faces d n)) v));
}

pub left_nothing : (t : Precision) (room : ℕ) (w : Plane) (s : Rest) (d : List Float) (n : List ℕ) → s.verdict ≡ Ok tt → s.some ≡ false → Left (clip_part t room w) s s d n d n
unfolding rest_at heard part_at clip_part
left_nothing t room w s d n v e = record {
  kept = record { sits = λ x. absurd (true≢false (sym x ∙ e)); fine = λ x. v };
  is =
      let q : rest_at s d n ≡ Ok nothing = ap (λ y. heard y (part_at s.some s.faces d n)) v ∙ ap (λ y. Ok (part_at y s.faces d n)) e in
      q ∙ ap (λ o. then o (clip_part t room w)) (sym q);
}

pub left_cut : (t : Precision) (room : ℕ) (w : Plane) (s r : Rest) (p : Outcome Clipped) (d : List Float) (n : List ℕ) (x : List Float) (k : List ℕ) (x' : List Float) (k' : List ℕ) (d' : List Float) (n' : List ℕ) →
    s.verdict ≡ Ok tt → s.some ≡ true → (s.some ≡ true → Sits s.faces d n) → Place room x k → Place room d n →
    Clips (clip t room w (cell_at d 0 (counts_at n 0 s.faces))) p x 0 k 0 x' k' → Keeps p r d n x' k' d' n' →
    Left (clip_part t room w) s r d n d' n'
unfolding rest_at heard part_at clip_part
left_cut t room w s r p d n x k x' k' d' n' v e h lx ld y kp =
    let c = cell_at d 0 (counts_at n 0 s.faces) in
    let q : rest_at s d n ≡ Ok (part (cell_at d 0 (counts_at n 0 s.faces))) = ap (λ y. heard y (part_at s.some s.faces d n)) v ∙ ap (λ y. Ok (part_at y s.faces d n)) e in
    let g = cut_kept t room w c x k x' k' d n (h e).wide lx ld p y in
    subst (λ z. Left (clip_part t room w) s z d n d' n') (sym kp.rest)
    (subst (λ z. Left (clip_part t room w) s (kept_rest p) d n z n') (sym kp.floats)
    (subst (λ z. Left (clip_part t room w) s (kept_rest p) d n (kept_floats p d x') z) (sym kp.counts)
    (record { kept = g.0; is = g.1 ∙ ap (λ o. then o (clip_part t room w)) (sym q) })))

-- ---- keep, in the words of the code

pub keep_nothing : (p : Outcome Clipped) (d : List Float) (n : List ℕ) (s : List Float) (k : List ℕ) → p ≡ Ok None →
    Keeps p (record { verdict = Ok tt; some = false; faces = 0 }) d n s k d n
unfolding kept_rest kept_floats kept_counts
keep_nothing p d n s k e = record { rest = ap kept_rest (sym e); floats = ap (λ y. kept_floats y d s) (sym e); counts = ap (λ y. kept_counts y n k) (sym e) }

pub keep_refused : (p : Outcome Clipped) (x : Refusal) (d : List Float) (n : List ℕ) (s : List Float) (k : List ℕ) → p ≡ Err x →
    Keeps p (record { verdict = Err x; some = false; faces = 0 }) d n s k d n
unfolding kept_rest kept_floats kept_counts
keep_refused p x d n s k e = record { rest = ap kept_rest (sym e); floats = ap (λ y. kept_floats y d s) (sym e); counts = ap (λ y. kept_counts y n k) (sym e) }

pub keep_part : (p : Outcome Clipped) (f m : ℕ) (d : List Float) (n : List ℕ) (s : List Float) (k : List ℕ) (d' : List Float) (n' : List ℕ) → p ≡ Ok (Some (record { faces = f; corners = m })) →
    d' ≡ sets d 0 (take (13 * f + 3 * m) s) → n' ≡ sets n 0 (take f k) →
    Keeps p (record { verdict = Ok tt; some = true; faces = f }) d n s k d' n'
unfolding kept_rest kept_floats kept_counts
keep_part p f m d n s k d' n' e ed en = record { rest = ap kept_rest (sym e); floats = ed ∙ ap (λ y. kept_floats y d s) (sym e); counts = en ∙ ap (λ y. kept_counts y n k) (sym e) }

pub inside_part : (a b : ℕ) (p : Outcome Clipped) (f m : ℕ) → p ≡ Ok (Some (record { faces = f; corners = m })) → Inside a b p → (13 * f + 3 * m ≤ a) × (f ≤ b)
unfolding Inside
inside_part a b p f m e h = subst (Inside a b) e h

-- ---- the piece and the remainder

module _ (t : Precision) (room : ℕ) (o p : Plane) (c : Cell) (d : List Float) (n : List ℕ) where
  joins : (u : Outcome (List Cell)) (out : Stack) (r : Outcome Part) → out ≡ stack_of u → r ≡ then (heard out.verdict (part c)) (clip_part t room p) →
      then u (λ cs. then r (λ q. carving q cs)) ≡ then u (λ cs. then (clip t room p c) (λ q. carving q cs))
  unfolding stack_of heard clip_part
  joins (Ok cs) out r e q = ap (λ y. then y (λ z. carving z cs)) (q ∙ ap (λ y. then (heard y.verdict (part c)) (clip_part t room p)) e)
  joins (Err x) out r e q = refl

-- a refusal is no answer
heard_fine : {A : Type 0} (v : Outcome Unit) (a : A) (g : A → Outcome Part) (q : Part) → Ok q ≡ then (heard v a) g → v ≡ Ok tt
unfolding heard
heard_fine (Ok tt) a g q e = refl
heard_fine (Err r) a g q e = never_ok (sym e)

module _ (t : Precision) (room : ℕ) (o p : Plane) (list out : Stack) (s left : Rest) (d : List Float) (n : List ℕ) (f : List Float) (m z : List ℕ) (d' : List Float) (n' : List ℕ) (f' : List Float) (m' z' : List ℕ) where
  pub carved : Listed room (then (list_at list f m z) (add_cut t room o (cell_at d 0 (counts_at n 0 s.faces)))) out f' m' z' → Left (clip_part t room p) s left d n d' n' →
      s.verdict ≡ out.verdict → s.some ≡ true →
      Ready room (record { rest = left; list = out }) d' n' f' m' z' ×
      (carving_at (record { rest = left; list = out }) d' n' f' m' z' ≡ then (list_at list f m z) (carve_on t room o p (cell_at d 0 (counts_at n 0 s.faces))))
  unfolding carving_at rest_at part_at carve_on heard
  carved l r ev es =
      let c = cell_at d 0 (counts_at n 0 s.faces) in
      let q : rest_at left d' n' ≡ then (heard out.verdict (part (cell_at d 0 (counts_at n 0 s.faces)))) (clip_part t room p) =
      r.is ∙ ap (λ v. then (heard v (part_at s.some s.faces d n)) (clip_part t room p)) ev ∙ ap (λ b. then (heard out.verdict (part_at b s.faces d n)) (clip_part t room p)) es in
      let u = then (list_at list f m z) (add_cut t room o (cell_at d 0 (counts_at n 0 s.faces))) in (
        record {
          kept = r.kept;
          holds = holds room u out f' m' z' l;
          fine = λ e. heard_fine out.verdict (part c) (clip_part t room p) (part_at left.some left.faces d' n') (sym (ap (λ v. heard v (part_at left.some left.faces d' n')) (r.kept.fine e)) ∙ q);
        },
        ap (λ y. then y (λ cs. then (rest_at left d' n') (λ x. carving x cs))) (listed_is room u out f' m' z' l)
            ∙ joins t room o p c d n u out (rest_at left d' n') l.is q
            ∙ then_then (list_at list f m z) (add_cut t room o c) (λ cs. then (clip t room p c) (λ x. carving x cs)),
      )

-- ---- one plane of the second cell

nothing_steps : (t : Precision) (room : ℕ) (p : Plane) (u : Outcome (List Cell)) (v : Outcome Unit) →
    then u (λ cs. then (heard v nothing) (λ q. carving q cs))
    ≡ then (then u (λ cs. then (heard v nothing) (λ q. carving q cs))) (λ x. carve_part t room x.out x.rest p)
unfolding heard carve_part
nothing_steps t room p (Ok cs) (Ok tt) = refl
nothing_steps t room p (Ok cs) (Err e) = refl
nothing_steps t room p (Err r) v = refl

module _ (t : Precision) (room : ℕ) (p : Plane) (s : Carved) (d : List Float) (n : List ℕ) (f : List Float) (m z : List ℕ) (h : Ready room s d n f m z) where
  -- nothing remains
  pub carves_nothing : s.rest.some ≡ false → Carves room (λ x. carve_part t room x.out x.rest p) s s d n f m z d n f m z
  unfolding carving_at rest_at part_at
  carves_nothing e =
      let q : carving_at s d n f m z ≡ then (list_at s.list f m z) (λ cs. then (heard s.rest.verdict nothing) (λ x. carving x cs)) =
      ap (λ b. then (list_at s.list f m z) (λ cs. then (heard s.rest.verdict (part_at b s.rest.faces d n)) (λ x. carving x cs))) e in
      record { ready = h; is = q ∙ nothing_steps t room p (list_at s.list f m z) s.rest.verdict ∙ ap (λ y. then y (λ x. carve_part t room x.out x.rest p)) (sym q) }

  module _ (e : s.rest.some ≡ true) where
    -- a part remains
    list_of : (cs : List Cell) × (list_at s.list f m z ≡ Ok cs)
    unfolding list_at heard
    list_of = (cells_at f 0 m (take s.list.cells z), ap (λ v. heard v (cells_at f 0 m (take s.list.cells z))) (h.fine e))

    carving_of : carving_at s d n f m z ≡ carving (part (cell_at d 0 (counts_at n 0 s.rest.faces))) list_of.0
    unfolding carving_at rest_at part_at heard
    carving_of =
        ap (λ y. then y (λ cs. then (rest_at s.rest d n) (λ x. carving x cs))) list_of.1
        ∙ ap (λ v. then (heard v (part_at s.rest.some s.rest.faces d n)) (λ x. carving x list_of.0)) (h.kept.fine e)
        ∙ ap (λ b. carving (part_at b s.rest.faces d n) list_of.0) e

    step_is : then (carving_at s d n f m z) (λ x. carve_part t room x.out x.rest p) ≡ then (opposite_of t p) (λ o. carve_on t room o p (cell_at d 0 (counts_at n 0 s.rest.faces)) list_of.0)
    unfolding carve_part carve_cell
    step_is = ap (λ y. then y (λ x. carve_part t room x.out x.rest p)) carving_of

    pub carves_refused : (o : Outcome Plane) (x : Refusal) → o ≡ opposite_of t p → o ≡ Err x →
        Carves room (λ x. carve_part t room x.out x.rest p) s (record { rest = record { verdict = Err x; some = false; faces = 0 }; list = s.list }) d n f m z d n f m z
    unfolding carving_at rest_at heard
    carves_refused o x eo ex = record {
      ready = record { kept = record { sits = λ y. absurd (false≢true y); fine = λ y. absurd (false≢true y) }; holds = h.holds; fine = λ y. absurd (false≢true y) };
      is = ap (λ y. then {B = Carving} y (λ cs. Err x)) list_of.1
          ∙ sym (step_is ∙ ap (λ y. then y (λ o. carve_on t room o p (cell_at d 0 (counts_at n 0 s.rest.faces)) list_of.0)) (sym eo ∙ ex));
    }

    pub carves_cell : (o : Outcome Plane) (back : Plane) (r : Carved) (d' : List Float) (n' : List ℕ) (f' : List Float) (m' z' : List ℕ) → o ≡ opposite_of t p → o ≡ Ok back →
        Ready room r d' n' f' m' z' → carving_at r d' n' f' m' z' ≡ then (list_at s.list f m z) (carve_on t room back p (cell_at d 0 (counts_at n 0 s.rest.faces))) →
        Carves room (λ x. carve_part t room x.out x.rest p) s r d n f m z d' n' f' m' z'
    carves_cell o back r d' n' f' m' z' eo ex g q = record {
      ready = g;
      is = q ∙ ap (λ y. then y (carve_on t room back p (cell_at d 0 (counts_at n 0 s.rest.faces)))) list_of.1
          ∙ sym (step_is ∙ ap (λ y. then y (λ o. carve_on t room o p (cell_at d 0 (counts_at n 0 s.rest.faces)) list_of.0)) (sym eo ∙ ex));
    }

-- ---- the list at the end

module _ (room : ℕ) (s : Carved) (d : List Float) (n : List ℕ) (f : List Float) (m z : List ℕ) (h : Ready room s d n f m z) where
  ended_by : (v w : Outcome Unit) → s.list.verdict ≡ v → s.rest.verdict ≡ w → Listed room (then (carving_at s d n f m z) (λ x. Ok x.out)) (ended v w s.list) f m z
  unfolding carving_at rest_at list_at heard ended
  ended_by (Ok t) (Ok u) ev ew =
      let L = cells_at f 0 m (take s.list.cells z) in
      let a : carving_at s d n f m z ≡ carving (part_at s.rest.some s.rest.faces d n) L =
      ap (λ v. then (heard v L) (λ cs. then (rest_at s.rest d n) (λ x. carving x cs))) ev
      ∙ ap (λ v. then (heard v (part_at s.rest.some s.rest.faces d n)) (λ x. carving x L)) ew in
      subst (λ o. Listed room o s.list f m z) (ap (λ v. heard v L) ev ∙ ap (λ o. then o (λ x. Ok x.out)) (sym a)) h.holds
  ended_by (Ok t) (Err e) ev ew =
      let L = cells_at f 0 m (take s.list.cells z) in
      let a : carving_at s d n f m z ≡ Err e =
      ap (λ v. then (heard v L) (λ cs. then (rest_at s.rest d n) (λ x. carving x cs))) ev
      ∙ ap (λ v. then (heard v (part_at s.rest.some s.rest.faces d n)) (λ x. carving x L)) ew in
      subst (λ o. Listed room o (stack_of (Err e)) f m z) (ap (λ o. then o (λ x. Ok x.out)) (sym a)) (listed_refused room e (stack_of (Err e)) f m z refl)
  ended_by (Err r) w ev ew =
      let L = cells_at f 0 m (take s.list.cells z) in
      let a : carving_at s d n f m z ≡ Err r =
      ap (λ v. then (heard v L) (λ cs. then (rest_at s.rest d n) (λ x. carving x cs))) ev in
      subst (λ o. Listed room o s.list f m z) (ap (λ v. heard v L) ev ∙ ap (λ o. then o (λ x. Ok x.out)) (sym a)) h.holds

  pub ended_listed : (r : Stack) → r ≡ ended s.list.verdict s.rest.verdict s.list → Listed room (then (carving_at s d n f m z) (λ x. Ok x.out)) r f m z
  ended_listed r e = subst (λ y. Listed room (then (carving_at s d n f m z) (λ x. Ok x.out)) y f m z) (sym e) (ended_by _ _ refl refl)

pub end_stays : (v w : Outcome Unit) (l : Stack) (e : Refusal) → v ≡ Err e → l ≡ ended v w l
unfolding ended
end_stays v w l e q = ap (λ y. ended y w l) (sym q)

pub end_fine : (v w : Outcome Unit) (l : Stack) → v ≡ Ok tt → w ≡ Ok tt → l ≡ ended v w l
unfolding ended
end_fine v w l q x = ap (λ y. ended y (Ok tt) l) (sym q) ∙ ap (λ y. ended v y l) (sym x)

pub end_refused : (v w : Outcome Unit) (l : Stack) (e : Refusal) (r : Stack) → v ≡ Ok tt → w ≡ Err e → r ≡ stack_of (Err e) → r ≡ ended v w l
unfolding ended
end_refused v w l e r q x er = er ∙ ap (λ y. ended y (Err e) l) (sym q) ∙ ap (λ y. ended v y l) (sym x)
