-- Laws of the steps that add to a list, in the words of the code.
use Rattle.std.specs.Prelude.{◌≡◌, Bool, ℕ, ◌+◌, ◌-◌, ◌*◌, ◌≤◌, ◌<◌, take, set, ltb, Float, Ok, Err, Some, None}
use Rattle.std.specs.Result.{IfOk}
use Rattle.std.proofs.Math.Path.{refl, sym, ap, subst}
use Rattle.std.proofs.Common.{◌∙◌, arith}
use Rattle.std.proofs.Math.Bool.{true, false}
use mathlib.Core.List.{List, [], ◌∷◌, ◌++◌}
use Rattle.std.proofs.Math.ListN.{length, length-append}
use Rattle.std.proofs.Math.Seq.{sets}
use borrow.Author.Tests.{ltb-true, ltb-false, lt-ltb, le-ltb}
use Rattle.refusal.specs.declared.Refusal.{Refusal}
use Rattle.refusal.specs.Outcome.{Outcome, refusal_of, then, unless, heard}
use Rattle.refusal.specs.Laws.{same_ok, never_ok, unless_ok}
use Rattle.space.specs.declared.Plane.{Plane}
use Rattle.space.specs.declared.Precision.{Precision}
use Rattle.space.specs.Shapes.{Cell, Part, nothing, part, corners, all_corners}
use Rattle.room.specs.Rooms.{cell_floats, cell_counts, Small}
use Rattle.room.specs.Laws.{length_cell_counts}
use Rattle.cell.specs.declared.Kept.{Kept}
use Rattle.cell.specs.Cells.{left_cell, Stored}
use Rattle.clip.specs.Cuts.{clip}
use Rattle.clip.specs.Clips.{Clipped, told, Sized, Clips, Wide}
use Rattle.clip.specs.Bounds.{part_wide, part_some}
use Rattle.stack.specs.declared.Stack.{Stack}
use Rattle.stack.specs.Stacks.{cells_counts, cells_at, add_cell, add_part, add_cut, stack_of, list_at, Sound, Lies, Listed, Holds, Places, is_over, pushed, seated, joined, joined_sizes, Broad}
use Rattle.stack.specs.Laws.{all_corners_from, all_corners_snoc, counts_snoc, listed_refused, lies_more, listed_same, wide_corners, left_whole}

-- ---- a refusal stays

pub listed_stays : (room : ℕ) (f : List Cell → Outcome (List Cell)) (s : Stack) (d : List Float) (n z : List ℕ) (r : Refusal) → Holds room s d n z → s.verdict ≡ Err r →
    Listed room (then (list_at s d n z) f) s d n z
unfolding list_at heard
listed_stays room f s d n z r h e =
    let q : list_at s d n z ≡ Err r = ap (λ v. heard v (cells_at d 0 n (take s.cells z))) e in
    subst (λ o. Listed room o s d n z) (q ∙ ap (λ o. then o f) (sym q)) h

-- the list that stands there
pub record Standing (room : ℕ) (s : Stack) (d : List Float) (n z : List ℕ) : Type 0 where
  pub cells : List Cell
  pub is : list_at s d n z ≡ Ok cells
  pub told : s ≡ stack_of (Ok cells)
  pub lies : Lies room cells d n z

pub standing : (room : ℕ) (s : Stack) (d : List Float) (n z : List ℕ) → Holds room s d n z → s.verdict ≡ Ok tt → Standing room s d n z
unfolding list_at heard
standing room s d n z h e =
    let q : list_at s d n z ≡ Ok (cells_at d 0 n (take s.cells z)) = ap (λ v. heard v (cells_at d 0 n (take s.cells z))) e in
    record { cells = cells_at d 0 n (take s.cells z); is = q; told = h.is ∙ ap stack_of q; lies = h.lies _ q }

-- ---- one cell more

over_same : (room held n : ℕ) → held ≤ room → is_over room held n ≡ ltb room (n + held)
unfolding is_over
over_same room held n h = way (ltb (room - held) n) refl
  where
    way : (b : Bool) → ltb (room - held) n ≡ b → b ≡ ltb room (n + held)
    way true e = sym (lt-ltb room (n + held) (omega (arith, ltb-true (room - held) n e)))
    way false e = sym (le-ltb room (n + held) (omega (arith, ltb-false (room - held) n e)))

pub not_over : (room held n : ℕ) → held ≤ room → is_over room held n ≡ false → held + n ≤ room
unfolding is_over
not_over room held n h e = omega (arith, ltb-false (room - held) n e)

-- the step in the code's words
pub push_full : (b x : Bool) (s : Stack) (f m : ℕ) (z : List ℕ) (e : Refusal) (r : Stack) → x ≡ b → x ≡ true → e ≡ refusal_of 12 → r ≡ stack_of (Err e) →
    (r ≡ pushed b s f m) × (z ≡ seated b s f z)
unfolding pushed seated
push_full b x s f m z e r p q ee er =
    let w : true ≡ b = sym q ∙ p in
    (er ∙ ap (λ y. stack_of (Err y)) ee ∙ ap (λ y. pushed y s f m) w, ap (λ y. seated y s f z) w)

pub push_fits : (b x : Bool) (s : Stack) (f m : ℕ) (z : List ℕ) → x ≡ b → x ≡ false →
    (◌≡◌ {A = Stack} (record { verdict = Ok tt; cells = s.cells + 1; faces = s.faces + f; corners = s.corners + m }) (pushed b s f m)) × (set z s.cells f ≡ seated b s f z)
unfolding pushed seated
push_fits b x s f m z p q =
    let w : false ≡ b = sym q ∙ p in
    (ap (λ y. pushed y s f m) w, ap (λ y. seated y s f z) w)

pub join_nothing : (room : ℕ) (s : Stack) (p : Outcome Clipped) (z : List ℕ) → p ≡ Ok None → (s ≡ joined room s p) × (z ≡ joined_sizes room s p z)
unfolding joined joined_sizes
join_nothing room s p z e = (ap (joined room s) (sym e), ap (λ y. joined_sizes room s y z) (sym e))

pub join_part : (room : ℕ) (s : Stack) (p : Outcome Clipped) (f m : ℕ) (r : Stack) (z z' : List ℕ) → p ≡ Ok (Some (record { faces = f; corners = m })) → r ≡ pushed (is_over room s.corners m) s f m → z' ≡ seated (is_over room s.corners m) s f z →
    (r ≡ joined room s p) × (z' ≡ joined_sizes room s p z)
unfolding joined joined_sizes
join_part room s p f m r z z' e er ez = (er ∙ ap (joined room s) (sym e), ez ∙ ap (λ y. joined_sizes room s y z) (sym e))

pub join_refused : (room : ℕ) (s : Stack) (p : Outcome Clipped) (x : Refusal) (r : Stack) (z : List ℕ) → p ≡ Err x → r ≡ stack_of (Err x) →
    (r ≡ joined room s p) × (z ≡ joined_sizes room s p z)
unfolding joined joined_sizes
join_refused room s p x r z e er = (er ∙ ap (joined room s) (sym e), ap (λ y. joined_sizes room s y z) (sym e))

pub broad_part : (p : Outcome Clipped) (f m : ℕ) → p ≡ Ok (Some (record { faces = f; corners = m })) → Broad p → 3 * f ≤ m
unfolding Broad
broad_part p f m e b = subst Broad e b

stack_eq : (k k' f f' n n' : ℕ) → k ≡ k' → f ≡ f' → n ≡ n' → ◌≡◌ {A = Stack} (record { verdict = Ok tt; cells = k; faces = f; corners = n }) (record { verdict = Ok tt; cells = k'; faces = f'; corners = n' })
stack_eq k k' f f' n n' a b c = λ i. record { verdict = Ok tt; cells = a i; faces = b i; corners = c i }

module _ (room : ℕ) (cs : List Cell) (c : Cell) (d : List Float) (n z : List ℕ) (l : Lies room cs d n z) (p : Places room d n z) (k : Sound c) where
  push_by : (b : Bool) → is_over room (all_corners 0 cs) (corners 0 c) ≡ b →
      Listed room (unless b 12 (Ok (cs ++ (c ∷ [])))) (pushed b (stack_of (Ok cs)) (length c) (corners 0 c)) (sets d (13 * length (cells_counts cs) + 3 * all_corners 0 cs) (cell_floats c)) (sets n (length (cells_counts cs)) (cell_counts c)) (seated b (stack_of (Ok cs)) (length c) z)
  unfolding pushed seated stack_of
  push_by true e = listed_refused room (refusal_of 12) _ _ _ _ refl
  push_by false e = record {
    is = stack_eq _ _ _ _ _ _ (sym (length-append cs (c ∷ [])))
        (sym (ap length (counts_snoc cs c) ∙ length-append (cells_counts cs) (cell_counts c) ∙ ap (λ x. length (cells_counts cs) + x) (length_cell_counts c)))
        (sym (all_corners_snoc cs c));
    lies = λ x h. subst (λ y. Lies room y (sets d (13 * length (cells_counts cs) + 3 * all_corners 0 cs) (cell_floats c)) (sets n (length (cells_counts cs)) (cell_counts c)) (set z (length cs) (length c))) (same_ok h) (lies_more room cs c d n z l p k (not_over room (all_corners 0 cs) (corners 0 c) l.fit e));
  }

  pub push_listed : (s : Stack) (f m : ℕ) (r : Stack) (d' : List Float) (n' z' : List ℕ) → s ≡ stack_of (Ok cs) → f ≡ length c → m ≡ corners 0 c →
      d' ≡ sets d (13 * s.faces + 3 * s.corners) (cell_floats c) → n' ≡ sets n s.faces (cell_counts c) →
      r ≡ pushed (is_over room s.corners m) s f m → z' ≡ seated (is_over room s.corners m) s f z →
      Listed room (add_cell room cs c) r d' n' z'
  unfolding add_cell stack_of
  push_listed s f m r d' n' z' es ef em ed en er ez =
      let b = is_over room (all_corners 0 cs) (corners 0 c) in
      listed_same room
      (ap (λ x. unless x 12 (Ok (cs ++ (c ∷ [])))) (over_same room (all_corners 0 cs) (corners 0 c) l.fit ∙ ap (ltb room) (sym (all_corners_from (corners 0 c) cs))))
      (ap (λ x. pushed (is_over room (all_corners 0 cs) x) (stack_of (Ok cs)) (length c) x) (sym em) ∙ ap (λ x. pushed (is_over room (all_corners 0 cs) m) (stack_of (Ok cs)) x m) (sym ef) ∙ ap (λ x. pushed (is_over room x.corners m) x f m) (sym es) ∙ sym er)
      (ap (λ x. sets d (13 * x.faces + 3 * x.corners) (cell_floats c)) (sym es) ∙ sym ed)
      (ap (λ x. sets n x.faces (cell_counts c)) (sym es) ∙ sym en)
      (ap (λ x. seated (is_over room (all_corners 0 cs) x) (stack_of (Ok cs)) (length c) z) (sym em) ∙ ap (λ x. seated (is_over room (all_corners 0 cs) m) (stack_of (Ok cs)) x z) (sym ef) ∙ ap (λ x. seated (is_over room x.corners m) x f z) (sym es) ∙ sym ez)
      (push_by b refl)

-- ---- a part is added

-- what the step gives of the list that stands there
step_of : (room : ℕ) (f : List Cell → Outcome (List Cell)) (s : Stack) (d : List Float) (n z : List ℕ) (h : Standing room s d n z) → then (list_at s d n z) f ≡ f h.cells
step_of room f s d n z h = ap (λ o. then o f) h.is

pub part_broad : (t : Precision) (room : ℕ) (w : Plane) (c : Cell) (p : Outcome Clipped) (d : List Float) (at : ℕ) (n : List ℕ) (k : ℕ) (d' : List Float) (n' : List ℕ) →
    Clips (clip t room w c) p d at n k d' n' → Wide c → Broad p
unfolding told Sized Broad
part_broad t room w c (Ok None) d at n k d' n' x a = tt
part_broad t room w c (Ok (Some f)) d at n k d' n' x a =
    omega (arith, x.sized.0, x.sized.1, wide_corners x.cell (part_wide t room w c x.cell (sym x.is) a))
part_broad t room w c (Err r) d at n k d' n' x a = tt

module _ (t : Precision) (room : ℕ) (w : Plane) (c : Cell) (s : Stack) (p : Outcome Clipped) (d : List Float) (at : ℕ) (n : List ℕ) (k : ℕ) (z : List ℕ) (d' : List Float) (n' : List ℕ)
    (h : Holds room s d n z) (v : s.verdict ≡ Ok tt) (x : Clips (clip t room w c) p d at n k d' n') where
  cut_nothing : p ≡ Ok None → Listed room (then (list_at s d n z) (add_cut t room w c)) s d' n' z
  unfolding told Sized add_cut add_part cell_floats cell_counts
  cut_nothing e =
      let g = standing room s d n z h v in
      let q : clip t room w c ≡ Ok nothing = sym x.is ∙ ap (λ y. told y x.cell) e in
      let u : x.cell ≡ [] = subst (λ y. Sized y x.cell) e x.sized in
      listed_same room
      (g.is ∙ sym (step_of room (add_cut t room w c) s d n z g ∙ ap (λ o. then o (add_part room g.cells)) q)) refl
      (sym (x.floats ∙ ap (λ y. sets d at (cell_floats y)) u))
      (sym (x.counts ∙ ap (λ y. sets n k (cell_counts y)) u)) refl h

  cut_refused : (e : Refusal) (r : Stack) → p ≡ Err e → r ≡ stack_of (Err e) → Listed room (then (list_at s d n z) (add_cut t room w c)) r d' n' z
  unfolding told add_cut
  cut_refused e r q er =
      let g = standing room s d n z h v in
      let o : clip t room w c ≡ Err e = sym x.is ∙ ap (λ y. told y x.cell) q in
      subst (λ y. Listed room y r d' n' z) (sym (step_of room (add_cut t room w c) s d n z g ∙ ap (λ y. then y (add_part room g.cells)) o)) (listed_refused room e r d' n' z er)

  cut_part : (f m : ℕ) (r : Stack) (z' : List ℕ) → p ≡ Ok (Some (record { faces = f; corners = m })) → Wide c → Places room d n z → at ≡ 13 * s.faces + 3 * s.corners → k ≡ s.faces →
      r ≡ pushed (is_over room s.corners m) s f m → z' ≡ seated (is_over room s.corners m) s f z →
      Listed room (then (list_at s d n z) (add_cut t room w c)) r d' n' z'
  unfolding told Sized add_cut add_part
  cut_part f m r z' e a places ea ek er ez =
      let g = standing room s d n z h v in
      let q : clip t room w c ≡ Ok (part x.cell) = sym x.is ∙ ap (λ y. told y x.cell) e in
      let u : (f ≡ length x.cell) × (m ≡ corners 0 x.cell) = subst (λ y. Sized y x.cell) e x.sized in
      let b : Sound x.cell = record { some = part_some t room w c x.cell q; wide = part_wide t room w c x.cell q a; small = x.small } in
      subst (λ y. Listed room y r d' n' z') (sym (step_of room (add_cut t room w c) s d n z g ∙ ap (λ y. then y (add_part room g.cells)) q))
      (push_listed room g.cells x.cell d n z g.lies places b s f m r d' n' z' g.told u.0 u.1
      (x.floats ∙ ap (λ i. sets d i (cell_floats x.cell)) ea) (x.counts ∙ ap (λ i. sets n i (cell_counts x.cell)) ek) er ez)

  -- whatever the cut answers
  pub cut_joined : (q : Outcome Clipped) (r : Stack) (z' : List ℕ) → p ≡ q → Wide c → Places room d n z → at ≡ 13 * s.faces + 3 * s.corners → k ≡ s.faces →
      r ≡ joined room s q → z' ≡ joined_sizes room s q z → Listed room (then (list_at s d n z) (add_cut t room w c)) r d' n' z'
  unfolding joined joined_sizes
  cut_joined (Ok None) r z' e a places ea ek er ez = listed_same room refl (sym er) refl refl (sym ez) (cut_nothing e)
  cut_joined (Ok (Some f)) r z' e a places ea ek er ez = cut_part f.faces f.corners r z' e a places ea ek er ez
  cut_joined (Err x) r z' e a places ea ek er ez = listed_same room refl refl refl refl (sym ez) (cut_refused x r e er)

-- ---- a whole cell is added

over_refused : (b : Bool) (c : Cell) (e : Refusal) → unless b 12 (Ok c) ≡ Err e → (b ≡ true) × (refusal_of 12 ≡ e)
over_refused true c e q = (refl, cc)
over_refused false c e q = never_ok (sym q)

module _ (room : ℕ) (c : Cell) (s : Stack) (kept : Kept) (got : Outcome Kept) (d : List Float) (at : ℕ) (n : List ℕ) (k : ℕ) (z : List ℕ) (d' : List Float) (n' : List ℕ)
    (h : Holds room s d n z) (v : s.verdict ≡ Ok tt) (few : length c ≤ 128) (x : Stored d at n k (left_cell room c) got d' n') where
  whole_is : got ≡ Ok kept → x.cell ≡ c
  whole_is e = sym (same_ok (unless_ok (ltb room (corners 0 c)) 12 (Ok c) x.cell (sym (left_whole room c few) ∙ sym x.is ∙ ap (λ y. then y (λ v. Ok x.cell)) e)).1)

  whole_sized : got ≡ Ok kept → (kept.faces ≡ length x.cell) × (kept.corners ≡ corners 0 x.cell)
  whole_sized e = subst (λ y. IfOk y (λ v. (v.faces ≡ length x.cell) × (v.corners ≡ corners 0 x.cell))) e x.sized

  pub whole_bound : got ≡ Ok kept → Wide c → 3 * kept.faces ≤ kept.corners
  whole_bound e a = omega (arith, (whole_sized e).0, (whole_sized e).1, wide_corners x.cell (subst Wide (sym (whole_is e)) a))

  pub whole_added : (r : Stack) (z' : List ℕ) → got ≡ Ok kept → 1 ≤ length c → Wide c → Places room d n z → at ≡ 13 * s.faces + 3 * s.corners → k ≡ s.faces →
      r ≡ pushed (is_over room s.corners kept.corners) s kept.faces kept.corners → z' ≡ seated (is_over room s.corners kept.corners) s kept.faces z →
      Listed room (then (list_at s d n z) (λ cs. add_cell room cs c)) r d' n' z'
  whole_added r z' e one a places ea ek er ez =
      let g = standing room s d n z h v in
      let q = whole_is e in
      let b : Sound c = record { some = one; wide = a; small = subst Small q x.small } in
      subst (λ y. Listed room y r d' n' z') (sym (step_of room (λ cs. add_cell room cs c) s d n z g))
      (push_listed room g.cells c d n z g.lies places b s kept.faces kept.corners r d' n' z' g.told ((whole_sized e).0 ∙ ap length q) ((whole_sized e).1 ∙ ap (corners 0) q)
      (x.floats ∙ ap (λ i. sets d i (cell_floats x.cell)) ea ∙ ap (λ i. sets d (13 * s.faces + 3 * s.corners) (cell_floats i)) q)
      (x.counts ∙ ap (λ i. sets n i (cell_counts x.cell)) ek ∙ ap (λ i. sets n s.faces (cell_counts i)) q) er ez)

  pub whole_refused : (e : Refusal) (r : Stack) → got ≡ Err e → r ≡ stack_of (Err e) → Listed room (then (list_at s d n z) (λ cs. add_cell room cs c)) r d' n' z
  unfolding add_cell
  whole_refused e r q er =
      let g = standing room s d n z h v in
      let u = over_refused (ltb room (corners 0 c)) c e (sym (left_whole room c few) ∙ sym x.is ∙ ap (λ y. then y (λ v. Ok x.cell)) q) in
      let m : room < all_corners (corners 0 c) g.cells = omega (arith, ltb-true room (corners 0 c) u.0, all_corners_from (corners 0 c) g.cells) in
      let o : add_cell room g.cells c ≡ Err e =
      ap (λ b. unless b 12 (Ok (g.cells ++ (c ∷ [])))) (lt-ltb room (all_corners (corners 0 c) g.cells) m) ∙ ap Err u.1 in
      subst (λ y. Listed room y r d' n' z) (sym (step_of room (λ cs. add_cell room cs c) s d n z g ∙ o)) (listed_refused room e r d' n' z er)
