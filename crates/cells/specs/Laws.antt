-- Laws of the walks over the second cell, in the words of the code.
use Rattle.std.specs.Prelude.{◌≡◌, true, false, ℕ, ◌+◌, ◌*◌, ◌≤◌, ◌<◌, length, drop, Float, Ok, Err}
use Rattle.std.proofs.Math.Path.{refl, ap, subst}
use Rattle.std.proofs.Common.{sym, ◌∙◌, arith}
use mathlib.Core.List.{List, []}
use Rattle.std.proofs.Math.ListN.{get_or}
use Rattle.refusal.specs.declared.Refusal.{Refusal}
use Rattle.refusal.specs.Outcome.{Outcome, then, walk, heard}
use Rattle.space.specs.declared.Plane.{Plane}
use Rattle.space.specs.declared.Precision.{Precision}
use Rattle.space.specs.Shapes.{Cell, nothing, part}
use Rattle.room.specs.Rooms.{plane_at, face_at, cell_at, counts_at}
use Rattle.room.specs.Steps.{onward, onward_next, onward_end}
use Rattle.cell.specs.Laws.{Ahead, ahead_next, ahead_face, ahead_done}
use Rattle.stack.specs.declared.Stack.{Stack}
use Rattle.stack.specs.Stacks.{add_cell, add_part, stack_of, list_at, Listed}
use Rattle.stack.specs.Laws.{listed_is, holds, listed_none, listed_refused}
use Rattle.job.specs.declared.Operation.{Operation}
use Rattle.job.specs.declared.Operation.TheVariants.{Intersection, Difference, Union}
use Rattle.carving.specs.declared.Rest.{Rest}
use Rattle.carving.specs.declared.Carved.{Carved}
use Rattle.cells.specs.Cells.{carving, carve_part, carve, minus, clip_part, clip_face, common, both, cells}
use Rattle.cells.specs.Rests.{part_at, rest_at, Sits, Kept, Left, Place, carving_at, Ready, ended, Carves}
pub use Rattle.carving.specs.Laws.{clip_inside, left_stays, left_nothing, left_cut, keep_nothing, keep_refused, keep_part, inside_part, carved, carves_nothing, carves_refused, carves_cell, ended_listed, end_stays, end_fine, end_refused}

-- ---- lengths

pub place_on : (room : ℕ) (d : List Float) (n : List ℕ) (d' : List Float) (n' : List ℕ) → Place room d n → length d' ≡ length d → length n' ≡ length n → Place room d' n'
place_on room d n d' n' p a b = record { place = omega (arith, p.place); slots = omega (arith, p.slots) }

-- the rooms of the remainder are as long as they were
pub record Four (r : List Float) (h : List ℕ) (s : List Float) (l : List ℕ) (r₀ : List Float) (h₀ : List ℕ) (s₀ : List Float) (l₀ : List ℕ) : Type 0 where
  pub rest : length r ≡ length r₀
  pub held : length h ≡ length h₀
  pub spare : length s ≡ length s₀
  pub slots : length l ≡ length l₀

-- and those of the list
pub record Three (d : List Float) (n z : List ℕ) (d₀ : List Float) (n₀ z₀ : List ℕ) : Type 0 where
  pub dst : length d ≡ length d₀
  pub counts : length n ≡ length n₀
  pub sizes : length z ≡ length z₀

-- ---- the walk over the second cell's faces: pieces

pub record Walking (t : Precision) (room : ℕ) (a : Cell) (src : List Float) (from : ℕ) (ns : List ℕ) (j many : ℕ) (s : Carved) (d : List Float) (n : List ℕ) (f : List Float) (m z : List ℕ) (o i : ℕ) : Type 0 where
  pub ahead : Ahead src ns j many o i
  pub ready : Ready room s d n f m z
  pub rest : onward (carve t room) (carving_at s d n f m z) (cell_at src o (drop i (counts_at ns j many))) ≡ walk (carve t room) (record { rest = part a; out = [] }) (cell_at src from (counts_at ns j many))

module _ (t : Precision) (room : ℕ) (a : Cell) (src : List Float) (from : ℕ) (ns : List ℕ) (j many : ℕ) where
  pub walking_start : (list : Stack) (faces : ℕ) (d : List Float) (n : List ℕ) (f : List Float) (m z : List ℕ) → Ahead src ns j many from 0 → list ≡ stack_of (Ok []) → Sits faces d n → a ≡ cell_at d 0 (counts_at n 0 faces) →
      Walking t room a src from ns j many (record { rest = record { verdict = Ok tt; some = true; faces = faces }; list = list }) d n f m z from 0
  unfolding carving_at rest_at part_at heard stack_of
  walking_start list faces d n f m z h e k ea =
      let l = listed_none room list f m z e in
      record {
        ahead = h;
        ready = record { kept = record { sits = λ x. k; fine = λ x. refl }; holds = holds room (Ok []) list f m z l; fine = λ x. ap (λ y. y.verdict) e };
        rest = ap (λ y. onward (carve t room) (then y (λ cs. carving (part (cell_at d 0 (counts_at n 0 faces))) cs)) (cell_at src from (counts_at ns j many))) (listed_is room (Ok []) list f m z l)
            ∙ ap (λ y. walk (carve t room) (record { rest = part y; out = [] }) (cell_at src from (counts_at ns j many))) (sym ea);
      }

  pub walking_step : (s r : Carved) (d : List Float) (n : List ℕ) (f : List Float) (m z : List ℕ) (d' : List Float) (n' : List ℕ) (f' : List Float) (m' z' : List ℕ) (o i : ℕ) (w : Plane) →
      j + many ≤ length ns → i < many → w ≡ plane_at src o →
      Carves room (λ x. carve_part t room x.out x.rest w) s r d n f m z d' n' f' m' z' →
      Walking t room a src from ns j many s d n f m z o i → Walking t room a src from ns j many r d' n' f' m' z' (o + 13 + 3 * get_or ns (j + i) 0) (i + 1)
  unfolding carve
  walking_step s r d n f m z d' n' f' m' z' o i w listed h ew g c =
      let l = cell_at src (o + 13 + 3 * get_or ns (j + i) 0) (drop (i + 1) (counts_at ns j many)) in
      let q : carving_at r d' n' f' m' z' ≡ then (carving_at s d n f m z) (λ x. carve t room x (face_at src o (get_or ns (j + i) 0))) =
      g.is ∙ ap (λ y. then (carving_at s d n f m z) (λ x. carve_part t room x.out x.rest y)) ew in
      record {
        ahead = ahead_next src ns j many o i listed h c.ahead;
        ready = g.ready;
        rest = ap (λ y. onward (carve t room) y l) q
            ∙ onward_next (carve t room) (carving_at s d n f m z) (face_at src o (get_or ns (j + i) 0)) l
            ∙ ap (onward (carve t room) (carving_at s d n f m z)) (sym (ahead_face src ns j many o i listed h c.ahead)) ∙ c.rest;
      }

  pub walking_end : (s : Carved) (r : Stack) (d : List Float) (n : List ℕ) (f : List Float) (m z : List ℕ) (o i : ℕ) → many ≤ i → Walking t room a src from ns j many s d n f m z o i →
      r ≡ ended s.list.verdict s.rest.verdict s.list → Listed room (minus t room a (cell_at src from (counts_at ns j many))) r f m z
  unfolding minus
  walking_end s r d n f m z o i h c e =
      subst (λ y. Listed room (then y (λ x. Ok x.out)) r f m z)
      (sym (onward_end (carve t room) (carving_at s d n f m z)) ∙ ap (onward (carve t room) (carving_at s d n f m z)) (sym (ahead_done src ns j many o i h)) ∙ c.rest)
      (ended_listed room s d n f m z c.ready r e)

-- ---- the walk over the second cell's faces: what both have in common

pub record Meeting (t : Precision) (room : ℕ) (a : Cell) (src : List Float) (from : ℕ) (ns : List ℕ) (j many : ℕ) (s : Rest) (d : List Float) (n : List ℕ) (o i : ℕ) : Type 0 where
  pub ahead : Ahead src ns j many o i
  pub kept : Kept s d n
  pub rest : onward (clip_face t room) (rest_at s d n) (cell_at src o (drop i (counts_at ns j many))) ≡ walk (clip_face t room) (part a) (cell_at src from (counts_at ns j many))

module _ (t : Precision) (room : ℕ) (a : Cell) (src : List Float) (from : ℕ) (ns : List ℕ) (j many : ℕ) where
  pub meeting_start : (faces : ℕ) (d : List Float) (n : List ℕ) → Ahead src ns j many from 0 → Sits faces d n → a ≡ cell_at d 0 (counts_at n 0 faces) →
      Meeting t room a src from ns j many (record { verdict = Ok tt; some = true; faces = faces }) d n from 0
  unfolding rest_at part_at heard
  meeting_start faces d n h k ea = record {
    ahead = h;
    kept = record { sits = λ x. k; fine = λ x. refl };
    rest = ap (λ y. walk (clip_face t room) (part y) (cell_at src from (counts_at ns j many))) (sym ea);
  }

  pub meeting_step : (s r : Rest) (d : List Float) (n : List ℕ) (d' : List Float) (n' : List ℕ) (o i : ℕ) (w : Plane) → j + many ≤ length ns → i < many → w ≡ plane_at src o →
      Left (clip_part t room w) s r d n d' n' → Meeting t room a src from ns j many s d n o i → Meeting t room a src from ns j many r d' n' (o + 13 + 3 * get_or ns (j + i) 0) (i + 1)
  unfolding clip_face
  meeting_step s r d n d' n' o i w listed h ew g c =
      let l = cell_at src (o + 13 + 3 * get_or ns (j + i) 0) (drop (i + 1) (counts_at ns j many)) in
      let q : rest_at r d' n' ≡ then (rest_at s d n) (λ x. clip_face t room x (face_at src o (get_or ns (j + i) 0))) = g.is ∙ ap (λ y. then (rest_at s d n) (clip_part t room y)) ew in
      record {
        ahead = ahead_next src ns j many o i listed h c.ahead;
        kept = g.kept;
        rest = ap (λ y. onward (clip_face t room) y l) q
            ∙ onward_next (clip_face t room) (rest_at s d n) (face_at src o (get_or ns (j + i) 0)) l
            ∙ ap (onward (clip_face t room) (rest_at s d n)) (sym (ahead_face src ns j many o i listed h c.ahead)) ∙ c.rest;
      }

  pub meeting_end : (s : Rest) (r : Stack) (d : List Float) (n : List ℕ) (f : List Float) (m z : List ℕ) (o i : ℕ) → many ≤ i → Meeting t room a src from ns j many s d n o i →
      Listed room (then (rest_at s d n) (add_part room [])) r f m z → Listed room (common t room a (cell_at src from (counts_at ns j many))) r f m z
  unfolding common
  meeting_end s r d n f m z o i h c l =
      subst (λ y. Listed room (then y (add_part room [])) r f m z)
      (sym (onward_end (clip_face t room) (rest_at s d n)) ∙ ap (onward (clip_face t room) (rest_at s d n)) (sym (ahead_done src ns j many o i h)) ∙ c.rest) l

-- ---- the single cell joins a list

pub listed_begun : (room : ℕ) (v : Outcome Unit) (l : Stack) (f : List Float) (m z : List ℕ) → l ≡ stack_of (heard v []) → Listed room (heard v []) l f m z
unfolding heard
listed_begun room (Ok tt) l f m z e = listed_none room l f m z e
listed_begun room (Err r) l f m z e = listed_refused room r l f m z e

begun_nothing : (room : ℕ) (v : Outcome Unit) → heard v [] ≡ then (heard v nothing) (add_part room [])
unfolding heard add_part
begun_nothing room (Ok tt) = refl
begun_nothing room (Err r) = refl

begun_part : (room : ℕ) (v : Outcome Unit) (c : Cell) → then (heard v []) (λ cs. add_cell room cs c) ≡ then (heard v (part c)) (add_part room [])
unfolding heard add_part
begun_part room (Ok tt) c = refl
begun_part room (Err r) c = refl

module _ (room : ℕ) (s : Rest) (l : Stack) (d : List Float) (n : List ℕ) (f : List Float) (m z : List ℕ) (e : l ≡ stack_of (heard s.verdict [])) where
  pub settled_nothing : s.some ≡ false → Listed room (then (rest_at s d n) (add_part room [])) l f m z
  unfolding rest_at part_at
  settled_nothing q =
      subst (λ y. Listed room y l f m z) (begun_nothing room s.verdict ∙ ap (λ b. then (heard s.verdict (part_at b s.faces d n)) (add_part room [])) (sym q)) (listed_begun room s.verdict l f m z e)

  pub settled_part : (r : Stack) (f' : List Float) (m' z' : List ℕ) → s.some ≡ true → Listed room (then (list_at l f m z) (λ cs. add_cell room cs (cell_at d 0 (counts_at n 0 s.faces)))) r f' m' z' →
      Listed room (then (rest_at s d n) (add_part room [])) r f' m' z'
  unfolding rest_at part_at
  settled_part r f' m' z' q g =
      subst (λ y. Listed room y r f' m' z')
      (ap (λ y. then y (λ cs. add_cell room cs (cell_at d 0 (counts_at n 0 s.faces)))) (listed_is room (heard s.verdict []) l f m z (listed_begun room s.verdict l f m z e))
      ∙ begun_part room s.verdict (cell_at d 0 (counts_at n 0 s.faces)) ∙ ap (λ b. then (heard s.verdict (part_at b s.faces d n)) (add_part room [])) (sym q)) g

-- ---- the operations

pub begun_fine : (v : Outcome Unit) (r : Stack) → r ≡ stack_of (Ok []) → v ≡ Ok tt → r ≡ stack_of (heard v [])
unfolding heard
begun_fine v r e q = e ∙ ap (λ y. stack_of (heard y [])) (sym q)

pub begun_refused : (v : Outcome Unit) (e : Refusal) (r : Stack) → r ≡ stack_of (Err e) → v ≡ Err e → r ≡ stack_of (heard v [])
unfolding heard
begun_refused v e r er q = er ∙ ap (λ y. stack_of (heard y [])) (sym q)

module _ (t : Precision) (room : ℕ) (a b : Cell) (r : Stack) (f : List Float) (m z : List ℕ) where
  pub united : (l : Stack) (f₀ : List Float) (m₀ z₀ : List ℕ) → Listed room (minus t room a b) l f₀ m₀ z₀ → Listed room (then (list_at l f₀ m₀ z₀) (λ cs. add_cell room cs b)) r f m z → Listed room (both t room a b) r f m z
  unfolding both
  united l f₀ m₀ z₀ x y = subst (λ o. Listed room (then o (λ cs. add_cell room cs b)) r f m z) (listed_is room (minus t room a b) l f₀ m₀ z₀ x) y

  pub by_intersection : (op : Operation) → op ≡ Intersection → Listed room (common t room a b) r f m z → Listed room (cells op t room a b) r f m z
  unfolding cells
  by_intersection op e x = subst (λ y. Listed room (cells y t room a b) r f m z) (sym e) x

  pub by_difference : (op : Operation) → op ≡ Difference → Listed room (minus t room a b) r f m z → Listed room (cells op t room a b) r f m z
  unfolding cells
  by_difference op e x = subst (λ y. Listed room (cells y t room a b) r f m z) (sym e) x

  pub by_union : (op : Operation) → op ≡ Union → Listed room (both t room a b) r f m z → Listed room (cells op t room a b) r f m z
  unfolding cells
  by_union op e x = subst (λ y. Listed room (cells y t room a b) r f m z) (sym e) x
