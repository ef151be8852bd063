use Rattle.std.specs.Prelude.{Ok, refl}
use Rattle.std.proofs.lemmas.Result.{err_from_is_err_and}
use borrow.Author.Rules.{rules}
use mathlib.Core.Path.{◌≡◌, sym, ap, ◌∙◌}
use Prim.Native.Nat.{ℕ, ◌≤◌, ◌<◌}
use native.Mathlib.Omega.{arith}
use mathlib.Core.List.{List}
use lib.ListN.{length, get_or}
use lib.Seq.{get_or-take}
use Rattle.outline.specs.Project.{points_of}
use Rattle.ears.specs.Places.{places_of}
use Rattle.ears.specs.Laws.{Within, window_low, block_is, block_go, block_stop, block_refused, block_end, scan_start, scan_end, scan_straight, scan_refused, scan_past, scan_ear, scan_blocked, scan_unresolved}
use Rattle.ears.proofs.scan.Goals as goal

-- the array holds as many places as are left
full : (l : List ℕ) (n : ℕ) → length l ≡ 128 → n ≤ 128 → n ≤ length l
full l n k h = omega arith

pub corners-init : goal.corners-init
corners-init c = (refl, scan_start c.args.p (points_of c.args.o) c.args.active.at c.args.active.n (full _ _ c.well_formed.1.1.0.1.1.0.1.0.1 c.requires.left))

pub turn_at-requires : goal.turn_at-requires
turn_at-requires c = (window_low (places_of c.args.active) c.args.o.n c.corners.i c.window-w.result c.window-w.ensures c.requires.low, c.requires.few)

pub returns-in_err-turn_at : goal.returns-in_err-turn_at
returns-in_err-turn_at c =
    let A = c.args in
    let p = err_from_is_err_and c.from_residual.result c.from_residual.ensures.1 in
    rw (p.1, p.2) (sym (scan_refused A.p (points_of A.o) (places_of A.active) A.active.n c.corners.i c.window-w.result c.corners-test.true c.window-w.ensures _ (sym c.in_err-turn_at.was ∙ c.turn_at.ensures)) ∙ c.corners.invariant.1)

pub corners-preserved-in-Negative : goal.corners-preserved-in-Negative
corners-preserved-in-Negative c =
    let A = c.args in
    let t = ap Ok (sym c.in-Negative.is) ∙ sym c.in_ok-turn_at.was ∙ c.turn_at.ensures in
    (c.corners.invariant.0, sym (scan_past A.p (points_of A.o) (places_of A.active) A.active.n c.corners.i c.window-w.result c.corners-test.true c.window-w.ensures t) ∙ c.corners.invariant.1)

pub returns-in-Zero : goal.returns-in-Zero
returns-in-Zero c =
    let A = c.args in
    let t = ap Ok (sym c.in-Zero.is) ∙ sym c.in_ok-turn_at.was ∙ c.turn_at.ensures in
    sym (scan_straight A.p (points_of A.o) (places_of A.active) A.active.n c.corners.i c.window-w.result c.corners-test.true c.window-w.ensures t) ∙ c.corners.invariant.1

pub loop-j-init : goal.loop-j-init
loop-j-init c = (c.corners.invariant.0, search rules, refl)

pub offset_bounds-o-ia : goal.offset_bounds-o-ia
offset_bounds-o-ia c =
    let w : Within c.args.o.n c.window-w.result = window_low (places_of c.args.active) c.args.o.n c.corners.i c.window-w.result c.window-w.ensures c.requires.low in
    omega (arith, w.a_low, c.requires.few)

pub bounds-o-ia : goal.bounds-o-ia
bounds-o-ia c =
    let w : Within c.args.o.n c.window-w.result = window_low (places_of c.args.active) c.args.o.n c.corners.i c.window-w.result c.window-w.ensures c.requires.low in
    omega (arith, w.a_low, c.requires.few)

pub offset_bounds-o-ib : goal.offset_bounds-o-ib
offset_bounds-o-ib c =
    let w : Within c.args.o.n c.window-w.result = window_low (places_of c.args.active) c.args.o.n c.corners.i c.window-w.result c.window-w.ensures c.requires.low in
    omega (arith, w.b_low, c.requires.few)

pub bounds-o-ib : goal.bounds-o-ib
bounds-o-ib c =
    let w : Within c.args.o.n c.window-w.result = window_low (places_of c.args.active) c.args.o.n c.corners.i c.window-w.result c.window-w.ensures c.requires.low in
    omega (arith, w.b_low, c.requires.few)

pub offset_bounds-o-ic : goal.offset_bounds-o-ic
offset_bounds-o-ic c =
    let w : Within c.args.o.n c.window-w.result = window_low (places_of c.args.active) c.args.o.n c.corners.i c.window-w.result c.window-w.ensures c.requires.low in
    omega (arith, w.c_low, c.requires.few)

pub bounds-o-ic : goal.bounds-o-ic
bounds-o-ic c =
    let w : Within c.args.o.n c.window-w.result = window_low (places_of c.args.active) c.args.o.n c.corners.i c.window-w.result c.window-w.ensures c.requires.low in
    omega (arith, w.c_low, c.requires.few)

pub offset_bounds-active-j : goal.offset_bounds-active-j
offset_bounds-active-j c = omega (arith, c.loop-j.invariant.1, c.requires.left)

pub bounds-active-j : goal.bounds-active-j
bounds-active-j c = omega (arith, c.loop-j.invariant.1, c.requires.left, c.if-j-active.false)

pub offset_bounds-o-q : goal.offset_bounds-o-q
offset_bounds-o-q c =
    let h : c.loop-j.j < c.args.active.n = omega (arith, c.loop-j.invariant.1, c.if-j-active.false) in
    let low : get_or c.args.active.at c.loop-j.j 0 < c.args.o.n = omega (arith, get_or-take c.args.active.n c.args.active.at c.loop-j.j 0 h, c.requires.few, c.requires.low c.loop-j.j) in
    omega (arith, low, c.requires.few)

pub bounds-o-q : goal.bounds-o-q
bounds-o-q c =
    let h : c.loop-j.j < c.args.active.n = omega (arith, c.loop-j.invariant.1, c.if-j-active.false) in
    let low : get_or c.args.active.at c.loop-j.j 0 < c.args.o.n = omega (arith, get_or-take c.args.active.n c.args.active.at c.loop-j.j 0 h, c.requires.few, c.requires.low c.loop-j.j) in
    omega (arith, low, c.requires.few)

pub returns-in_err-block_in : goal.returns-in_err-block_in
returns-in_err-block_in c =
    let A = c.args in
    let F = c.from_residual-in_err-block_in in
    let p = err_from_is_err_and F.result F.ensures.1 in
    let h : c.loop-j.j < A.active.n = omega (arith, c.loop-j.invariant.1, c.if-j-active.false) in
    let low : get_or c.args.active.at c.loop-j.j 0 < c.args.o.n = omega (arith, get_or-take c.args.active.n c.args.active.at c.loop-j.j 0 h, c.requires.few, c.requires.low c.loop-j.j) in
    let t = ap Ok (sym c.in-Positive.is) ∙ sym c.in_ok-turn_at.was ∙ c.turn_at.ensures in
    let b = block_refused A.p (points_of A.o) c.window-w.result A.active.at A.active.n c.loop-j.j _ _ h (full _ _ c.well_formed.1.1.0.1.1.0.1.0.1 c.requires.left) (block_is c.args.p c.args.o.at c.args.o.n c.window-w.result (window_low (places_of c.args.active) c.args.o.n c.corners.i c.window-w.result c.window-w.ensures c.requires.low) (get_or c.args.active.at c.loop-j.j 0) c.is_corner.result c.block_in.result low c.is_corner.ensures c.block_in.ensures) c.in_err-block_in.was in
    rw (p.1, p.2) (sym (scan_unresolved A.p (points_of A.o) (places_of A.active) A.active.n c.corners.i c.window-w.result c.corners-test.true c.window-w.ensures _ t (sym c.loop-j.invariant.2 ∙ b)) ∙ c.corners.invariant.1)

pub loop-j-preserved : goal.loop-j-preserved
loop-j-preserved c =
    let A = c.args in
    let h : c.loop-j.j < A.active.n = omega (arith, c.loop-j.invariant.1, c.if-j-active.false) in
    let low : get_or c.args.active.at c.loop-j.j 0 < c.args.o.n = omega (arith, get_or-take c.args.active.n c.args.active.at c.loop-j.j 0 h, c.requires.few, c.requires.low c.loop-j.j) in
    let b = block_go A.p (points_of A.o) c.window-w.result A.active.at A.active.n c.loop-j.j _ h (full _ _ c.well_formed.1.1.0.1.1.0.1.0.1 c.requires.left) (block_is c.args.p c.args.o.at c.args.o.n c.window-w.result (window_low (places_of c.args.active) c.args.o.n c.corners.i c.window-w.result c.window-w.ensures c.requires.low) (get_or c.args.active.at c.loop-j.j 0) c.is_corner.result c.block_in.result low c.is_corner.ensures c.block_in.ensures) (c.in_ok-block_in.was ∙ ap Ok c.in-Clear.is) in
    (c.loop-j.invariant.0, omega arith, sym b ∙ c.loop-j.invariant.2)

pub corners-preserved : goal.corners-preserved
corners-preserved c =
    let A = c.args in
    let h : c.loop-j.j < A.active.n = omega (arith, c.loop-j.invariant.1, c.if-j-active.false) in
    let low : get_or c.args.active.at c.loop-j.j 0 < c.args.o.n = omega (arith, get_or-take c.args.active.n c.args.active.at c.loop-j.j 0 h, c.requires.few, c.requires.low c.loop-j.j) in
    let t = ap Ok (sym c.in-Positive.is) ∙ sym c.in_ok-turn_at.was ∙ c.turn_at.ensures in
    let b = block_stop A.p (points_of A.o) c.window-w.result A.active.at A.active.n c.loop-j.j _ h (full _ _ c.well_formed.1.1.0.1.1.0.1.0.1 c.requires.left) (block_is c.args.p c.args.o.at c.args.o.n c.window-w.result (window_low (places_of c.args.active) c.args.o.n c.corners.i c.window-w.result c.window-w.ensures c.requires.low) (get_or c.args.active.at c.loop-j.j 0) c.is_corner.result c.block_in.result low c.is_corner.ensures c.block_in.ensures) (c.in_ok-block_in.was ∙ ap Ok c.in-Blocked.is) in
    (c.loop-j.invariant.0, sym (scan_blocked A.p (points_of A.o) (places_of A.active) A.active.n c.corners.i c.window-w.result c.corners-test.true c.window-w.ensures t (sym c.loop-j.invariant.2 ∙ b)) ∙ c.corners.invariant.1)

pub returns-after-corners : goal.returns-after-corners
returns-after-corners c =
    let A = c.args in
    ap Ok c.corners.invariant.0 ∙ sym (scan_end A.p (points_of A.o) (places_of A.active) A.active.n c.corners.i c.corners-test.false) ∙ c.corners.invariant.1

pub returns-then-j-active : goal.returns-then-j-active
returns-then-j-active c =
    let A = c.args in
    let t = ap Ok (sym c.in-Positive.is) ∙ sym c.in_ok-turn_at.was ∙ c.turn_at.ensures in
    let h : A.active.n ≤ c.loop-j.j = omega (arith, c.if-j-active.true) in
    let b = block_end A.p (points_of A.o) c.window-w.result A.active.at A.active.n c.loop-j.j h in
    sym (scan_ear A.p (points_of A.o) (places_of A.active) A.active.n c.corners.i c.window-w.result c.corners-test.true c.window-w.ensures t (sym c.loop-j.invariant.2 ∙ b)) ∙ c.corners.invariant.1
