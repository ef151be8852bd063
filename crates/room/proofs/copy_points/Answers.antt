use mathlib.Core.Path.{◌≡◌, sym, ap, ◌∙◌}
use Prim.Native.Nat.{◌+◌, ◌*◌}
use lib.ListN.{drop}
use lib.Seq.{sets}
use Rattle.polygon.specs.Memory.{floats, floats_of, point_at, points_at}
use Rattle.room.specs.Laws.{sets_point, next_point, points_done}
use native.Mathlib.Omega.{arith}
use borrow.Author.Rules.{rules}
use Rattle.room.proofs.copy_points.Goals as goal

pub loop-i-preserved : goal.loop-i-preserved
loop-i-preserved c =
    let src = c.args.src.now in
    let i = c.loop-i.i in
    let o = c.args.at + 3 * i in
    let q = point_at src (c.args.from + 3 * i) in
    let rest = drop (i + 1) (points_at src c.args.from c.args.n) in
    let m : c.args.at + 3 * (c.loop-i.i + 1) ≡ c.args.at + 3 * c.loop-i.i + 3 = omega arith in (
      search rules,
      rw m
          (ap (λ x. sets x (o + 3) (floats_of rest)) c.put_point.ensures
          ∙ ap (λ x. sets (sets c.loop-i.s o (floats x)) (o + 3) (floats_of rest)) c.get_point-q.ensures
          ∙ sym (sets_point c.loop-i.s o q rest)
          ∙ ap (λ l. sets c.loop-i.s o (floats_of l)) (sym (next_point src c.args.from c.args.n i c.loop-i-test.true))
          ∙ c.loop-i.invariant.1),
    )

pub returns : goal.returns
returns c =
    let A = c.args in
    ap (λ l. sets c.loop-i.s (A.at + 3 * c.loop-i.i) (floats_of l)) (sym (points_done A.src.now A.from A.n c.loop-i.i c.loop-i-test.false))
    ∙ c.loop-i.invariant.1
