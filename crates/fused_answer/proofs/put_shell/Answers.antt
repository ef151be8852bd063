use mathlib.Core.Path.{◌∙◌}
use Rattle.fused_answer.specs.Laws.{shell_room, shell_put}
use native.Mathlib.Omega.{arith}
use Rattle.fused_answer.proofs.put_shell.Goals as goal

pub put_sense-requires : goal.put_sense-requires
put_sense-requires c =
    let a = c.args in
    let r = shell_room a.s.now a.spots.now a.points.now a.v.now a.starts.now a.sense a.facets.now _ _ c.requires.2 in
    omega (arith, r)

pub overflow_add-at : goal.overflow_add-at
overflow_add-at c =
    let a = c.args in
    let r = shell_room a.s.now a.spots.now a.points.now a.v.now a.starts.now a.sense a.facets.now _ _ c.requires.2 in
    omega (arith, r, c.well_formed.1.1.1.1.1.1.1.1.0)

pub put_count-requires : goal.put_count-requires
put_count-requires c =
    let a = c.args in
    let r = shell_room a.s.now a.spots.now a.points.now a.v.now a.starts.now a.sense a.facets.now _ _ c.requires.2 in
    let S = c.put_sense in
    omega (arith, r, S.auto.out)

pub overflow_add-at-2 : goal.overflow_add-at-2
overflow_add-at-2 c =
    let a = c.args in
    let r = shell_room a.s.now a.spots.now a.points.now a.v.now a.starts.now a.sense a.facets.now _ _ c.requires.2 in
    omega (arith, r, c.well_formed.1.1.1.1.1.1.1.1.0)

pub put_facets-requires : goal.put_facets-requires
put_facets-requires c =
    let a = c.args in
    let r = shell_room a.s.now a.spots.now a.points.now a.v.now a.starts.now a.sense a.facets.now _ _ c.requires.2 in
    let S = c.put_sense in
    let N = c.put_count in
    (c.requires.0, c.requires.1, omega (arith, r, S.auto.out, N.auto.out))

pub shape_of-out : goal.shape_of-out
shape_of-out c =
    let a = c.args in
    let r = shell_room a.s.now a.spots.now a.points.now a.v.now a.starts.now a.sense a.facets.now _ _ c.requires.2 in
    let S = c.put_sense in
    let N = c.put_count in
    let F = c.put_facets in
    F.auto.out ∙ N.auto.out ∙ S.auto.out

pub returns : goal.returns
returns c = let a = c.args in
    let r = shell_room a.s.now a.spots.now a.points.now a.v.now a.starts.now a.sense a.facets.now _ _ c.requires.2 in
    let S = c.put_sense in
    let N = c.put_count in
    let F = c.put_facets in
    record { value = (shell_put _ _ _ _ _ _ _ _ _ _ _ _ _ c.requires.2 S.ensures N.ensures F.ensures.value F.ensures.out_after).0; out_after = (shell_put _ _ _ _ _ _ _ _ _ _ _ _ _ c.requires.2 S.ensures N.ensures F.ensures.value F.ensures.out_after).1 }
