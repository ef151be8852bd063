use mathlib.Core.Path.{sym, ◌∙◌}
use Prim.Native.Nat.{◌*◌, ◌≤◌}
use lib.ListN.{length}
use borrow.Author.Tests.{not-true, not-false}
use Rattle.topology.specs.Sound.{ends_within, sound_not, sound_is}
use native.Mathlib.Omega.{arith}
use borrow.Author.Rules.{rules}
use mathlib.Core.Path.{ap}
use mathlib.Core.Bool.{not}
use Rattle.topology.proofs.is_sound.Goals as goal

pub returns-then-not-is_round : goal.returns-then-not-is_round
returns-then-not-is_round c =
    let l = c.lay_corners-c in
    sound_not _ _ _ _ _ _ _ c.requires.n_in_bounds.0 l.ensures.result_after (sym c.is_round.ensures ∙ not-true _ (ap not c.if-not-is_round.true))

pub overflow_mul-c : goal.overflow_mul-c
overflow_mul-c c =
    let l = c.lay_corners-c in
    let h : 2 * l.result ≤ length c.args.ends.now = omega (arith, l.ensures.upper_bound, c.requires.places_in_bounds.0) in
    search rules

pub is_one-one-requires : goal.is_one-one-requires
is_one-one-requires c = let l = c.lay_corners-c in
    record { e_in_bounds = (search rules, ends_within _ _ _ _ _ _ 0 c.requires.n_in_bounds.0 l.ensures.result_after _ c.put_joins.ensures); n_in_bounds = search rules; n_in_bounds_2 = search rules }

pub shape_of-next : goal.shape_of-next
shape_of-next c = c.is_one-one.auto.next ∙ c.lay_corners-c.auto.nexts

pub shape_of-nodes : goal.shape_of-nodes
shape_of-nodes c = c.is_one-one.auto.nodes ∙ c.lay_corners-c.auto.faces

pub returns : goal.returns
returns c =
    let l = c.lay_corners-c in
    sound_is _ _ _ _ _ _ _ c.requires.n_in_bounds.0 l.ensures.result_after _ _ _ _ l.ensures.upper_bound (sym c.is_round.ensures ∙ not-false _ (ap not c.if-not-is_round.false)) c.all_fit-fit.ensures c.all_used-used.ensures c.put_joins.ensures c.is_one-one.ensures
