use Rattle.std.specs.Prelude.{◌≡◌, Err}
use Rattle.keys.specs.Sized.{place_in}
use Rattle.interfaces.specs.Steps.{turn_one, two_second, two_room, two_read, turn_two, turn_refused, turn_more}
use borrow.Author.Rules.{rules}
use Rattle.interfaces.proofs.meet_run.Goals as goal

pub returns-then-size-eq1 : goal.returns-then-size-eq1
returns-then-size-eq1 c = search (rules, turn_one)

pub bounds-ord-p-then-size-eq2-2 : goal.bounds-ord-p-then-size-eq2-2
bounds-ord-p-then-size-eq2-2 c = search (rules, two_read)

pub meet_two-requires : goal.meet_two-requires
meet_two-requires c = (search rules, search rules, search (rules, place_in), search (rules, two_second), search (rules, two_room))

pub returns-then-size-eq2 : goal.returns-then-size-eq2
returns-then-size-eq2 c = search (rules, turn_two)

pub returns : goal.returns
returns c = search (rules, turn_more)

pub returns-in_err-meet_two : goal.returns-in_err-meet_two
returns-in_err-meet_two c = let told : c.from_residual.result ≡ Err c.in_err-meet_two.field-0.0 = search rules in
    turn_refused _ _ _ _ _ _ c.requires.starts.3 _ _ _ _ _ c.requires.starts.4 c.requires.part _ _ _ c.run_size-size.ensures c.if-size-eq2.true c.meet_two.ensures.judged c.meet_two.ensures.stored _ _ c.in_err-meet_two.was told
