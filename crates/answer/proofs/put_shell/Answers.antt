use lib.ListN.{length}
use Rattle.answer.specs.Laws.{shell_room, shell_end, shell_stored}
use borrow.Author.Rules.{rules}
use Rattle.answer.proofs.put_shell.Goals as goal

pub put_sense-requires : goal.put_sense-requires
put_sense-requires c =
    let A = c.args in
    search (rules, shell_room A.sense A.s.now A.from A.sizes.now A.j A.faces c.requires.0 A.at (length A.out.now) c.requires.2)

pub overflow_add-at : goal.overflow_add-at
overflow_add-at c =
    let A = c.args in
    search (rules, shell_room A.sense A.s.now A.from A.sizes.now A.j A.faces c.requires.0 A.at (length A.out.now) c.requires.2)

pub put_count-requires : goal.put_count-requires
put_count-requires c =
    let A = c.args in
    search (rules, shell_room A.sense A.s.now A.from A.sizes.now A.j A.faces c.requires.0 A.at (length A.out.now) c.requires.2)

pub overflow_add-at-2 : goal.overflow_add-at-2
overflow_add-at-2 c =
    let A = c.args in
    search (rules, shell_room A.sense A.s.now A.from A.sizes.now A.j A.faces c.requires.0 A.at (length A.out.now) c.requires.2)

pub put_facets-requires : goal.put_facets-requires
put_facets-requires c =
    let A = c.args in
    search (rules, shell_room A.sense A.s.now A.from A.sizes.now A.j A.faces c.requires.0 A.at (length A.out.now) c.requires.2)

pub returns : goal.returns
returns c = let A = c.args in
    let F = c.put_facets in
    record { value = shell_end A.sense A.s.now A.from A.sizes.now A.j A.faces c.requires.0 A.at _ F.ensures.value; out_after = shell_stored A.sense A.s.now A.from A.sizes.now A.j A.faces c.requires.0 A.out.now _ _ _ A.at c.put_sense.ensures c.put_count.ensures F.ensures.out_after }
