use Rattle.lines.specs.Text.{decimal, answer_word, new_line, answer_line}
use Rattle.lines.specs.Turns.{joined_3}
use native.Mathlib.Omega.{arith}
use Rattle.lines.proofs.put_answer.Goals as goal

pub returns : goal.returns
unfolding answer_line
returns c = let A = c.put-a.ensures in
    let B = c.put_decimal-b.ensures in
    let C = c.put.ensures in
    let j = joined_3 c.args.out.now _ _ _ 0 _ _ _ answer_word (decimal c.args.number) new_line A.value A.out_after B.value.0 B.out_after C.value C.out_after in
    record { value = (omega (arith, j.0), omega (arith, A.value, B.value.1, C.value)); out_after = j.1 }
