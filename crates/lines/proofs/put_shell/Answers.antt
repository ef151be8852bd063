use Rattle.lines.specs.Text.{decimal, shell_word, new_line, way, shell_line}
use Rattle.lines.specs.Turns.{joined_5}
use native.Mathlib.Omega.{arith}
use Rattle.lines.proofs.put_shell.Goals as goal

pub returns : goal.returns
unfolding shell_line
returns c = let A = c.put-a.ensures in
    let B = c.put_decimal-b.ensures in
    let C = c.put_way-c.ensures in
    let D = c.put_decimal-d.ensures in
    let E = c.put.ensures in
    let j = joined_5 c.args.out.now _ _ _ _ _ _ _ _ _ _ _ shell_word (decimal c.args.shell) (way c.args.sense) (decimal c.args.facets) new_line A.value A.out_after B.value.0 B.out_after C.value.0 C.out_after D.value.0 D.out_after E.value E.out_after in
    record { value = (j.0, omega (arith, A.value, B.value.1, C.value.1, D.value.1, E.value)); out_after = j.1 }
