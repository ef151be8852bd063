use Rattle.lines.specs.Turns.{body_turn, shell_turn}
use native.Mathlib.Omega.{arith}
use Rattle.lines.proofs.turn.Goals as goal

pub returns-then-s-eq0 : goal.returns-then-s-eq0
returns-then-s-eq0 c =
    body_turn c.args.bytes.now c.args.s c.args.end _ c.args.out.now _ c.requires.0 _ c.if-s-eq0.true c.requires.1 c.count_at-shells.ensures.0 c.put_body-e.ensures.value c.put_body-e.ensures.out_after

pub returns : goal.returns
returns c =
    shell_turn c.args.bytes.now c.args.s c.args.end _ c.args.out.now _ c.requires.0 _ _ _ (omega (arith, c.if-s-eq0.false)) c.requires.1 c.requires.2 c.count_at-facets.ensures.0 c.byte_at.ensures.0 c.behind_facets.ensures c.put_shell-e.ensures.value c.put_shell-e.ensures.out_after
