use mathlib.Core.Path.{sym, subst}
use Rattle.shells.specs.Faces.{Told, told_any}
use Rattle.shells.proofs.contains.Goals as goal

pub returns : goal.returns
returns c = subst (Told c.args.l.now c.args.x) (sym c.contains.ensures.value) (told_any c.args.l.now c.args.x)
