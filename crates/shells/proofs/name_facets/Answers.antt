use Prim.Native.Nat.{◌<◌}
use lib.ListN.{length, get_or}
use native.Mathlib.Omega.{arith}
use Rattle.shells.specs.Named.{naming_in, naming_step}
use borrow.Author.Rules.{rules}
use Rattle.shells.proofs.name_facets.Goals as goal

pub offset_bounds-faces-nodes : goal.offset_bounds-faces-nodes
offset_bounds-faces-nodes c =
    let h : get_or c.loop-i.nodes c.loop-i.i 0 < length c.args.faces.now = search (rules, naming_in) in
    omega arith

pub bounds-faces-nodes : goal.bounds-faces-nodes
bounds-faces-nodes c = search (rules, naming_in)

pub loop-i-preserved : goal.loop-i-preserved
loop-i-preserved c = search (rules, naming_step)
