use Rattle.volume.specs.Shell.{facet_start, facet_first, first_point}
use borrow.Author.Rules.{rules}
use native.Mathlib.Omega.{arith}
use Rattle.volume.proofs.origin_of.Goals as goal

pub offset_bounds-starts-k : goal.offset_bounds-starts-k
offset_bounds-starts-k c =
    let a = c.args in
    omega (arith, facet_start a.v.now a.starts.now a.shell.now 0 c.requires.1 c.requires.1.first)

pub bounds-starts-k : goal.bounds-starts-k
bounds-starts-k c =
    let a = c.args in
    omega (arith, facet_start a.v.now a.starts.now a.shell.now 0 c.requires.1 c.requires.1.first)

pub offset_bounds-v-s : goal.offset_bounds-v-s
offset_bounds-v-s c =
    let a = c.args in
    omega (arith, facet_first a.v.now a.starts.now a.shell.now 0 c.requires.1 c.requires.1.first)

pub bounds-v-s : goal.bounds-v-s
bounds-v-s c =
    let a = c.args in
    omega (arith, facet_first a.v.now a.starts.now a.shell.now 0 c.requires.1 c.requires.1.first)

pub corner-requires : goal.corner-requires
corner-requires c = search (rules, first_point)

pub returns : goal.returns
returns c = cc
