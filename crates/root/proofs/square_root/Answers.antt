use mathlib.Core.Path.{sym, ◌∙◌, subst}
use native.Mathlib.Omega.{arith}
use lib.Dec.{T}
use lib.Ieee.{binary64, fits}
use Rattle.root.proofs.Ends.{of_nan, no_nan, is_none, is_negative, is_top, is_small, is_normal, no_number}
use Rattle.root.proofs.square_root.Goals as goal
use Rattle.root.proofs.square_root.Goals.{Start}

-- `root::square_root` meets its contract. Assumes nothing.
held : (c : Start) → T (fits binary64 c.args.x)
held c = subst T (sym c.well_formed.0.1) tt

pub returns-then-x : goal.returns-then-x
returns-then-x c = of_nan _ c.if-x.true

pub float_to_bits-bits : goal.float_to_bits-bits
float_to_bits-bits c = no_nan _ c.if-x.false

pub returns-then-size-eq0 : goal.returns-then-size-eq0
returns-then-size-eq0 c = is_none c.args.x (held c.before.before) c.if-size-eq0.true

pub returns-then-bits-ge-TWO_63 : goal.returns-then-bits-ge-TWO_63
returns-then-bits-ge-TWO_63 c = no_number ∙ is_negative c.args.x (held c.before.before.before) c.if-bits-ge-TWO_63.true c.if-size-eq0.false

pub returns-then-field-eq2047 : goal.returns-then-field-eq2047
returns-then-field-eq2047 c = is_top c.args.x (held c.before.before.before.before) c.if-bits-ge-TWO_63.false c.if-field-eq2047.true

pub returns-then-field-eq0 : goal.returns-then-field-eq0
returns-then-field-eq0 c = c.root_of_units.ensures ∙ is_small c.args.x (held c.before.before.before.before.before.before.before.before) c.if-bits-ge-TWO_63.false c.if-field-eq0.true c.lift-l.result c.lift-l.ensures (omega (arith, c.if-size-eq0.false, c.if-field-eq0.true))

pub returns : goal.returns
returns c = c.root_of_units-2.ensures ∙ is_normal c.args.x (held c.before.before.before.before.before.before) c.if-bits-ge-TWO_63.false c.if-field-eq2047.false c.if-field-eq0.false
