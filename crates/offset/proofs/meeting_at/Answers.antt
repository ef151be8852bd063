use native.Mathlib.Omega.{arith}
use Rattle.offset.specs.Laws.{gathering_start, gathering_few, gathering_step, gathering_end}
use Rattle.offset.proofs.meeting_at.Goals as goal

pub loop-j-init : goal.loop-j-init
loop-j-init c =
    gathering_start _ _ _ _ _ _ _ _ _ c.requires c.alone-m.ensures

pub loop-j-preserved : goal.loop-j-preserved
loop-j-preserved c =
    gathering_step c.loop-j.invariant _ _ _ c.requires c.loop-j-test.true c.get_point-normal.ensures c.is_corner-meets.ensures c.note_if-m.ensures

pub returns : goal.returns
returns c = gathering_end c.loop-j.invariant c.loop-j-test.false

pub note_if-m-requires : goal.note_if-m-requires
note_if-m-requires c =
    omega (arith, gathering_few c.loop-j.invariant, c.loop-j-test.true, c.requires.lies.listed, c.well_formed)
