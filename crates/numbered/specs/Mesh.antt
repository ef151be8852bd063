-- The mesh of a facet: up to 34.
use Rattle.refusal.specs.Outcome.{Outcome}
use Rattle.std.specs.Prelude.{Ok, Err}
use Rattle.turns.specs.declared.Turn.{Turn}
use Rattle.turns.specs.declared.Turn.TheVariants as T
use Rattle.ears.specs.declared.Block.{Block}
use Rattle.ears.specs.declared.Block.TheVariants as B
use Rattle.ears.specs.declared.Found.{Found}
use Rattle.ears.specs.declared.Found.TheVariants as F
use Rattle.numbered.specs.Numbered.{Among}

-- ---- turns

-- a turn that refuses has a number up to 33
abbrev pub Turned : Outcome Turn → Type 0
Turned (Ok T.Positive) = Unit {0}
Turned (Ok T.Negative) = Unit {0}
Turned (Ok T.Zero) = Unit {0}
Turned (Err r) = Among 33 r

-- ---- the scan for an ear

-- a test of a corner, and a scan, that refuse have a number up to 33
abbrev pub Blocked : Outcome Block → Type 0
Blocked (Ok B.Clear) = Unit {0}
Blocked (Ok B.Blocked) = Unit {0}
Blocked (Err r) = Among 33 r

abbrev pub Scanned : Outcome Found → Type 0
Scanned (Ok (F.Ear i w)) = Unit {0}
Scanned (Ok (F.Straight i)) = Unit {0}
Scanned (Ok F.Nothing) = Unit {0}
Scanned (Err r) = Among 33 r
