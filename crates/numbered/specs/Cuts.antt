-- A cut, the cells of a Boolean operation and their pieces: up to 12.
use Rattle.refusal.specs.Outcome.{Outcome}
use Rattle.std.specs.Prelude.{Ok, Err}
use Rattle.edge.specs.declared.Meet.{Meet}
use Rattle.edge.specs.declared.Meet.TheVariants as M
use Rattle.numbered.specs.Numbered.{Among}

-- ---- an edge against a plane

-- a meeting that refuses has a number up to 9
abbrev pub Met : Outcome Meet → Type 0
Met (Ok M.Keep) = Unit {0}
Met (Ok M.Drop) = Unit {0}
Met (Ok M.Touch) = Unit {0}
Met (Ok (M.Cut x y z)) = Unit {0}
Met (Err r) = Among 9 r
