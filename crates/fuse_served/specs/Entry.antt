-- The call that fuses, from outside. Definitions only.
use Rattle.std.specs.Prelude.{ℕ, ◌*◌, ◌≤◌, ◌≡◌, Bool, List, length, Float}
use Rattle.refusal.specs.Outcome.{Outcome, then}
use Rattle.space.specs.Shapes.{Cell}
use Rattle.job.specs.declared.Layout.{Layout}
use Rattle.jobs.specs.Jobs.{open_job, Both, both_of}
use Rattle.ended.specs.declared.Ended.{Ended}
use Rattle.ended.specs.Ends.{ended_of, written}
use Rattle.fuse_lent.specs.Lent.{lends}
use Rattle.pieces.specs.Pieces.{pieces_of}
use Rattle.fuse_served.specs.Call.{fuse_call}

-- the pieces of the job's operation
abbrev pub pieces_both : ℕ → Layout → Both → Outcome (List Cell)
pieces_both room y p = pieces_of y.operation y.precision room p.first p.second

-- "the first solid, the second, then 000's own order of work"
abbrev pub fuse_both : ℕ → Layout → Both → Outcome (List ℕ)
fuse_both room y p = fuse_call y.operation y.precision room p.first p.second

unfoldable pub fuse_laid : List ℕ → ℕ → Layout → Outcome (List ℕ)
fuse_laid l room y = then (both_of l y) (fuse_both room y)

-- "1 (a job is read whole first), 12 for an answer room below the work room, 2 for the tolerances, the first solid, the second, then 000's own order of work"
unfoldable pub fuse_entry : Bool → ℕ → List ℕ → Outcome (List ℕ)
fuse_entry enough room l = then (open_job enough l) (fuse_laid l room)

-- how the call ends with these slices lent, in at most 2 ^ 38 bytes, 64 for each corner of a room of at most 2 ^ 32, and the answer's memory behind it
abbrev pub FuseEnded : (job : List ℕ) (room : ℕ) (rest spare dst : List Float) (held slots counts sizes seats lengths owners cells cuts runs keys begins ord ends marks out many shells answer : List ℕ) (r : Ended) (answer' : List ℕ) → Type 0
FuseEnded job room rest spare dst held slots counts sizes seats lengths owners cells cuts runs keys begins ord ends marks out many shells answer r answer' =
    let o = fuse_entry (lends room (length answer) (length rest) (length spare) (length dst) (length held) (length slots) (length counts) (length sizes) (length seats) (length lengths) (length owners) (length cells) (length cuts) (length runs) (length keys) (length begins) (length ord) (length ends) (length marks) (length out) (length many) (length shells)) room job in
    ((r ≡ ended_of o) × (r.bytes ≤ 274877906944) × (r.bytes ≤ 64 * room)) × (answer' ≡ written o answer)
