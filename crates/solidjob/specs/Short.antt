-- No answer of the call that fuses has more than 64 bytes for each corner of the room.
use Rattle.std.specs.Prelude.{◌≡◌, Bool, true, List, ℕ, ◌*◌, ◌≤◌, length, Ok}
use Rattle.std.proofs.Common.{subst}
use Rattle.refusal.specs.Laws.{same_ok, then_ok}
use Rattle.space.specs.declared.Precision.{Precision}
use Rattle.space.specs.Shapes.{Solid, Cell}
use Rattle.room.specs.Laws.{all_map}
use Rattle.clip.specs.Clips.{Wide}
use Rattle.job.specs.declared.Layout.{Layout}
use Rattle.job.specs.Read.{solid_at}
use Rattle.solid_check.specs.Check.{check}
use Rattle.intake.specs.Laws.{check_few}
use Rattle.jobs.specs.Jobs.{open_job, Both, with_second, both_of}
use Rattle.fuse_served.specs.Short.{call_short}
use Rattle.fuse_served.specs.Entry.{fuse_both, fuse_laid, fuse_entry}

-- every face of a checked solid has three corners or more
checked_wide : (t : Precision) (s : Solid) (c : Cell) → check true t s ≡ Ok c → Wide c
checked_wide t s c e = all_map _ _ c (λ f g. g.0) (check_few t s c e).sized

both_wide : (l : List ℕ) (y : Layout) (p : Both) → both_of l y ≡ Ok p → Wide p.first × Wide p.second
unfolding both_of
both_wide l y p e =
    let a = then_ok (check true y.precision (solid_at l y.first)) (with_second l y) p e in
    let b = then_ok (check true y.precision (solid_at l y.second)) _ p a.2 in
    subst (λ q. Wide q.first × Wide q.second) (same_ok b.2) (checked_wide y.precision (solid_at l y.first) a.0 a.1, checked_wide y.precision (solid_at l y.second) b.0 b.1)

pub entry_short : (enough : Bool) (room : ℕ) (l bytes : List ℕ) → fuse_entry enough room l ≡ Ok bytes → length bytes ≤ 64 * room
unfolding fuse_entry fuse_laid
entry_short enough room l bytes e =
    let a = then_ok (open_job enough l) (fuse_laid l room) bytes e in
    let y = a.0 in
    let b = then_ok (both_of l y) (fuse_both room y) bytes a.2 in
    let p = b.0 in
    let w = both_wide l y p b.1 in
    call_short y.operation y.precision room p.first p.second bytes b.2 w.0 w.1
