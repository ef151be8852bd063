-- DEMAND 3 of the call: whatever it answers is the bytes of bodies for which demand 3 holds.
use Rattle.std.specs.Prelude.{◌≡◌, Bool, List, ℕ, Ok}
use Rattle.std.proofs.Common.{sym}
use Rattle.refusal.specs.Laws.{same_ok, then_ok}
use Rattle.space.specs.Shapes.{Face, Cell}
use Rattle.job.specs.declared.Layout.{Layout}
use Rattle.jobs.specs.Jobs.{open_job, Both, both_of}
use Rattle.pieces.specs.Pieces.{pieces_of}
use Rattle.fused.specs.Bodies.{fuse_cells}
use Rattle.fused.specs.Theorem.{Fusion, fusion}
use Rattle.fused_bytes.specs.Bytes.{fused_answer, answer_of}
use Rattle.fuse_served.specs.Call.{fused_of, fuse_call}
use Rattle.fuse_served.specs.Entry.{fuse_both, fuse_laid, fuse_entry}

-- the job, its checked solids, the pieces and the bodies behind an answer
pub record Answer (enough : Bool) (room : ℕ) (l bytes : List ℕ) : Type 0 where
  pub layout : Layout
  pub opened : open_job enough l ≡ Ok layout
  pub both : Both
  pub checked : both_of l layout ≡ Ok both
  pub pieces : List Cell
  pub split : pieces_of layout.operation layout.precision room both.first both.second ≡ Ok pieces
  pub bodies : List (List (List Face))
  pub fused : Fusion layout.precision room pieces bodies
  pub is : bytes ≡ fused_answer bodies

pub entry_fusion : (enough : Bool) (room : ℕ) (l bytes : List ℕ) → fuse_entry enough room l ≡ Ok bytes → Answer enough room l bytes
unfolding fuse_entry fuse_laid fuse_call answer_of fused_of
entry_fusion enough room l bytes e =
    let a = then_ok (open_job enough l) (fuse_laid l room) bytes e in
    let y = a.0 in
    let b = then_ok (both_of l y) (fuse_both room y) bytes a.2 in
    let p = b.0 in
    let c = then_ok (fused_of y.operation y.precision room p.first p.second) (λ bs. Ok (fused_answer bs)) bytes b.2 in
    let d = then_ok (pieces_of y.operation y.precision room p.first p.second) (fuse_cells y.precision room) c.0 c.1 in
    record {
      layout = y;
      opened = a.1;
      both = p;
      checked = b.1;
      pieces = d.0;
      split = d.1;
      bodies = c.0;
      fused = fusion y.precision room d.0 c.0 d.2;
      is = sym (same_ok c.2);
    }
