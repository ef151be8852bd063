-- Each call's refusals have numbers of 01's, and what it tells can be read back: the number, how many bytes, and whether it answered.
use Rattle.std.specs.Prelude.{Bool, true, not, List, ℕ, ◌≤◌, length, T, leb, ltb, Float}
use Rattle.std.proofs.Common.{sym, ◌∙◌, arith}
use Rattle.std.specs.Float.Ieee.{neg}
use Rattle.refusal.specs.Outcome.{Outcome}
use Rattle.job.specs.Read.{solid_at}
use Rattle.indexed.specs.Stored.{flat}
use Rattle.hollow.specs.Hollows.{thick}
use Rattle.ended.specs.Ends.{fitted}
use Rattle.cell_answer.specs.Solids.{solids_answer}
use Rattle.cells_served.specs.Call.{cells_call}
use Rattle.cells_served.specs.Entry.{cells_laid, cells_entry}
use Rattle.fused_bytes.specs.Bytes.{answer_of}
use Rattle.fuse_served.specs.Call.{fused_of, fuse_call}
use Rattle.fuse_served.specs.Entry.{fuse_laid, fuse_entry}
use Rattle.offset_answer.specs.Calls.{offset_answer, built_answer, offset_call}
use Rattle.hollow_answer.specs.Calls.{built_cell, wall_call, shell_call, hollow_call}
use Rattle.solid_offset.specs.Entries.{offset_laid, offset_entry, hollow_laid, hollow_entry}
use Rattle.solid_mesh.specs.Mesh.{face_of, is_small, mesh_bytes, mesh_facet, mesh_call}
use Rattle.numbered.specs.Numbered.{Numbered, answer, numbered_then, numbered_unless}
use Rattle.numbered.proofs.Numbered.{numbered_more}
use Rattle.numbered.specs.Reading.{facet_numbered}
use Rattle.numbered.specs.Solids.{cell_of_numbered}
use Rattle.numbered.proofs.Solids.{check_numbered, built_numbered, finish_numbered, open_numbered, open_cell_numbered, both_solids_numbered}
use Rattle.numbered.proofs.Cuts.{cut_cells_numbered, pieces_numbered}
use Rattle.numbered.proofs.Fusing.{fused_numbered}
use Rattle.numbered.proofs.Moves.{moved_numbered, wall_numbered}
use Rattle.numbered.proofs.Mesh.{triangles_of_numbered}
use Rattle.numbered.specs.Calls.{told_answer, Told}
use Rattle.numbered.proofs.Told.{told_number, told_bytes}

-- ---- what is told

told : {n : ℕ} {o : Outcome (List ℕ)} → Numbered n o → n ≤ 255 → Told o
told w h = let e = told_number w h in record { number_is = e; bytes_are = told_bytes w h; zero_answers = λ z. told_answer w (sym e ∙ z) }

-- ---- the five calls

pub fuse_numbered : (enough : Bool) (room : ℕ) (l : List ℕ) → Numbered 23 (fuse_entry enough room l)
unfolding fuse_entry fuse_laid fuse_call answer_of fused_of
fuse_numbered enough room l =
    numbered_then (numbered_more tt (open_numbered enough l)) (λ y.
    numbered_then (numbered_more tt (both_solids_numbered l y)) (λ p.
    numbered_then (numbered_then (numbered_more tt (pieces_numbered y.operation y.precision room p.first p.second)) (fused_numbered y.precision room)) (λ bs. answer _)))

pub cells_numbered : (enough : Bool) (room : ℕ) (l : List ℕ) → Numbered 12 (cells_entry enough room l)
unfolding cells_entry cells_laid cells_call solids_answer
cells_numbered enough room l =
    numbered_then (open_numbered enough l) (λ y.
    numbered_then (numbered_more tt (both_solids_numbered l y)) (λ p.
    numbered_then (cut_cells_numbered y.operation y.precision room p.first p.second) (λ cs.
    numbered_then (numbered_more tt (finish_numbered y.precision cs)) (λ ss. answer _))))

-- 12 where the answer's memory is too small, last of all
fitted_numbered : {n : ℕ} {o : Outcome (List ℕ)} (k : ℕ) → T (leb 12 n) → Numbered n o → Numbered n (fitted k o)
unfolding fitted
fitted_numbered k h w = numbered_then w (λ l. numbered_unless (ltb k (length l)) 12 tt h (answer l))

pub offset_numbered : (k : ℕ) (lends : Bool) (room : ℕ) (d : Float) (l : List ℕ) → Numbered 27 (fitted k (offset_entry lends room d l))
unfolding offset_entry offset_laid offset_call built_answer offset_answer
offset_numbered k lends room d l =
    fitted_numbered k tt
    (numbered_then (numbered_more tt (open_cell_numbered lends l)) (λ y.
    numbered_then (numbered_more tt (check_numbered true y.precision (solid_at l y.solid))) (λ c.
    numbered_then (moved_numbered y.precision d c) (λ m.
    numbered_then (numbered_more tt (built_numbered y.precision m)) (λ s. numbered_unless (ltb room (length (flat s.faces))) 12 tt tt (answer _))))))

pub hollow_numbered : (k : ℕ) (lends : Bool) (room : ℕ) (w : Float) (l : List ℕ) → Numbered 29 (fitted k (hollow_entry lends room w l))
unfolding hollow_entry hollow_laid hollow_call shell_call built_cell wall_call
hollow_numbered k lends room w l =
    fitted_numbered k tt
    (numbered_then (numbered_more tt (open_cell_numbered lends l)) (λ y.
    numbered_unless (not (thick y.precision w)) 28 tt tt
    (numbered_then (numbered_more tt (check_numbered true y.precision (solid_at l y.solid))) (λ c.
    numbered_then (numbered_more tt (moved_numbered y.precision (neg w) c)) (λ m.
    numbered_then (numbered_then (numbered_more tt (built_numbered y.precision m)) (λ s. numbered_more tt (cell_of_numbered y.precision s))) (λ b.
    numbered_then (wall_numbered y.precision room c m b) (λ h. answer _)))))))

pub mesh_numbered : (size : ℕ) (l : List ℕ) → Numbered 34 (mesh_call size l)
unfolding mesh_call mesh_facet mesh_bytes
mesh_numbered size l =
    numbered_then (numbered_more tt (facet_numbered l)) (λ f. numbered_unless (is_small size (length f.points)) 12 tt tt (numbered_then (triangles_of_numbered f.precision (face_of f)) (λ ts. answer _)))

-- ---- what the five calls tell

pub fuse_told : (enough : Bool) (room : ℕ) (l : List ℕ) → Told (fuse_entry enough room l)
fuse_told enough room l = told (fuse_numbered enough room l) (omega arith)

pub cells_told : (enough : Bool) (room : ℕ) (l : List ℕ) → Told (cells_entry enough room l)
cells_told enough room l = told (cells_numbered enough room l) (omega arith)

pub offset_told : (k : ℕ) (lends : Bool) (room : ℕ) (d : Float) (l : List ℕ) → Told (fitted k (offset_entry lends room d l))
offset_told k lends room d l = told (offset_numbered k lends room d l) (omega arith)

pub hollow_told : (k : ℕ) (lends : Bool) (room : ℕ) (w : Float) (l : List ℕ) → Told (fitted k (hollow_entry lends room w l))
hollow_told k lends room w l = told (hollow_numbered k lends room w l) (omega arith)

pub mesh_told : (size : ℕ) (l : List ℕ) → Told (mesh_call size l)
mesh_told size l = told (mesh_numbered size l) (omega arith)
