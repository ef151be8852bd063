-- Reading bytes refuses with 1 alone.
use Rattle.std.specs.Prelude.{not, List, ℕ, ◌+◌, ◌*◌, length, drop, eqb}
use Rattle.job.specs.declared.Operation.TheVariants.{Intersection, Difference, Union}
use Rattle.job.specs.declared.Faces.{Faces}
use Rattle.job.specs.Records.{standing, span_end, span_faces, span_points, span_of}
use Rattle.job.specs.Read.{headed, operation_of, closing, operation_at, layout_as, layout_on, layout_after, layout_of, cell_end, cell_layout, facet_end, facet_headed, facet_layout, facet_at, read_facet}
use Rattle.numbered.specs.Numbered.{Numbered, answer, numbered_at, numbered_then, numbered_unless, numbered_cond}

end_numbered : (l : List ℕ) (at n m : ℕ) (f : Faces) (e : ℕ) → Numbered 1 (span_end l at n m f e)
unfolding span_end
end_numbered l at n m f e = numbered_unless (not (standing 5 0 (drop e l))) 1 tt tt (answer _)

pub span_numbered : (l : List ℕ) (at : ℕ) → Numbered 1 (span_of l at)
unfolding span_of span_points span_faces
span_numbered l at = end_numbered l at _ _ _ _

kind_numbered : (b : ℕ) → Numbered 1 (operation_of b)
unfolding operation_of
kind_numbered b = numbered_cond (eqb b 1) (answer Intersection) (numbered_cond (eqb b 2) (answer Difference) (numbered_cond (eqb b 3) (answer Union) (numbered_at 1 tt tt)))

operation_numbered : (l : List ℕ) (at : ℕ) → Numbered 1 (operation_at l at)
unfolding operation_at
operation_numbered l at = numbered_unless (not (closing l at)) 1 tt tt (kind_numbered _)

-- a job, a solid alone, a facet
pub layout_numbered : (l : List ℕ) → Numbered 1 (layout_of l)
unfolding layout_of layout_after layout_on
layout_numbered l =
    numbered_unless (not (headed l)) 1 tt tt
    (numbered_then (span_numbered l 17) (λ a. numbered_then (span_numbered l a.end) (λ b. numbered_then (operation_numbered l b.end) (λ o. answer (layout_as l a b o)))))

pub cell_numbered : (l : List ℕ) → Numbered 1 (cell_layout l)
unfolding cell_layout cell_end
cell_numbered l = numbered_unless (not (headed l)) 1 tt tt (numbered_then (span_numbered l 17) (λ a. numbered_unless (not (eqb (length l) a.end)) 1 tt tt (answer _)))

facet_end_lem : (l : List ℕ) (n : ℕ) → Numbered 1 (facet_end l n)
unfolding facet_end
facet_end_lem l n = numbered_unless (not (eqb (length l) (114 + 25 * n))) 1 tt tt (answer _)

pub facet_numbered : (l : List ℕ) → Numbered 1 (read_facet l)
unfolding read_facet facet_layout
facet_numbered l = numbered_then (numbered_unless (not (facet_headed l)) 1 tt tt (facet_end_lem l _)) (λ y. answer (facet_at l y))
