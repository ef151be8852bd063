-- Planes: up to 5; near points, and the points of a cell, each once: up to 6; sides: up to 7; merged points: up to 14.
use Rattle.refusal.specs.Outcome.{Outcome}
use Rattle.std.specs.Prelude.{not, List, ℕ, length, eqb, ltb, Ok, Err}
use Rattle.space.specs.declared.Point3.{Point3}
use Rattle.space.specs.declared.Precision.{Precision}
use Rattle.space.specs.declared.Closeness.{Closeness}
use Rattle.space.specs.declared.Closeness.TheVariants as C
use Rattle.space.specs.Shapes.{Cell}
use Rattle.space.specs.Near.{near_of}
use Rattle.indexed.specs.declared.Pick.TheVariants.{Only}
use Rattle.indexed.specs.Indexed.{met, only_in, search_by}
use Rattle.merge.specs.Merge.{merge}
use Rattle.numbered.specs.Numbered.{Numbered, answer, number, numbered_then, numbered_unless, numbered_walk}
use Rattle.numbered.proofs.Numbered.{numbered_more}
use Rattle.numbered.specs.Points.{Close, near_numbered, faces_numbered}

-- ---- the points of a cell, each once

met_numbered : (c : Outcome Closeness) (n h i : ℕ) → Close c → Numbered 13 (met c n h i)
unfolding met
met_numbered (Ok C.Near) n h i w = numbered_unless (not (eqb h n)) 13 tt tt (answer i)
met_numbered (Ok C.Apart) n h i w = answer h
met_numbered (Err x) n h i w = numbered_more tt (number x w)

only_numbered : (t : Precision) (q : Point3) (l : List Point3) → Numbered 13 (search_by Only t q l)
unfolding search_by only_in
only_numbered t q l = numbered_walk _ (λ h r. met_numbered (near_of t q r.it) (length l) h r.place (near_numbered t q r.it)) (length l) _

pub merge_numbered : (t : Precision) (c : Cell) → Numbered 14 (merge t c)
unfolding merge
merge_numbered t c =
    numbered_then (numbered_more tt (faces_numbered (search_by Only t) (only_numbered t) c)) (λ s.
    numbered_then (numbered_unless (ltb 4096 (length s.points)) 14 tt tt (answer _)) (λ _. answer s))
