use mathlib.Core.Path.{◌≡◌}
use mathlib.Core.List.{List}
use Prim.Native.Nat.{ℕ, ◌+◌, ◌≤◌, ◌<◌}
use lib.ListN.{length, get_or}
use Rattle.space.specs.declared.Precision.{Precision}
use Rattle.outline.specs.declared.Outline.{Outline}
use Rattle.outline.specs.Project.{points_of}
use Rattle.ears.specs.declared.Active.{Active}
use Rattle.ears.specs.declared.Triangle.{Triangle}
use Rattle.ears.specs.Places.{active}
use Rattle.mesh.specs.declared.Triples.{Triples}
use Rattle.mesh.specs.Mesh.{triples, clipped_of}
use Rattle.mesh.specs.Laws.{yields}
use Rattle.mesh.proofs.clip.Given as goal

-- the corners that are left, the triangles so far, and what they still give
pub record Held (p : Precision) (o : Outline) (a : Active) (out : Triples) : Type 0 where
  pub left : List ℕ
  pub ears : List Triangle
  pub active_is : a ≡ active left
  pub out_is : out ≡ triples ears
  pub three : 3 ≤ length left
  pub count : length left + length ears ≤ o.n
  pub low : (j : ℕ) → get_or left j 0 < o.n
  pub rest : yields p (points_of o) left ears ≡ clipped_of p (points_of o)

abbrev pub invariant-loop-active : goal.invariant-loop-active
invariant-loop-active l = Held l.p l.o l.active l.out

abbrev pub decreases-loop-active : goal.decreases-loop-active
decreases-loop-active l = l.active.n
