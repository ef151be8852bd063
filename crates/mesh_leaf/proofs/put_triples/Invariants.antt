use mathlib.Core.Path.{◌≡◌}
use Prim.Native.Nat.{◌*◌}
use lib.ListN.{length, drop}
use lib.Seq.{sets}
use Rattle.mesh_leaf.specs.Drawing.{triangles_in, places}
use Rattle.mesh_leaf.proofs.put_triples.Given as goal

abbrev pub invariant-loop-i : goal.invariant-loop-i
invariant-loop-i l = (length l.out ≡ length l.initial.out) × (sets l.out (3 * l.i) (places (drop l.i (triangles_in l.t))) ≡ sets l.initial.out 0 (places (triangles_in l.t)))
