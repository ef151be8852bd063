-- Numbers that are read from bytes are values of the format: of a job, or of one solid, that is read, whose tolerances are fair and that passes the check, what the tube says has no hypothesis.
-- Assumes nothing.
use Rattle.std.specs.Prelude.{◌≡◌, true, List, ℕ, ◌+◌}
use Rattle.std.proofs.Common.{subst}
use Rattle.std.specs.Float.{binary64}
use Rattle.std.specs.Float.Ieee.Bits.{of_bits-fits}
use Rattle.float.proofs.Laws.{Held}
use Rattle.space.specs.declared.Precision.{Precision}
use Rattle.space.specs.Vector.{fair_precision}
use Rattle.polygon.specs.Members.{All}
use Rattle.words.specs.Little.{float_at}
use Rattle.job.specs.declared.Span.{Span}
use Rattle.job.specs.Bytes.{point_of, solid_of}
use Rattle.job.specs.Read.{precision_at, bodies_at, solid_at}
use Rattle.tube.specs.Tube.{Held3}
use Rattle.tube_domain.specs.Normal.{Fair}
use Rattle.tube_domain.specs.Checked.{map_all}

-- ---- numbers from bytes
float_held : (l : List ℕ) (at : ℕ) → Held (float_at l at)
unfolding float_at
float_held l at = of_bits-fits binary64 _

point_held : (b : List ℕ) → Held3 (point_of b)
unfolding point_of
point_held b = record { x_held = float_held b 0; y_held = float_held b 8; z_held = float_held b 16 }

pub solid_held : (l : List ℕ) (a : Span) → All Held3 (solid_at l a).points
unfolding solid_at solid_of
solid_held l a = map_all Held3 point_of point_held (bodies_at l a).points

pub fair_at : (l : List ℕ) (at : ℕ) (t : Precision) → precision_at l at ≡ t → fair_precision t ≡ true → Fair t
unfolding precision_at
fair_at l at t e f = record { linear_held = subst (λ (p : Precision). Held p.linear) e (float_held l at); local_held = subst (λ (p : Precision). Held p.local) e (float_held l (at + 8)); fair = f }
