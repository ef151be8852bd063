-- The figures of docs/TUBE.md. P1 to P3 of document 01 in exact numbers: the plane at the origin with normal +x, the point
-- (d,0,0), local 2 ^ -18; and near. Computed from the definitions; the sides of P1 to P3 stand in crate worked. Assumes nothing.
use Rattle.std.specs.Prelude.{Float}
use Rattle.std.specs.Float.Ieee.{fits}
use Rattle.float.proofs.Laws.{Held}
use Rattle.tube.specs.Tube.{Given, Tube}
use Rattle.tube.proofs.Tube.{tube}
use Rattle.tube.specs.Worked.{half, twice, tol, wall, at, rounded}

-- ---- what the theorem asks holds of them
module _ (d : Float) (h : Held d) where
  given : Given tol wall (at d)
  unfolding fits
  given = record {
    local_held = tt;
    local_finite = tt;
    point = record { x_held = h; y_held = tt; z_held = tt };
    from = record { x_held = tt; y_held = tt; z_held = tt };
    normal = record { x_held = tt; y_held = tt; z_held = tt };
  }

pub p1_tube : Tube tol wall (at half)
unfolding rounded
p1_tube = tube tol wall (at half) (given half tt) (record { lo_finite = tt; hi_finite = tt })

pub p3_tube : Tube tol wall (at twice)
unfolding rounded
p3_tube = tube tol wall (at twice) (given twice tt) (record { lo_finite = tt; hi_finite = tt })
