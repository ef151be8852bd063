-- What the tube says of document 01's domain, where nothing is asked of the ends.
use Rattle.std.specs.Prelude.{ℕ, ◌≤◌}
use Rattle.space.specs.declared.Point3.{Point3}
use Rattle.space.specs.declared.Plane.{Plane}
use Rattle.space.specs.declared.Precision.{Precision}
use Rattle.tube.specs.Tube.{Tube}
use Rattle.tube.proofs.Tube.{tube}
use Rattle.tube_domain.specs.Size.{Size3}
use Rattle.tube_domain.specs.Normal.{Fair, Framed}
use Rattle.tube_domain.specs.Domain.{domain_given}
use Rattle.tube_domain.proofs.Domain.{domain_bounded}

-- ---- THE TUBE IN THE DOMAIN: nothing is asked of the ends
module _ {t : Precision} (F : Fair t) {k : ℕ} (K : k ≤ 1000) {w : Plane} (f : Framed k w) {p : Point3} (s : Size3 k p) where
  pub domain_tube : Tube t w p
  domain_tube = tube t w p (domain_given F K f s) (domain_bounded F K f s)
