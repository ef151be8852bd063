-- What fusing's answer says of space: of each body the outward shell has an exactly positive six-fold volume, every other a negative one.
use Rattle.std.specs.Prelude.{◌≡◌, ℕ, Ok}
use Rattle.std.proofs.Common.{subst}
use mathlib.Core.List.{List, [], ◌∷◌, map}
use Rattle.interval.specs.Exact.{Bounded}
use Rattle.space.specs.declared.Point3.{Point3}
use Rattle.polygon.specs.Members.{All}
use Rattle.sums.specs.Sum.{Each}
use Rattle.bodies.specs.Fusing.{Facet, inward}
use Rattle.bodies.specs.Demand.{IsBody}
use Rattle.volume.specs.Volume.{volume_sign}
use Rattle.tube.specs.Whole.{nought, Below}
use Rattle.tube.specs.Tube.{Held3}
use Rattle.tube_volume.specs.Sixfold.{sixfold}
use Rattle.tube_volume.specs.Volume.{volume_i}
use Rattle.tube_volume.proofs.Volume.{shell_signed}
use Rattle.tube_volume.specs.Bodies.{Enclosed}

module _ (at : ℕ → List Point3) (A : (i : ℕ) → All Held3 (at i)) where
  held : (g : List ℕ) → All (All Held3) (map at g)
  unfolding All
  held [] = tt
  held (i ∷ g) = (A i, held g)

  inner_signed : (l : List (List ℕ)) → Each (λ g. volume_sign (map at g) ≡ Ok inward) l → Each (λ g. Bounded (volume_i (map at g))) l
      → Each (λ g. Below (sixfold (map at g)) nought) l
  inner_signed [] e F = tt
  inner_signed (g ∷ l) e F = ((shell_signed (map at g) (held g) F.0).inn e.0, inner_signed l e.1 F.1)

  -- ---- the theorem, of each body that demand 3 is proved of (bodies/specs/Demand): where the ends of its shells' volumes are finite
  pub body_enclosed : (fs : List Facet) (material : List ℕ) (b : List (List ℕ)) → IsBody (λ g. volume_sign (map at g)) fs material b
      → Each (λ g. Bounded (volume_i (map at g))) b → Enclosed at b
  body_enclosed fs material b B F =
      let G = subst (Each (λ g. Bounded (volume_i (map at g)))) B.parts F in
      record {
        outer = B.outer;
        inner = B.inner;
        parts = B.parts;
        out = (shell_signed (map at B.outer) (held B.outer) G.0).out B.out;
        inn = inner_signed B.inner B.inn G.1;
      }
