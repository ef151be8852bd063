-- What a cut means: where the corners that it gives lie, in exact arithmetic (tube/specs/Distance).
use Rattle.std.specs.Prelude.{◌≡◌, refl, true, false, ◌⊎◌, List, ℕ, ◌^◌, ◌≤◌, T, Ok, Err}
use Rattle.std.proofs.Common.{sym, subst, inl, inr, ⊎_elim, mul-le-mul_right, arith}
use Rattle.std.specs.Float.{binary64}
use Rattle.std.specs.Float.Ieee.{le, of_bits}
use Rattle.std.specs.Float.Ieee.Fits.{add-fits}
use Rattle.refusal.specs.Outcome.{Outcome, walk}
use Rattle.refusal.specs.Laws.{then_ok}
use Rattle.lists.specs.Walks.{cyclic}
use Rattle.float.specs.Float.{finite}
use Rattle.float.specs.Exact.{plus, minus}
use Rattle.float.proofs.Laws.{Held}
use Rattle.float.proofs.Places.{le_at, place_units, zero_number, le_numbers}
use Rattle.interval.specs.Ends.{zero}
use Rattle.interval.specs.Exact.{Bounded}
use Rattle.space.specs.declared.Point3.{Point3}
use Rattle.space.specs.declared.Plane.{Plane}
use Rattle.space.specs.declared.Precision.{Precision}
use Rattle.space.specs.Vector.{add_v}
use Rattle.space.specs.Shapes.{Cell, Part, nothing, part}
use Rattle.side.specs.declared.Side.{Side}
use Rattle.side.specs.declared.Side.TheVariants.{Positive, Negative, Zero}
use Rattle.side.specs.Sides.{distance_of, side_of}
use Rattle.polygon.specs.Members.{All}
use Rattle.room.specs.Laws.{all_snoc, all_map, all_both, all_in}
use Rattle.room.specs.Steps.{walk_back}
use Rattle.edge.specs.Meets.{Signs, unseen, noted, is_positive, is_negative, between}
use Rattle.ring.specs.Rings.{sign_one}
use Rattle.clip.specs.Cuts.{sign_face, signs_of, clip_by, clip}
use Rattle.clip.specs.Theorem.{Corners, Fair, Closed, cut_closed, is_certain, Classified, cut_nothing, part_of}
use Rattle.tube.specs.Whole.{Whole, units, opposite, finer, Below, NotAbove}
use Rattle.tube.specs.Distance.{distance, Outside, Inside, NotOutside, NotInside, On}
use Rattle.tube.specs.Tube.{Held3, Given}
use Rattle.tube.proofs.Tube.{outside, inside, on}

-- ---- A CUT of the cell c by the plane w that leaves the cell d: distance is the dot with the normal as it is stored
pub record Cut (t : Precision) (w : Plane) (c d : Cell) : Type 0 where
  -- no corner lies farther than local outside the plane
  pub below : Corners (NotOutside t.local w) d
  -- the cell is left whole, or its last face is the cap, in the plane, and each corner of it lies within local of the plane
  pub cap : (d ≡ c) ⊎ Closed (NotOutside t.local w) (On t.local w) t w d

-- what is given of the cell before the cut: local is finite and not negative, all are values of the format, as every f64 of a
-- program is, and the distance of each corner has finite ends, as that of a corner called Zero has (`zero_bounded`)
pub record Cuttable (t : Precision) (w : Plane) (c : Cell) : Type 0 where
  pub local_held : Held t.local
  pub local_finite : T (finite t.local)
  pub local_above : T (le zero t.local)
  pub from : Held3 w.frame.origin
  pub normal : Held3 w.frame.z
  pub corners : Corners Held3 c
  pub ends : Corners (λ q. Bounded (distance_of w q)) c

-- ---- a cut that answers has a side for every corner
noted_certain : (s s' : Signs) (d : Outcome Side) → noted s d ≡ Ok s' → is_certain d ≡ true
unfolding noted
noted_certain s s' (Ok Positive) e = refl
noted_certain s s' (Ok Negative) e = refl
noted_certain s s' (Ok Zero) e = refl
noted_certain s s' (Err r) e = let q : ◌≡◌ {A = ℕ} 0 1 = cc in absurd (omega arith)

signs_certain : (t : Precision) (w : Plane) (c : Cell) (s : Signs) → signs_of t w c ≡ Ok s → Classified t w c
unfolding signs_of sign_face sign_one
signs_certain t w c s e =
    (walk_back (λ x. Unit {0}) _ (sign_face t w) (λ a b f g j. points f.points a b g j) c unseen s e tt).1
  where
    points : (l : List Point3) (a b : Signs) → walk (sign_one t w) a l ≡ Ok b → Unit {0} → Unit {0} × All (λ q. is_certain (side_of t w q) ≡ true) l
    points = walk_back (λ x. Unit {0}) _ (sign_one t w) (λ x y q k i. (tt, noted_certain x y (side_of t w q) k))

clip_certain : (t : Precision) (room : ℕ) (w : Plane) (c : Cell) (p : Part) → clip t room w c ≡ Ok p → Classified t w c
unfolding clip
clip_certain t room w c p e =
    let g = then_ok (signs_of t w c) (λ s. clip_by t room w c s.negative s.positive) p e in
    signs_certain t w c g.0 g.1

-- ---- one corner
corners_both : (P Q R : Point3 → Type 0) (c : Cell) → ((q : Point3) → P q → Q q → R q) → Corners P c → Corners Q c → Corners R c
corners_both P Q R c h x y = all_both _ _ _ c (λ f i j. all_both P Q R f.points h i j) x y

module _ (t : Precision) (w : Plane) where
  -- what is known of a corner of the cell
  record Ready (q : Point3) : Type 0 where
    given : Given t w q
    bounded : Bounded (distance_of w q)
    certain : is_certain (side_of t w q) ≡ true

  module _ (A : minus t.local ≤ plus t.local) where
    inside_below : (q : Point3) → Inside t.local w q → NotOutside t.local w q
    inside_below q h = by (2 ^ 1074) (distance w q) h
      where
        by : (n : ℕ) (d : Whole) → Below d (opposite (finer n (units t.local))) → NotAbove d (finer n (units t.local))
        by n d h = omega (arith, mul-le-mul_right n A)

    outside_above : (q : Point3) → Outside t.local w q → NotInside t.local w q
    outside_above q h = by (2 ^ 1074) (distance w q) h
      where
        by : (n : ℕ) (d : Whole) → Below (finer n (units t.local)) d → NotAbove (opposite (finer n (units t.local))) d
        by n d h = omega (arith, mul-le-mul_right n A)

    not_outside : (q : Point3) → Ready q → is_positive (side_of t w q) ≡ false → NotOutside t.local w q
    not_outside q R p = by (side_of t w q) refl R.certain p
      where
        by : (s : Outcome Side) → side_of t w q ≡ s → is_certain s ≡ true → is_positive s ≡ false → NotOutside t.local w q
        by (Ok Positive) e k p = let z : ◌≡◌ {A = ℕ} 0 1 = cc in absurd (omega arith)
        by (Ok Negative) e k p = inside_below q (inside t w q R.given R.bounded e)
        by (Ok Zero) e k p = (on t w q R.given e).1
        by (Err r) e k p = let z : ◌≡◌ {A = ℕ} 0 1 = cc in absurd (omega arith)

    not_inside : (q : Point3) → Ready q → is_negative (side_of t w q) ≡ false → NotInside t.local w q
    not_inside q R p = by (side_of t w q) refl R.certain p
      where
        by : (s : Outcome Side) → side_of t w q ≡ s → is_certain s ≡ true → is_negative s ≡ false → NotInside t.local w q
        by (Ok Positive) e k p = outside_above q (outside t w q R.given R.bounded e)
        by (Ok Negative) e k p = let z : ◌≡◌ {A = ℕ} 0 1 = cc in absurd (omega arith)
        by (Ok Zero) e k p = (on t w q R.given e).0
        by (Err r) e k p = let z : ◌≡◌ {A = ℕ} 0 1 = cc in absurd (omega arith)

-- a cut point is made of rounded sums
between_held : (w : Plane) (a b : Point3) → Held3 (between w a b)
unfolding between add_v
between_held w a b = record {
  x_held = add-fits binary64 a.x _;
  y_held = add-fits binary64 a.y _;
  z_held = add-fits binary64 a.z _;
}

-- ---- the whole cut
module _ (t : Precision) (room : ℕ) (w : Plane) (c : Cell) (G : Cuttable t w c) where
  given : (q : Point3) → Held3 q → Given t w q
  given q h = record { local_held = G.local_held; local_finite = G.local_finite; point = h; from = G.from; normal = G.normal }

  above : minus t.local ≤ plus t.local
  unfolding of_bits
  above =
      let n = le_numbers zero t.local zero_number.held G.local_held G.local_above in
      let l = le_at n.0 n.1 G.local_above in
      omega (arith, place_units zero t.local zero_number.held G.local_held tt G.local_finite l)

  ready : Classified t w c → Corners (Ready t w) c
  ready k =
      corners_both Held3 (λ q. Bounded (distance_of w q) × (is_certain (side_of t w q) ≡ true)) (Ready t w) c
      (λ q h r. record { given = given q h; bounded = r.0; certain = r.1 })
      G.corners (corners_both (λ q. Bounded (distance_of w q)) (λ q. is_certain (side_of t w q) ≡ true) _ c (λ q h r. (h, r)) G.ends k)

  fair : Corners (Ready t w) c → All (Fair (NotOutside t.local w) (On t.local w) t w) c
  fair r =
      all_map _ _ c (λ f h. record {
        corner = all_map _ _ f.points (λ q x. record { kept = not_outside t w above q x; zero = on t w q x.given }) h;
        edge = all_in _ (cyclic f.points) (λ e i. record {
          face = λ k z. (on t w (between w e.from e.to) (given _ (between_held w e.from e.to)) z).1;
          cap = λ k z. on t w (between w e.from e.to) (given _ (between_held w e.from e.to)) z;
        });
      }) r

  -- ---- the theorem: of each cell that a cut leaves
  pub cut_means : (d : Cell) → clip t room w c ≡ Ok (part d) → Cut t w c d
  cut_means d e =
      let r = ready (clip_certain t room w c (part d) e) in
      ⊎_elim
      (λ h. record {
        below =
            subst (Corners (NotOutside t.local w)) (sym h.1)
            (corners_both (Ready t w) (λ q. is_positive (side_of t w q) ≡ false) (NotOutside t.local w) c (not_outside t w above) r h.0);
        cap = inl h.1;
      })
      (λ h.
      let k = cut_closed (NotOutside t.local w) (On t.local w) t w room c d (fair r) h in
      record {
        below =
            subst (Corners (NotOutside t.local w)) (sym k.is)
            (all_snoc _ k.before _ k.kept (all_map _ _ k.cap (λ q z. z.1) k.zero));
        cap = inr k;
      })
      (part_of t room w c d e)

  -- and of a cell that it drops: no corner lies farther than local inside the plane
  pub dropped_means : clip t room w c ≡ Ok nothing → Corners (NotInside t.local w) c
  dropped_means e =
      let k = clip_certain t room w c nothing e in
      corners_both (Ready t w) (λ q. is_negative (side_of t w q) ≡ false) (NotInside t.local w) c (not_inside t w above)
      (ready k) ((cut_nothing t room w c k).0 e)
