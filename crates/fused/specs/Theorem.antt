-- DEMAND 3 of a Boolean operation's bodies: whenever fusing answers, it holds of the facets of the arrangement that the cells make.
use Rattle.std.specs.Prelude.{◌≡◌, refl, List, [], ◌∷◌, map, ℕ, zero, suc, ◌<◌, length, get_or, Ok}
use Rattle.std.proofs.Common.{sym, ap, ◌∙◌, subst, arith, not-suc-le-zero, le_of_suc-le-suc}
use Rattle.std.proofs.lemmas.List.{length-map}
use Rattle.refusal.specs.Outcome.{Outcome, then}
use Rattle.refusal.specs.Laws.{same_ok, then_ok}
use Rattle.space.specs.declared.Precision.{Precision}
use Rattle.space.specs.Shapes.{Face, Cell}
use Rattle.polygon.specs.Members.{All}
use Rattle.sums.specs.Keys.{range}
use Rattle.sums.proofs.KeyLaws.{get_d_map_lt, length_range, get_d_range}
use Rattle.bodies.specs.Fusing.{Facet, no_facet, cell_of, Bodies, fuse}
use Rattle.bodies.specs.ListLaws.{Valid}
use Rattle.bodies.specs.Demand.{Demand}
use Rattle.bodies.proofs.Demand.{demand}
use Rattle.arrangement.specs.Arrangements.{Arrangement, arrange_cells}
use Rattle.arrangement.specs.Facts.{arrangement_owned}
use Rattle.fused.specs.Bodies.{facets_in, volume_in, fuse_in, drawn_in, fuse_cells}

-- each owner is one of k cells, so each facet's cell is
own : (k : ℕ) (l : List ℕ) (i : ℕ) → All (λ x. x < k) l → i < length l → get_or l i 0 < k
unfolding All
own k [] i a h = absurd (not-suc-le-zero h)
own k (x ∷ l) zero a h = a.0
own k (x ∷ l) (suc i) a h = own k l i a.1 (le_of_suc-le-suc h)

facets_valid : (a : Arrangement) (k : ℕ) → length a.owners ≡ length a.cycles → All (λ x. x < k) a.owners → Valid (facets_in a) k
unfolding facets_in
facets_valid a k owned owners i h =
    let r = range (length a.cycles) in
    let f : ℕ → Facet = λ j. record { cell = get_or a.owners j 0; vertices = get_or a.cycles j [] } in
    let n : length (map f r) ≡ length a.cycles = length-map r f ∙ length_range (length a.cycles) in
    let m : i < length a.cycles = omega (arith, n) in
    let e : cell_of (map f r) i ≡ get_or a.owners i 0 =
    ap (λ x. x.cell) (get_d_map_lt f r 0 no_facet i (omega (arith, length_range (length a.cycles)))) ∙ ap (λ j. get_or a.owners j 0) (get_d_range (length a.cycles) i m) in
    subst (λ x. x < k) (sym e) (own k a.owners i owners (omega (arith, owned)))

-- the arrangement and the bodies behind an answer
pub record Fusion (t : Precision) (room : ℕ) (cs : List Cell) (out : List (List (List Face))) : Type 0 where
  pub arrangement : Arrangement
  pub arranged : arrange_cells t room cs ≡ Ok arrangement
  pub bodies : Bodies
  pub fused : fuse_in arrangement (length cs) ≡ Ok bodies
  pub drawn : out ≡ drawn_in cs arrangement bodies
  pub demands : Demand (volume_in arrangement) (facets_in arrangement) (length cs) bodies

pub fusion : (t : Precision) (room : ℕ) (cs : List Cell) (out : List (List (List Face))) → fuse_cells t room cs ≡ Ok out → Fusion t room cs out
unfolding fuse_cells fuse_in
fusion t room cs out e =
    let y = then_ok (arrange_cells t room cs) _ out e in
    let a = y.0 in
    let o = arrangement_owned t room cs a y.1 in
    let z = then_ok (fuse (volume_in a) (facets_in a) (length cs)) _ out y.2 in
    record {
      arrangement = a;
      arranged = y.1;
      bodies = z.0;
      fused = z.1;
      drawn = sym (same_ok z.2);
      demands = demand (volume_in a) (facets_in a) (length cs) (facets_valid a (length cs) o.0 o.1) z.0 z.1;
    }
