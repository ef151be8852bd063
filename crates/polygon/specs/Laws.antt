-- Laws of polygons and of `unique` that their callers cite.
use Rattle.std.specs.Prelude.{◌≡◌, refl, List, [], ◌∷◌, ◌++◌, ◌+◌, ◌-◌, ◌<◌, ◌≤◌, length, replicate, Ok, Err}
use Rattle.std.proofs.Common.{sym, ap, arith, length-append, take_at}
use Rattle.std.proofs.lemmas.List.{length-replicate}
use Rattle.refusal.specs.declared.Refusal.{Refusal}
use Rattle.refusal.specs.Outcome.{Outcome, walk}
use Rattle.refusal.specs.Laws.{walk_go, walk_stop}
use Rattle.lists.specs.Laws.{pad_set}
use Rattle.space.specs.declared.Point3.{Point3}
use Rattle.space.specs.declared.Precision.{Precision}
use Rattle.space.specs.declared.Closeness.{Closeness}
use Rattle.space.specs.declared.Closeness.TheVariants.{Near, Apart}
use Rattle.space.specs.Near.{near_of}
use Rattle.space.specs.Vector.{origin}
use Rattle.polygon.specs.declared.Polygon.{Polygon}
use Rattle.polygon.specs.Polygons.{corners_of, padded, polygon, pushed}
use Rattle.polygon.specs.Unique.{both, scan, keep_if, keep_one}

pub corners_polygon : (l : List Point3) → corners_of (polygon l) ≡ l
corners_polygon l = take_at l _ _ refl

pub pushed_polygon : (l : List Point3) (q : Point3) → length l < 128 → pushed (polygon l) q ≡ polygon (l ++ (q ∷ []))
pushed_polygon l q h =
    let e = pad_set l 128 origin q h in
    let k : length l + 1 ≡ length (l ++ (q ∷ [])) = sym (length-append l (q ∷ [])) in
    cc (ap {B = Polygon} (λ a. record { at = a; n = length l + 1 }) e, ap {B = Polygon} (λ m. record { at = padded (l ++ (q ∷ [])); n = m }) k)

pub length_padded : (l : List Point3) → length l ≤ 128 → length (padded l) ≡ 128
length_padded l h = omega (arith, length-append l (replicate (128 - length l) origin), length-replicate (128 - length l) origin)

-- ---- one turn of `unique`, by what the scan of the kept points says

module _ (t : Precision) (kept : List Point3) (q : Point3) (l : List Point3) where
  pub keep_near : scan t q (Ok Apart) kept ≡ Ok Near → walk (keep_one t) kept (q ∷ l) ≡ walk (keep_one t) kept l
  unfolding keep_one keep_if
  keep_near e = walk_go (keep_one t) kept q l kept (ap (λ c. keep_if c kept q) e)

  pub keep_apart : scan t q (Ok Apart) kept ≡ Ok Apart → walk (keep_one t) kept (q ∷ l) ≡ walk (keep_one t) (kept ++ (q ∷ [])) l
  unfolding keep_one keep_if
  keep_apart e = walk_go (keep_one t) kept q l (kept ++ (q ∷ [])) (ap (λ c. keep_if c kept q) e)

  pub keep_refused : (r : Refusal) → scan t q (Ok Apart) kept ≡ Err r → walk (keep_one t) kept (q ∷ l) ≡ Err r
  unfolding keep_one keep_if
  keep_refused r e = walk_stop (keep_one t) kept q l r (ap (λ c. keep_if c kept q) e)

-- a point that is apart changes nothing
pub both_apart : (s : Outcome Closeness) → both s (Ok Apart) ≡ s
unfolding both
both_apart (Ok Near) = refl
both_apart (Ok Apart) = refl
both_apart (Err r) = refl

-- one turn of a scan, and its end
pub scan_next : (t : Precision) (q : Point3) (s : Outcome Closeness) (r : Point3) (l : List Point3) → scan t q s (r ∷ l) ≡ scan t q (both s (near_of t q r)) l
unfolding scan
scan_next t q s r l = refl

pub scan_done : (t : Precision) (q : Point3) (s : Outcome Closeness) → scan t q s [] ≡ s
unfolding scan
scan_done t q s = refl
