-- `unique`: the points without those that are near one before them: 6. Definitions only.
use Rattle.std.specs.Prelude.{List, [], ◌∷◌, ◌++◌, Ok, Err}
use Rattle.refusal.specs.Outcome.{Outcome, walk}
use Rattle.space.specs.declared.Point3.{Point3}
use Rattle.space.specs.declared.Precision.{Precision}
use Rattle.space.specs.declared.Closeness.{Closeness}
use Rattle.space.specs.declared.Closeness.TheVariants.{Near, Apart}
use Rattle.space.specs.Near.{near_of}

-- two tests together: the first refusal stays, and near stays near
unfoldable pub both : Outcome Closeness → Outcome Closeness → Outcome Closeness
both (Err r) c = Err r
both (Ok Apart) c = c
both (Ok Near) (Ok Near) = Ok Near
both (Ok Near) (Ok Apart) = Ok Near
both (Ok Near) (Err r) = Err r

-- q against each point that was kept: none is left out, so one after a hit can still refuse
unfoldable pub scan : Precision → Point3 → Outcome Closeness → List Point3 → Outcome Closeness
scan t q s [] = s
scan t q s (r ∷ kept) = scan t q (both s (near_of t q r)) kept

unfoldable pub keep_if : Outcome Closeness → List Point3 → Point3 → Outcome (List Point3)
keep_if (Ok Near) kept q = Ok kept
keep_if (Ok Apart) kept q = Ok (kept ++ (q ∷ []))
keep_if (Err r) kept q = Err r

unfoldable pub keep_one : Precision → List Point3 → Point3 → Outcome (List Point3)
keep_one t kept q = keep_if (scan t q (Ok Apart) kept) kept q

-- only kept points are compared: near is not transitive
unfoldable pub unique : Precision → List Point3 → Outcome (List Point3)
unique t l = walk (keep_one t) [] l
