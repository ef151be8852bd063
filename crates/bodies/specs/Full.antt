-- Each body of an answer has a shell and each shell a facet, and only facets are listed.
use Rattle.std.specs.Prelude.{List, ℕ, ◌<◌}
use Rattle.std.proofs.Math.ListN.{length}
use Rattle.sums.specs.Sum.{Each}

-- A body has a shell, and each of them a facet.
pub record Full (b : List (List ℕ)) : Type 0 where
  pub some : 0 < length b
  pub each : Each (λ g. 0 < length g) b
