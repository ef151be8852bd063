-- Fusing a list of cells that is handed in from outside. Definitions only.
use Rattle.std.specs.Prelude.{◌≡◌, not, ◌&&◌, List, ℕ, ◌/◌, length, leb, Float, Ok, Err}
use Rattle.std.proofs.lemmas.List.Edits.{sets}
use Rattle.refusal.specs.declared.Refusal.{Refusal}
use Rattle.refusal.specs.Outcome.{Outcome, then, unless, number_of}
use Rattle.space.specs.declared.Precision.{Precision}
use Rattle.fused.specs.Bodies.{fuse_cells}
use Rattle.fused_bytes.specs.Bytes.{answer_of}
use Rattle.list_lent.specs.Lent.{list_in}

-- the bytes of the bodies of k cells; 64 for a room above 4,608 corners, an answer below 64 bytes a corner, fewer sizes than corners, or
-- no list of cells
unfoldable pub fuse_lent : Precision → ℕ → ℕ → List Float → List ℕ → List ℕ → ℕ → Outcome (List ℕ)
fuse_lent t room k d n z a = unless (not (leb room 4608 && (leb room (a / 64) && leb room (length z)))) 64 (answer_of (then (list_in room k d n z) (fuse_cells t room)))

-- the number, and the bytes at the front of the answer; a refusal leaves it as it was
pub record Told (o : Outcome (List ℕ)) (a₀ a : List ℕ) (r : ℕ) : Type 0 where
  pub number : r ≡ number_of o
  pub bytes : (l : List ℕ) → o ≡ Ok l → a ≡ sets a₀ 0 l
  pub same : (e : Refusal) → o ≡ Err e → a ≡ a₀
