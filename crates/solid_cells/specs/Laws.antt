-- Laws of the call from outside, in the words of the code.
use Rattle.std.specs.Prelude.{◌≡◌, Bool, false, ◌&&◌, List, ℕ, ◌≤◌, ◌<◌}
use Rattle.std.proofs.Math.Path.{sym}
use Rattle.std.proofs.Common.{ap, subst, le-leb}
use Rattle.std.proofs.lemmas.Bool.{lt-leb}
use Rattle.ended.specs.declared.Ended.{Ended}
use Rattle.ended.specs.Ends.{ended_of, written}
use Rattle.cells_served.specs.Entry.{lengthy, lends, cells_entry}

-- ---- what is lent

module _ (room answer rest spare dst held slots counts sizes order chain head seen work nodes cuts : ℕ) where
  pub lends_not : 4294967296 < room → false ≡ lends room answer rest spare dst held slots counts sizes order chain head seen work nodes cuts
  unfolding lends
  lends_not h = sym (ap (λ b. b && lengthy room answer rest spare dst held slots counts sizes order chain head seen work nodes cuts) (lt-leb room 4294967296 h))

  pub lends_rest : room ≤ 4294967296 → lengthy room answer rest spare dst held slots counts sizes order chain head seen work nodes cuts ≡ lends room answer rest spare dst held slots counts sizes order chain head seen work nodes cuts
  unfolding lends
  lends_rest h = sym (ap (λ x. x && lengthy room answer rest spare dst held slots counts sizes order chain head seen work nodes cuts) (le-leb room 4294967296 h))

-- ---- what is handed back

pub entry_lent : (enough lent : Bool) (room : ℕ) (l : List ℕ) (r : Ended) (answer answer' : List ℕ) → enough ≡ lent →
    ((r ≡ ended_of (cells_entry enough room l)) × (r.bytes ≤ 137438953472)) × (answer' ≡ written (cells_entry enough room l) answer) →
    ((r ≡ ended_of (cells_entry lent room l)) × (r.bytes ≤ 137438953472)) × (answer' ≡ written (cells_entry lent room l) answer)
entry_lent enough lent room l r answer answer' q h = subst (λ b. ((r ≡ ended_of (cells_entry b room l)) × (r.bytes ≤ 137438953472)) × (answer' ≡ written (cells_entry b room l) answer)) q h
