-- The cells of each body: facets meet by their keys, and cells connect through the facets that they share.
use Rattle.std.specs.Prelude.{◌≡◌, List, ℕ, ◌*◌, ◌≤◌, ◌<◌, length, get_or, take, Ok, Err}
use Rattle.std.proofs.Common.{sym, ap₂, ◌∙◌, arith, length-take-le}
use Rattle.std.proofs.Math.Path.{ap, subst}
use Rattle.refusal.specs.declared.Refusal.{Refusal}
use Rattle.refusal.specs.Outcome.{Outcome, verdict_of}
use Rattle.refusal.specs.Laws.{same_ok, never_ok}
use Rattle.sums.specs.Keys.{pairs}
use Rattle.sums.specs.KeyLaws.{Sharing}
use Rattle.sums.proofs.KeyLaws.{each_map, each_imp, pairs_each}
use Rattle.sums.specs.Components.{components}
use Rattle.keys.specs.Rows.{Starts, rows}
use Rattle.keys.specs.Each.{Keyed}
use Rattle.groups.specs.Groups.{Grouped, Within, joins_of}
use Rattle.groups.specs.Ends.{ends_of, joins_ends, within_ends}
use Rattle.bodies.specs.Fusing.{Facet, cell_of, keys, check_facets, exterior, interfaces, materials}
use Rattle.bodies.specs.ListLaws.{Valid}
use Rattle.bodies.proofs.ListLaws.{size}
use Rattle.interfaces.specs.declared.Met.{Met}
use Rattle.interfaces.specs.Facets.{facets_of, many_facets, cell_at, keys_are}
use Rattle.interfaces.specs.Meeting.{Met_all}
use Rattle.parts.specs.declared.Parted.{Parted}

-- There is room for the keys of f facets and the connection of n cells.
pub record Places (v : List ℕ) (f n : ℕ) (k o x e d s c u : List ℕ) : Type 0 where
  pub keys : length v ≤ length k
  pub order : f ≤ length o
  pub listed : f ≤ length x
  pub pairs : f ≤ length e
  pub links : length e ≤ length k
  pub heads : n ≤ length d
  pub flags : n ≤ length s
  pub stack : n ≤ length o
  pub cells : n ≤ length c
  pub cuts : n < length u

-- Each facet's cell is one of n.
abbrev pub Celled : List ℕ → ℕ → ℕ → Type 0
Celled owners f n = (i : ℕ) → i < f → get_or owners i 0 < n

-- 18 and 19, or where the facets are fine, those of one cell alone and the cells of each body.
pub record Parting (fs : List Facet) (n : ℕ) (c₀ u₀ x c u : List ℕ) (r : Outcome Parted) : Type 0 where
  pub told : verdict_of r ≡ check_facets fs
  pub listed : (p : Parted) → r ≡ Ok p → take p.listed x ≡ exterior fs
  pub few : (p : Parted) → r ≡ Ok p → p.listed ≤ length x
  pub groups : (p : Parted) → r ≡ Ok p → Grouped (materials fs n) c₀ u₀ c u p.groups

module _ (v starts owners : List ℕ) (f n : ℕ) where
  pub valid_cells : Celled owners f n → Valid (facets_of v starts owners f) n
  valid_cells w i h = let z : i < f = omega (arith, many_facets v starts owners f) in subst (λ c. c < n) (sym (cell_at v starts owners f i z)) (w i z)

  pub keys_starts : (k : List ℕ) (m : ℕ) → Starts v starts f → length v ≤ m → length k ≡ m → Starts k starts f
  keys_starts k m w h e = record { first = w.first; up = w.up; inn = λ i l. omega (arith, w.inn i l); many = w.many }

  pub keys_rows : (k₀ k : List ℕ) → Keyed v starts f k₀ k → rows k starts f ≡ keys (facets_of v starts owners f)
  keys_rows k₀ k w = w.keys ∙ sym (keys_are v starts owners f)

  cells_within : Celled owners f n → Within (ends_of (interfaces (facets_of v starts owners f))) n
  cells_within w =
      let fs = facets_of v starts owners f in
      let valid : Valid fs n = valid_cells w in
      within_ends n (interfaces fs)
      (each_map (λ p. (p.0 < n) × (p.1 < n)) (λ p. (cell_of fs p.0, cell_of fs p.1)) (pairs (keys fs))
      (each_imp (Sharing (keys fs)) (λ p. (cell_of fs p.0 < n) × (cell_of fs p.1 < n)) (pairs (keys fs))
      (λ p q. (valid p.0 (omega (arith, q.first, size fs)), valid p.1 (omega (arith, q.second, size fs)))) (pairs_each (keys fs))))

  module _ (x e : List ℕ) (o : Outcome Met) (w : Met_all (facets_of v starts owners f) x e o) where
    pub part_refused : (r : Refusal) (p : Outcome Parted) (c₀ u₀ c u : List ℕ) → o ≡ Err r → p ≡ Err r → Parting (facets_of v starts owners f) n c₀ u₀ x c u p
    unfolding verdict_of
    part_refused r p c₀ u₀ c u q z = record {
      told = ap verdict_of z ∙ sym (ap verdict_of q) ∙ w.told;
      listed = λ n t. never_ok (sym z ∙ t);
      few = λ n t. never_ok (sym z ∙ t);
      groups = λ n t. never_ok (sym z ∙ t);
    }

    module _ (m : Met) (t : o ≡ Ok m) (s : List ℕ) (h : n ≤ length s) where
      pub part_within : Celled owners f n → Within (take (2 * m.pairs) e) (length (take n s))
      part_within q = subst (λ k. Within (take (2 * m.pairs) e) k) (sym (length-take-le n s h)) (subst (λ l. Within l n) (sym (w.paired m t)) (cells_within q))

      pub part_made : (c₀ u₀ c u : List ℕ) (g : ℕ) → Grouped (components (length (take n s)) (joins_of (take (2 * m.pairs) e))) c₀ u₀ c u g → Parting (facets_of v starts owners f) n c₀ u₀ x c u (Ok (record { listed = m.listed; groups = g }))
      unfolding verdict_of materials
      part_made c₀ u₀ c u g q = record {
        told = sym (ap verdict_of t) ∙ w.told;
        listed = λ p z. ap (λ p. take p.listed x) (sym (same_ok z)) ∙ w.listed m t;
        few = λ p z. omega (arith, ap (λ p. p.listed) (same_ok z), w.few m t);
        groups = λ p z. subst (λ p. Grouped (materials (facets_of v starts owners f) n) c₀ u₀ c u p.groups) (same_ok z) (subst (λ gs. Grouped gs c₀ u₀ c u g) (ap₂ components (length-take-le n s h) (ap joins_of (w.paired m t) ∙ joins_ends (interfaces (facets_of v starts owners f)))) q);
      }
