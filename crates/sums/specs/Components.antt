-- `components` as fuse.rs has it: the last-in-first-out walk over flags of what is seen. Definitions only.
use Rattle.std.specs.Prelude.{List, [], ◌∷◌, ℕ, zero, suc, length, get_or, set, replicate}

-- What a walk holds: the flags of the nodes seen (0: not yet), and the nodes still to be taken, the last one first.
pub record St : Type 0 where
  pub seen : List ℕ
  pub work : List ℕ

-- `if seen.insert(j) { work.push(j) }`
unfoldable pub visit' : ℕ → ℕ → St → St
visit' zero j st = record { seen = set st.seen j 1; work = j ∷ st.work }
visit' (suc k) j st = st

unfoldable pub visit : ℕ → St → St
unfolding visit'
visit j st = visit' (get_or st.seen j 1) j st

-- `for &j in &adjacency[i] { .. }`
unfoldable pub visits : List ℕ → St → St
unfolding visit
visits [] st = st
visits (j ∷ js) st = visits js (visit j st)

-- What one root gives: its group in the order of the walk, and the flags after it.
pub record Got : Type 0 where
  pub group : List ℕ
  pub seen : List ℕ

abbrev pub grown : ℕ → Got → Got
grown i g = record { group = i ∷ g.group; seen = g.seen }

-- `while let Some(i) = work.pop() { group.push(i); .. }`, for at most so many turns.
unfoldable pub gather : (ℕ → List ℕ) → ℕ → St → Got
unfolding visits
gather adj zero st = record { group = []; seen = st.seen }
gather adj (suc n) st = elim st.work [ [] ↦ record { group = []; seen = st.seen } | i ∷ w ↦ grown i (gather adj n (visits (adj i) (record { seen = st.seen; work = w }))) ]

abbrev pub start : List ℕ → ℕ → St
start s r = record { seen = set s r 1; work = r ∷ [] }

-- `for root in 0..n { .. }`: k roots are left, from r on.
unfoldable pub comps : (ℕ → List ℕ) → ℕ → ℕ → ℕ → List ℕ → List (List ℕ)
unfolding gather
comps adj n zero r s = []
comps adj n (suc k) r s =
    elim (get_or s r 1) [
      | zero ↦ let g = gather adj n (start s r) in g.group ∷ comps adj n k (suc r) g.seen
      | suc _ ↦ comps adj n k (suc r) s
    ]

unfoldable pub components : ℕ → (ℕ → List ℕ) → List (List ℕ)
unfolding comps
components n adj = comps adj n n 0 (replicate n 0)
