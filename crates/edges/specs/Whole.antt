-- The steps of `check_edges`, one after another.
use Rattle.std.specs.Prelude.{◌≡◌, List, ◌++◌, ℕ, ◌*◌, ◌≤◌, ◌<◌, length, drop}
use Rattle.std.proofs.Common.{sym, ap, ◌∙◌, subst, arith, length-append, length-drop}
use Rattle.refusal.specs.Outcome.{Outcome}
use Rattle.sums.specs.Keys.{order}
use Rattle.keys.specs.Rows.{Starts, rows}
use Rattle.keys.specs.Sized.{Ordered, sorted_ordered, many_order}
use Rattle.edges.specs.declared.Paired.{Paired}
use Rattle.edges.specs.Laid.{laid_runs, length_laid, row_runs}
use Rattle.edges.specs.Rims.{Rims}
use Rattle.edges.specs.Pairing.{Edged}

-- There is room for the runs of a body, their keys and the order of these.
pub record Room (v starts fl d k s o e : List ℕ) : Type 0 where
  pub runs : 3 * length (row_runs v starts 0 fl) ≤ length d
  pub keys : 2 * length (row_runs v starts 0 fl) ≤ length k
  pub begins : length (row_runs v starts 0 fl) < length s
  pub order : length (row_runs v starts 0 fl) ≤ length o
  pub ends : length (row_runs v starts 0 fl) ≤ length e

module _ (v starts fl d₀ k₀ s₀ o₀ e₀ d : List ℕ) (c : ℕ) (room : Room v starts fl d₀ k₀ s₀ o₀ e₀) (made : laid_runs d c ≡ row_runs v starts 0 fl) where
  many : c ≡ length (row_runs v starts 0 fl)
  many = sym (length_laid d c) ∙ ap length made

  pub room_runs : length d ≡ length d₀ → 3 * c ≤ length d
  room_runs q = omega (arith, many, room.runs)

  pub room_keys : 2 * c ≤ length k₀
  room_keys = omega (arith, many, room.keys)

  pub room_begins : c < length s₀
  room_begins = omega (arith, many, room.begins)

  pub room_order : c ≤ length o₀
  room_order = omega (arith, many, room.order)

  pub room_ends : c ≤ length e₀
  room_ends = omega (arith, many, room.ends)

  pub edged : (e : List ℕ) (m : Outcome Paired) → Edged (laid_runs d c) e m → Edged (row_runs v starts 0 fl) e m
  edged e m w = subst (λ rs. Edged rs e m) made w

pub rims_fine : (d : List ℕ) (c : ℕ) (k s : List ℕ) → Rims d c k s → Starts k s c
rims_fine d c k s r = r.fine

pub rims_ordered : (k s : List ℕ) (c : ℕ) (o₀ o : List ℕ) → c ≤ length o₀ → o ≡ order (rows k s c) ++ drop c o₀ → Ordered k s c o
rims_ordered k s c o₀ o h e = sorted_ordered k s c o₀ o (omega (arith, ap length e, length-append (order (rows k s c)) (drop c o₀), length-drop c o₀, many_order k s c)) e
