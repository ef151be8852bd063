-- The loop of `put_digits`: what it keeps, and its turns.
use mathlib.Core.Path.{◌≡◌, refl, sym, ◌∙◌}
use mathlib.Core.List.{List}
use Prim.Native.Nat.{ℕ, ◌+◌, ◌-◌, ◌/◌, ◌%◌, ◌≤◌, ◌<◌}
use native.Mathlib.Omega.{arith}
use lib.ListN.{length, set, length-set}
use lib.Seq.{sets}
use Rattle.words.specs.Little.{digits}
use Rattle.words.specs.Laws.{digits_more, digits_all}

pub record Putting (out₀ : List ℕ) (at n x : ℕ) (out : List ℕ) (rest i : ℕ) : Type 0 where
  pub within : i ≤ n
  pub same : length out ≡ length out₀
  pub whole : sets out (at + i) (digits (n - i) rest) ≡ sets out₀ at (digits n x)

pub start : (out : List ℕ) (at n x : ℕ) → Putting out at n x out x 0
start out at n x =
    let e : at + 0 ≡ at = omega arith in
    let k : n - 0 ≡ n = omega arith in
    record { within = omega arith; same = refl; whole = rw (e, k) refl }

pub step : {out₀ out : List ℕ} {at n x rest i : ℕ} (v : ℕ) → Putting out₀ at n x out rest i → i < n → v ≡ rest % 256 → Putting out₀ at n x (set out (at + i) v) (rest / 256) (i + 1)
step {out₀} {out} {at} {n} {x} {rest} {i} v p h e =
    record {
      within = omega arith;
      same = length-set out (at + i) v ∙ p.same;
      whole = rw e (sym (digits_more out at n rest i h) ∙ p.whole);
    }

pub end : {out₀ out : List ℕ} {at n x rest i : ℕ} → Putting out₀ at n x out rest i → n ≤ i → out ≡ sets out₀ at (digits n x)
end {out₀} {out} {at} {n} {x} {rest} {i} p h = sym (digits_all out at n rest i h) ∙ p.whole
