-- The tests on what was lent, in the words of the code.
use mathlib.Core.Path.{◌≡◌, refl, sym, ap, ◌∙◌}
use mathlib.Core.Bool.{Bool, true, false, ◌&&◌}
use mathlib.Core.List.{List, [], ◌∷◌}
use Prim.Native.Nat.{ℕ, ◌+◌, ◌-◌, ◌*◌, ◌/◌, ◌≤◌, ◌<◌}
use native.Mathlib.Omega.{arith}
use lib.ListN.{length, drop, get_or}
use lib.Dec.{leb}
use borrow.Author.Tests.{leb-true, le-leb, lt-leb}
use Rattle.refusal.specs.Tests.{and_true}
use Rattle.room.specs.Rooms.{counts_at, Within}
use Rattle.room.specs.Laws.{next_count, counts_done}
use Rattle.cut_leaves.specs.Lending.{within_fits, cell_fits}

-- ---- places

pub floats_low : (limit d at : ℕ) → d < at → false ≡ leb (at + 1664 + 3 * limit) d
floats_low limit d at h = sym (lt-leb (at + 1664 + 3 * limit) d (omega arith))

pub floats_short : (limit d at : ℕ) → at ≤ d → d - at < 1664 → false ≡ leb (at + 1664 + 3 * limit) d
floats_short limit d at h g = sym (lt-leb (at + 1664 + 3 * limit) d (omega arith))

pub floats_few : (limit d at : ℕ) → at ≤ d → 1664 ≤ d - at → (d - at - 1664) / 3 < limit → false ≡ leb (at + 1664 + 3 * limit) d
floats_few limit d at h g f = sym (lt-leb (at + 1664 + 3 * limit) d (omega arith))

pub floats_fit : (limit d at : ℕ) → at ≤ d → 1664 ≤ d - at → limit ≤ (d - at - 1664) / 3 → true ≡ leb (at + 1664 + 3 * limit) d
floats_fit limit d at h g f = sym (le-leb (at + 1664 + 3 * limit) d (omega arith))

pub counts_low : (n k : ℕ) → n < k → false ≡ leb (k + 128) n
counts_low n k h = sym (lt-leb (k + 128) n (omega arith))

pub counts_short : (n k : ℕ) → k ≤ n → n - k < 128 → false ≡ leb (k + 128) n
counts_short n k h g = sym (lt-leb (k + 128) n (omega arith))

pub counts_fit : (n k : ℕ) → k ≤ n → 128 ≤ n - k → true ≡ leb (k + 128) n
counts_fit n k h g = sym (le-leb (k + 128) n (omega arith))

-- ---- a cell face by face

pub record Scanning (m from : ℕ) (ns : List ℕ) (j faces o i : ℕ) : Type 0 where
  pub upto : i ≤ faces
  pub low : o ≤ m
  pub rest : within_fits (drop i (counts_at ns j faces)) o m ≡ within_fits (counts_at ns j faces) from m

pub scan_start : (m from : ℕ) (ns : List ℕ) (j faces : ℕ) → from ≤ m → Scanning m from ns j faces from 0
scan_start m from ns j faces h = record { upto = omega arith; low = h; rest = refl }

module _ (m from : ℕ) (ns : List ℕ) (j faces o i : ℕ) (listed : j + faces ≤ length ns) (more : i < faces) (s : Scanning m from ns j faces o i) where
  abbrev size : ℕ
  size = get_or ns (j + i) 0

  abbrev after : List ℕ
  after = drop (i + 1) (counts_at ns j faces)

  -- the next face's test, and the rest
  turn : (b c : Bool) → leb size 128 ≡ b → leb (o + (13 + 3 * size)) m ≡ c → ((b && c) && within_fits after (o + (13 + 3 * size)) m) ≡ within_fits (counts_at ns j faces) from m
  unfolding within_fits
  turn b c e f =
      sym (ap (λ x. (x && leb (o + (13 + 3 * size)) m) && within_fits after (o + (13 + 3 * size)) m) e ∙ ap (λ x. (b && x) && within_fits after (o + (13 + 3 * size)) m) f)
      ∙ ap (λ l. within_fits l o m) (sym (next_count ns j faces i more listed)) ∙ s.rest

  pub scan_big : 128 < size → false ≡ within_fits (counts_at ns j faces) from m
  scan_big h = turn false (leb (o + (13 + 3 * size)) m) (lt-leb _ _ h) refl

  pub scan_over : size ≤ 128 → m - o < 13 + 3 * size → false ≡ within_fits (counts_at ns j faces) from m
  scan_over h g = turn true false (le-leb size 128 h) (lt-leb (o + (13 + 3 * size)) m (omega (arith, s.low)))

  pub scan_step : size ≤ 128 → 13 + 3 * size ≤ m - o → Scanning m from ns j faces (o + (13 + 3 * size)) (i + 1)
  scan_step h g =
      let fit : o + (13 + 3 * size) ≤ m = omega (arith, s.low) in
      record { upto = omega arith; low = fit; rest = turn true true (le-leb _ _ h) (le-leb _ _ fit) }

pub scan_end : (m from : ℕ) (ns : List ℕ) (j faces o i : ℕ) → faces ≤ i → Scanning m from ns j faces o i → true ≡ within_fits (counts_at ns j faces) from m
unfolding within_fits
scan_end m from ns j faces o i h s = ap (λ l. within_fits l o m) (sym (counts_done ns j faces i h)) ∙ s.rest

-- ---- a whole cell

module _ (m from : ℕ) (ns : List ℕ) (j faces : ℕ) where
  pub cell_unlisted : length ns < j → false ≡ cell_fits m from ns j faces
  unfolding cell_fits
  cell_unlisted h = sym (ap (λ b. b && (leb from m && within_fits (counts_at ns j faces) from m)) (lt-leb (j + faces) (length ns) (omega arith)))

  pub cell_cut : j ≤ length ns → length ns - j < faces → false ≡ cell_fits m from ns j faces
  unfolding cell_fits
  cell_cut h g = sym (ap (λ b. b && (leb from m && within_fits (counts_at ns j faces) from m)) (lt-leb (j + faces) (length ns) (omega arith)))

  pub cell_behind : j ≤ length ns → faces ≤ length ns - j → m < from → false ≡ cell_fits m from ns j faces
  unfolding cell_fits
  cell_behind h g f =
      sym (ap (λ b. b && (leb from m && within_fits (counts_at ns j faces) from m)) (le-leb (j + faces) (length ns) (omega arith)) ∙ ap (λ b. b && within_fits (counts_at ns j faces) from m) (lt-leb _ _ f))

  pub cell_within : (r : Bool) → j ≤ length ns → faces ≤ length ns - j → from ≤ m → r ≡ within_fits (counts_at ns j faces) from m → r ≡ cell_fits m from ns j faces
  unfolding cell_fits
  cell_within r h g f e =
      e ∙ sym (ap (λ b. b && (leb from m && within_fits (counts_at ns j faces) from m)) (le-leb (j + faces) (length ns) (omega arith)) ∙ ap (λ b. b && within_fits (counts_at ns j faces) from m) (le-leb _ _ f))

within_is : (ns : List ℕ) (at m : ℕ) → at ≤ m → within_fits ns at m ≡ true → Within ns at m
unfolding within_fits Within
within_is [] at m h e = h
within_is (n ∷ ns) at m h e =
    let rest = within_fits ns (at + (13 + 3 * n)) m in
    let both = (and_true (leb n 128 && leb (at + (13 + 3 * n)) m) rest e).0 in
    let d : at + (13 + 3 * n) ≡ at + 13 + 3 * n = omega arith in
    let go : Within ns (at + (13 + 3 * n)) m = within_is ns (at + (13 + 3 * n)) m (leb-true (at + (13 + 3 * n)) m (and_true (leb n 128) (leb (at + (13 + 3 * n)) m) both).1) (and_true (leb n 128 && leb (at + (13 + 3 * n)) m) rest e).1 in
    (leb-true n 128 (and_true (leb n 128) (leb (at + (13 + 3 * n)) m) both).0, rw d at go)

pub record CellLent (m from : ℕ) (ns : List ℕ) (j faces : ℕ) : Type 0 where
  pub listed : j + faces ≤ length ns
  pub within : Within (counts_at ns j faces) from m

pub cell_lent : (m from : ℕ) (ns : List ℕ) (j faces : ℕ) → cell_fits m from ns j faces ≡ true → CellLent m from ns j faces
unfolding cell_fits
cell_lent m from ns j faces e =
    let rest = within_fits (counts_at ns j faces) from m in
    let back = (and_true (leb (j + faces) (length ns)) (leb from m && rest) e).1 in
    record {
      listed = leb-true (j + faces) (length ns) (and_true (leb (j + faces) (length ns)) (leb from m && rest) e).0;
      within = within_is (counts_at ns j faces) from m (leb-true from m (and_true (leb from m) rest back).0) (and_true (leb from m) rest back).1;
    }
