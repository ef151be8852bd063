-- Laws of places and of the scan, in the words of the code.
use Rattle.refusal.specs.Outcome.{Outcome}
use Rattle.std.specs.Prelude.{◌≡◌, refl, Bool, true, false, cond, List, [], ◌∷◌, ◌++◌, length, take, drop, get_or, set, ltb, Ok, Err}
use Rattle.std.proofs.Common.{sym, ◌∙◌, add-one, mod-lt, not-suc-le-zero, le_of_suc-le-suc, length-take-le, take_at, take-suc, take_all, lt-ltb, le-ltb}
use Rattle.std.proofs.Math.Path.{ap}
use Prim.Native.Nat.{ℕ, zero, suc, ◌+◌, ◌-◌, ◌%◌, ◌≤◌, ◌<◌}
use native.Mathlib.Omega.{arith}
use Rattle.std.proofs.Math.Decide.{dec_lt}
use Rattle.std.proofs.Math.Seq.{get_or-take}
use Rattle.lists.specs.Laws.{next, done, pad_set}
use Rattle.refusal.specs.declared.Refusal.{Refusal}
use Rattle.space.specs.declared.Precision.{Precision}
use Rattle.turns.specs.declared.Projected.{Projected}
use Rattle.turns.specs.declared.Turn.{Turn}
use Rattle.turns.specs.declared.Turn.TheVariants as T
use Rattle.turns.specs.Turns.{orientation_of}
use Rattle.outline.specs.Project.{astray}
use Rattle.ears.specs.declared.Active.{Active}
use Rattle.ears.specs.declared.Triangle.{Triangle}
use Rattle.ears.specs.declared.Block.{Block}
use Rattle.ears.specs.declared.Block.TheVariants as B
use Rattle.ears.specs.declared.Found.{Found}
use Rattle.ears.specs.declared.Found.TheVariants as F
use Rattle.ears.specs.Places.{padded, active, places_of, up_from, without, past_of, window_at}
use Rattle.ears.specs.Ears.{turn_at, inside_of, corner_of, block_in, block_at, or_else, blocked_by, ear_by, found_by, found_at, scan_from, scan_of}

-- ---- lists of places in an array

pub places_active : (l : List ℕ) → places_of (active l) ≡ l
places_active l = take_at l _ _ refl

-- one more place before the padding
pub stored : (a l : List ℕ) (i q : ℕ) → a ≡ padded l → length l ≡ i → i < 128 → set a i q ≡ padded (l ++ (q ∷ []))
stored a l i q e k h =
    let b : length l < 128 = omega arith in
    ap (λ x. set x i q) e ∙ ap (λ j. set (padded l) j q) (sym k) ∙ pad_set l 128 0 q b

pub active_is : (a l : List ℕ) (n : ℕ) → a ≡ padded l → n ≡ length l → ◌≡◌ {A = Active} (record { at = a; n = n }) (active l)
active_is a l n e k = cc

-- ---- all places

pub length_up : (i k : ℕ) → length (up_from i k) ≡ k
unfolding up_from
length_up i zero = refl
length_up i (suc k) = ap suc (length_up (suc i) k)

pub up_more : (i k : ℕ) → up_from i (k + 1) ≡ up_from i k ++ ((i + k) ∷ [])
unfolding up_from
up_more i zero = let e : i ≡ i + 0 = omega arith in ap (λ j. j ∷ []) e
up_more i (suc k) =
    let e : suc i + k ≡ i + suc k = omega arith in
    let n : suc k + 1 ≡ suc (k + 1) = omega arith in
    ap (up_from i) n ∙ ap (λ l. i ∷ l) (up_more (suc i) k ∙ ap (λ j. up_from (suc i) k ++ (j ∷ [])) e)

pub get_d_up : (i k j : ℕ) → j < k → get_or (up_from i k) j 0 ≡ i + j
unfolding up_from
get_d_up i zero j h = absurd (not-suc-le-zero h)
get_d_up i (suc k) zero h = omega arith
get_d_up i (suc k) (suc j) h = get_d_up (suc i) k j (le_of_suc-le-suc h) ∙ omega arith

-- ---- a place taken out

pub length_without : (i : ℕ) (l : List ℕ) → i < length l → length (without i l) ≡ length l - 1
unfolding without
length_without i [] h = absurd (not-suc-le-zero h)
length_without zero (x ∷ l) h = omega arith
length_without (suc i) (x ∷ l) h = let e = length_without i l (le_of_suc-le-suc h) in let k : i < length l = le_of_suc-le-suc h in omega arith

pub without_before : (i j d : ℕ) (l : List ℕ) → j < i → get_or (without i l) j d ≡ get_or l j d
unfolding without
without_before zero j d l h = absurd (not-suc-le-zero h)
without_before (suc i) j d [] h = refl
without_before (suc i) zero d (x ∷ l) h = refl
without_before (suc i) (suc j) d (x ∷ l) h = without_before i j d l (le_of_suc-le-suc h)

pub without_after : (i j d : ℕ) (l : List ℕ) → i ≤ j → get_or (without i l) j d ≡ get_or l (suc j) d
unfolding without
without_after zero j d [] h = refl
without_after zero j d (x ∷ l) h = refl
without_after (suc i) j d [] h = refl
without_after (suc i) zero d (x ∷ l) h = absurd (not-suc-le-zero h)
without_after (suc i) (suc j) d (x ∷ l) h = without_after i j d l (le_of_suc-le-suc h)

pub past_yes : (i j : ℕ) → j < i → j ≡ past_of i j
past_yes i j h = rw (lt-ltb j i h) refl

pub past_no : (i j : ℕ) → i ≤ j → j + 1 ≡ past_of i j
past_no i j h = rw (le-ltb j i h) refl

past_by : (b : Bool) (j : ℕ) → cond b j (j + 1) ≤ j + 1
past_by true j = omega arith
past_by false j = omega arith

pub past_low : (i j : ℕ) → past_of i j ≤ j + 1
past_low i j = past_by (ltb j i) j

-- what stands at place j of a list without its place i
pub without_at : (i j k : ℕ) (l : List ℕ) → k ≡ past_of i j → get_or (without i l) j 0 ≡ get_or l k 0
without_at i j k l e = elim (dec_lt j i) [
  | yes h ↦ without_before i j 0 l h ∙ ap (λ q. get_or l q 0) (past_yes i j h ∙ sym e)
  | no h ↦
      let g : i ≤ j = omega arith in
      without_after i j 0 l g ∙ ap (λ q. get_or l q 0) (sym (add-one j) ∙ past_no i j g ∙ sym e)
]

-- ---- the loops that fill an array of places

pub up_stored : (a : List ℕ) (i : ℕ) → a ≡ padded (up_from 0 i) → i < 128 → set a i i ≡ padded (up_from 0 (i + 1))
up_stored a i e h =
    let z : 0 + i ≡ i = omega arith in
    stored a (up_from 0 i) i i e (length_up 0 i) h ∙ ap padded (ap (λ j. up_from 0 i ++ (j ∷ [])) (sym z) ∙ sym (up_more 0 i))

pub up_is : (a : List ℕ) (i n : ℕ) → a ≡ padded (up_from 0 i) → i ≡ n → ◌≡◌ {A = Active} (record { at = a; n = n }) (active (up_from 0 n))
up_is a i n e k = active_is a (up_from 0 n) n (e ∙ ap (λ j. padded (up_from 0 j)) k) (sym (length_up 0 n))

module _ (l : List ℕ) (n i : ℕ) (h : i < n) (few : n ≤ 128) (full : n ≤ length l) where
  -- the first n of the array without place i
  abbrev pub kept : List ℕ
  kept = without i (take n l)

  pub length_kept : length kept ≡ n - 1
  length_kept = let k : i < length (take n l) = omega (arith, length-take-le n l full) in length_without i (take n l) k ∙ ap (λ m. m - 1) (length-take-le n l full)

  pub kept_stored : (a : List ℕ) (j k : ℕ) → a ≡ padded (take j kept) → j < n - 1 → k ≡ past_of i j → set a j (get_or l k 0) ≡ padded (take (j + 1) kept)
  kept_stored a j k e g p =
      let m : j < length kept = omega (arith, length_kept) in
      let m' : j ≤ length kept = omega arith in
      let low : k < n = omega (arith, past_low i j) in
      let few' : j < 128 = omega arith in
      let q : get_or l k 0 ≡ get_or kept j 0 = sym (get_or-take n l k 0 low) ∙ sym (without_at i j k (take n l) p) in
      ap (set a j) q ∙ stored a (take j kept) j (get_or kept j 0) e (length-take-le j kept m') few'
      ∙ ap padded (sym (take-suc kept j 0 m) ∙ ap (λ x. take x kept) (sym (add-one j)))

  pub kept_is : (a : List ℕ) (j : ℕ) → a ≡ padded (take j kept) → n - 1 ≤ j → ◌≡◌ {A = Active} (record { at = a; n = n - 1 }) (active kept)
  kept_is a j e g =
      let m : length kept ≤ j = omega (arith, length_kept) in
      active_is a kept (n - 1) (e ∙ ap padded (take_all j kept m)) (sym length_kept)

-- ---- a corner between its neighbours

pub window_is : (l : List ℕ) (n i j k : ℕ) → i < n → n ≤ length l → j ≡ (i + n - 1) % n → k ≡ (i + 1) % n
    → ◌≡◌ {A = Triangle} (record { a = get_or l j 0; b = get_or l i 0; c = get_or l k 0 }) (window_at (take n l) i)
unfolding window_at
window_is l n i j k h full e f =
    let pos : 0 < n = omega arith in
    let a₀ = get_or-take n l ((i + n - 1) % n) 0 (mod-lt (i + n - 1) pos) in
    let a₁ = get_or-take n l i 0 h in
    let a₂ = get_or-take n l ((i + 1) % n) 0 (mod-lt (i + 1) pos) in
    let m = length-take-le n l full in
    cc

-- the three places are below n
pub record Within (n : ℕ) (w : Triangle) : Type 0 where
  pub a_low : w.a < n
  pub b_low : w.b < n
  pub c_low : w.c < n

pub window_low : (l : List ℕ) (n i : ℕ) (w : Triangle) → w ≡ window_at l i → ((j : ℕ) → get_or l j 0 < n) → Within n w
unfolding window_at
window_low l n i w e low =
    record { a_low = rw e (low _); b_low = rw e (low _); c_low = rw e (low _) }

-- ---- turns and blocks by the array of an outline

module _ (p : Precision) (l : List Projected) (n : ℕ) (w : Triangle) (W : Within n w) where
  pub turn_is : (t : Outcome Turn) → t ≡ orientation_of p (get_or l w.a astray) (get_or l w.b astray) (get_or l w.c astray) → t ≡ turn_at p (take n l) w
  unfolding turn_at
  turn_is t e =
      let a₀ = get_or-take n l w.a astray W.a_low in
      let a₁ = get_or-take n l w.b astray W.b_low in
      let a₂ = get_or-take n l w.c astray W.c_low in
      cc

  pub block_is : (q : ℕ) (b : Bool) (r : Outcome Block) → q < n → b ≡ corner_of w q
      → r ≡ block_in b p (get_or l w.a astray) (get_or l w.b astray) (get_or l w.c astray) (get_or l q astray) → r ≡ block_at p (take n l) w q
  unfolding block_at
  block_is q b r h e f =
      let a₀ = get_or-take n l w.a astray W.a_low in
      let a₁ = get_or-take n l w.b astray W.b_low in
      let a₂ = get_or-take n l w.c astray W.c_low in
      let a₃ = get_or-take n l q astray h in
      cc

module _ (p : Precision) (a b c q : Projected) where
  pub block_own : (o : Bool) → o ≡ true → (Ok B.Clear) ≡ block_in o p a b c q
  unfolding block_in
  block_own o e = ap (λ x. block_in x p a b c q) (sym e)

  pub block_other : (o : Bool) (r : Outcome Block) → o ≡ false → r ≡ inside_of p a b c q → r ≡ block_in o p a b c q
  unfolding block_in
  block_other o r e f = f ∙ ap (λ x. block_in x p a b c q) (sym e)

-- ---- one turn of the blocking test

module _ (p : Precision) (ps : List Projected) (w : Triangle) (l : List ℕ) (n j : ℕ) where
  abbrev pub others : Outcome Block
  others = blocked_by p ps w (drop j (take n l))

  others_are : (r : Outcome Block) → j < n → n ≤ length l → r ≡ block_at p ps w (get_or l j 0) → others ≡ or_else r (blocked_by p ps w (drop (j + 1) (take n l)))
  unfolding blocked_by
  others_are r h k e = ap (blocked_by p ps w) (next l n j 0 h k) ∙ ap (λ x. or_else x (blocked_by p ps w (drop (j + 1) (take n l)))) (sym e)

  pub block_go : (r : Outcome Block) → j < n → n ≤ length l → r ≡ block_at p ps w (get_or l j 0) → r ≡ Ok B.Clear → others ≡ blocked_by p ps w (drop (j + 1) (take n l))
  unfolding or_else
  block_go r h k e f = others_are r h k e ∙ ap (λ x. or_else x (blocked_by p ps w (drop (j + 1) (take n l)))) f

  pub block_stop : (r : Outcome Block) → j < n → n ≤ length l → r ≡ block_at p ps w (get_or l j 0) → r ≡ Ok B.Blocked → others ≡ Ok B.Blocked
  unfolding or_else
  block_stop r h k e f = others_are r h k e ∙ ap (λ x. or_else x (blocked_by p ps w (drop (j + 1) (take n l)))) f

  pub block_refused : (r : Outcome Block) (x : Refusal) → j < n → n ≤ length l → r ≡ block_at p ps w (get_or l j 0) → r ≡ Err x → others ≡ Err x
  unfolding or_else
  block_refused r x h k e f = others_are r h k e ∙ ap (λ y. or_else y (blocked_by p ps w (drop (j + 1) (take n l)))) f

  pub block_end : n ≤ j → others ≡ Ok B.Clear
  unfolding blocked_by
  block_end h = ap (blocked_by p ps w) (done l n j h)

-- ---- one turn of the scan

module _ (p : Precision) (ps : List Projected) (l : List ℕ) (n i : ℕ) (w : Triangle) (h : i < n) (e : w ≡ window_at l i) where
  abbrev pub here : Outcome Found
  here = scan_from p ps l i (n - i)

  abbrev pub there : Outcome Found
  there = scan_from p ps l (i + 1) (n - (i + 1))

  here_is : here ≡ found_by (turn_at p ps w) (blocked_by p ps w l) i w there
  unfolding scan_from found_at
  here_is =
      let k : n - i ≡ suc (n - (i + 1)) = omega arith in
      ap (scan_from p ps l i) k
      ∙ ap (λ j. found_at p ps l i (window_at l i) (scan_from p ps l j (n - (i + 1)))) (sym (add-one i))
      ∙ ap (λ v. found_at p ps l i v there) (sym e)

  pub scan_straight : (Ok T.Zero) ≡ turn_at p ps w → here ≡ Ok (F.Straight i)
  unfolding found_by
  scan_straight t = here_is ∙ ap (λ x. found_by x (blocked_by p ps w l) i w there) (sym t)

  pub scan_refused : (r : Refusal) → Err r ≡ turn_at p ps w → here ≡ Err r
  unfolding found_by
  scan_refused r t = here_is ∙ ap (λ x. found_by x (blocked_by p ps w l) i w there) (sym t)

  pub scan_past : (Ok T.Negative) ≡ turn_at p ps w → here ≡ there
  unfolding found_by
  scan_past t = here_is ∙ ap (λ x. found_by x (blocked_by p ps w l) i w there) (sym t)

  ear_is : (Ok T.Positive) ≡ turn_at p ps w → here ≡ ear_by (blocked_by p ps w l) i w there
  unfolding found_by
  ear_is t = here_is ∙ ap (λ x. found_by x (blocked_by p ps w l) i w there) (sym t)

  pub scan_ear : (Ok T.Positive) ≡ turn_at p ps w → blocked_by p ps w l ≡ Ok B.Clear → here ≡ Ok (F.Ear i w)
  unfolding ear_by
  scan_ear t b = ear_is t ∙ ap (λ x. ear_by x i w there) b

  pub scan_blocked : (Ok T.Positive) ≡ turn_at p ps w → blocked_by p ps w l ≡ Ok B.Blocked → here ≡ there
  unfolding ear_by
  scan_blocked t b = ear_is t ∙ ap (λ x. ear_by x i w there) b

  pub scan_unresolved : (r : Refusal) → (Ok T.Positive) ≡ turn_at p ps w → blocked_by p ps w l ≡ Err r → here ≡ Err r
  unfolding ear_by
  scan_unresolved r t b = ear_is t ∙ ap (λ x. ear_by x i w there) b

pub scan_start : (p : Precision) (ps : List Projected) (l : List ℕ) (n : ℕ) → n ≤ length l → scan_from p ps (take n l) 0 (n - 0) ≡ scan_of p ps (take n l)
unfolding scan_of
scan_start p ps l n h = let e : n - 0 ≡ length (take n l) = omega (arith, length-take-le n l h) in ap (scan_from p ps (take n l) 0) e

pub scan_end : (p : Precision) (ps : List Projected) (l : List ℕ) (n i : ℕ) → n ≤ i → scan_from p ps l i (n - i) ≡ Ok F.Nothing
unfolding scan_from
scan_end p ps l n i h = let e : n - i ≡ 0 = omega arith in ap (scan_from p ps l i) e
