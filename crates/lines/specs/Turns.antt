-- The loops of the printing, in the words of the code.
use Rattle.std.specs.Prelude.{◌≡◌, Bool, true, false, cond, ◌&&◌, ℕ, zero, suc, ◌+◌, ◌-◌, ◌*◌, ◌/◌, ◌%◌, ◌≤◌, ◌<◌, take, get_or, set, T, ltb}
use Rattle.std.proofs.Math.Path.{refl, sym, ap}
use Rattle.std.proofs.Common.{◌∙◌, subst, arith, not-suc-le-zero, le_of_suc-le-suc, add-one, length-set, length-drop, drop_of_length-le, take_all, drop-cons, get_or-drop, lt-ltb, ltb-true}
use mathlib.Core.List.{List, [], ◌∷◌, ◌++◌}
use Rattle.std.proofs.Math.ListN.{length, drop, length-append}
use Rattle.std.proofs.lemmas.List.Edits.{sets}
use Rattle.std.proofs.Math.Seq.{drop-drop}
use Rattle.refusal.specs.Tests.{and_true}
use Rattle.lists.specs.Laws.{cond_yes, cond_no}
use Rattle.room.specs.Laws.{sets_append}
use Rattle.lines.specs.declared.Spot.{Spot}
use Rattle.lines.specs.declared.Turned.{Turned}
use Rattle.lines.specs.Text.{numeral, decimal, answer_line, way, body_line, shell_line, count, behind, skip, walk, lines_of}

-- ---- texts one behind another

pub record Copying (text out₀ : List ℕ) (at : ℕ) (out : List ℕ) (i : ℕ) : Type 0 where
  pub within : i ≤ length text
  pub same : length out ≡ length out₀
  pub whole : sets out (at + i) (drop i text) ≡ sets out₀ at text

pub copying_start : (text out : List ℕ) (at : ℕ) → Copying text out at out 0
copying_start text out at = let e : at + 0 ≡ at = omega arith in record { within = omega arith; same = refl; whole = rw e refl }

pub copying_turn : {text out₀ : List ℕ} {at : ℕ} {out : List ℕ} {i : ℕ} (b : ℕ) → Copying text out₀ at out i → i < length text → b ≡ get_or text i 0 → Copying text out₀ at (set out (at + i) b) (i + 1)
copying_turn {text} {out₀} {at} {out} {i} b v h e =
    let d : drop i text ≡ b ∷ drop (i + 1) text = rw (e, add-one) (drop-cons text i 0 h) in
    let k : suc (at + i) ≡ at + (i + 1) = omega arith in
    record {
      within = omega arith;
      same = length-set out (at + i) b ∙ v.same;
      whole = ap (λ j. sets (set out (at + i) b) j (drop (i + 1) text)) (sym k) ∙ ap (sets out (at + i)) (sym d) ∙ v.whole;
    }

pub copying_end : {text out₀ : List ℕ} {at : ℕ} {out : List ℕ} {i : ℕ} → Copying text out₀ at out i → length text ≤ i → out ≡ sets out₀ at text
copying_end {text} {out₀} {at} {out} {i} v h = sym (ap (sets out (at + i)) (drop_of_length-le text h)) ∙ v.whole

-- a text behind another
join : (o₀ o₁ o₂ : List ℕ) (at p r : ℕ) (x y : List ℕ) → p ≡ at + length x → o₁ ≡ sets o₀ at x → (r ≡ p + length y) × (o₂ ≡ sets o₁ p y) → (r ≡ at + length (x ++ y)) × (o₂ ≡ sets o₀ at (x ++ y))
join o₀ o₁ o₂ at p r x y n e g =
    (omega (arith, n, g.0, length-append x y), g.1 ∙ ap (λ o. sets o p y) e ∙ ap (λ k. sets (sets o₀ at x) k y) n ∙ sets_append o₀ at x y)

-- three, and five
pub joined_3 : (o₀ o₁ o₂ o₃ : List ℕ) (at p q r : ℕ) (x y z : List ℕ) → p ≡ at + length x → o₁ ≡ sets o₀ at x → q ≡ p + length y → o₂ ≡ sets o₁ p y → r ≡ q + length z → o₃ ≡ sets o₂ q z →
    (r ≡ at + length (x ++ (y ++ z))) × (o₃ ≡ sets o₀ at (x ++ (y ++ z)))
joined_3 o₀ o₁ o₂ o₃ at p q r x y z a b c d e f = join o₀ o₁ o₃ at p r x (y ++ z) a b (join o₁ o₂ o₃ p q r y z c d (e, f))

pub joined_5 : (o₀ o₁ o₂ o₃ o₄ o₅ : List ℕ) (at p q s t r : ℕ) (v w x y z : List ℕ) → p ≡ at + length v → o₁ ≡ sets o₀ at v → q ≡ p + length w → o₂ ≡ sets o₁ p w →
    s ≡ q + length x → o₃ ≡ sets o₂ q x → t ≡ s + length y → o₄ ≡ sets o₃ s y → r ≡ t + length z → o₅ ≡ sets o₄ t z →
    (r ≡ at + length (v ++ (w ++ (x ++ (y ++ z))))) × (o₅ ≡ sets o₀ at (v ++ (w ++ (x ++ (y ++ z)))))
joined_5 o₀ o₁ o₂ o₃ o₄ o₅ at p q s t r v w x y z a b c d e f g h i j =
    join o₀ o₁ o₅ at p r v (w ++ (x ++ (y ++ z))) a b (joined_4 o₁ o₂ o₃ o₄ o₅ p q s t r w x y z c d e f g h i j)
  where
    joined_4 : (o₀ o₁ o₂ o₃ o₄ : List ℕ) (at p q s r : ℕ) (w x y z : List ℕ) → p ≡ at + length w → o₁ ≡ sets o₀ at w → q ≡ p + length x → o₂ ≡ sets o₁ p x → s ≡ q + length y → o₃ ≡ sets o₂ q y → r ≡ s + length z → o₄ ≡ sets o₃ s z →
        (r ≡ at + length (w ++ (x ++ (y ++ z)))) × (o₄ ≡ sets o₀ at (w ++ (x ++ (y ++ z))))
    joined_4 o₀ o₁ o₂ o₃ o₄ at p q s r w x y z a b c d e f g h = join o₀ o₁ o₄ at p r w (x ++ (y ++ z)) a b (joined_3 o₁ o₂ o₃ o₄ p q s r x y z c d e f g h)

-- ---- the digits, from the last on

pub record Spelling (x : ℕ) (text : List ℕ) (rest i : ℕ) : Type 0 where
  pub within : i ≤ 19
  pub size : length text ≡ 20
  pub whole : numeral i rest (drop (i + 1) text) ≡ decimal x

pub spelling_start : (x : ℕ) (text : List ℕ) → length text ≡ 20 → Spelling x text x 19
unfolding decimal
spelling_start x text h = record { within = omega arith; size = h; whole = ap (numeral 19 x) (drop_of_length-le text {i = 20} (omega (arith, h))) }

drop_set : (l : List ℕ) (i d : ℕ) → i < length l → drop i (set l i d) ≡ d ∷ drop (i + 1) l
drop_set [] i d h = absurd (not-suc-le-zero h)
drop_set (a ∷ l) zero d h = refl
drop_set (a ∷ l) (suc i) d h = let k : suc (i + 1) ≡ suc i + 1 = omega arith in drop_set l i d (le_of_suc-le-suc h) ∙ ap (λ j. d ∷ drop j (a ∷ l)) k

more : (n x : ℕ) (l : List ℕ) → 9 < x → numeral (suc n) x l ≡ numeral n (x / 10) ((48 + x % 10) ∷ l)
unfolding numeral
more n x l h = sym (cond_yes _ (lt-ltb 9 x h))

last : (n x : ℕ) (l : List ℕ) → ltb 9 x && ltb 0 n ≡ false → numeral n x l ≡ (48 + x % 10) ∷ l
unfolding numeral
last zero x l h = refl
last (suc n) x l h = sym (cond_no _ (small (ltb 9 x) (ltb 0 (suc n)) (lt-ltb 0 (suc n) (omega arith)) h))
  where
    small : (a b : Bool) → b ≡ true → a && b ≡ false → a ≡ false
    small true b e g = absurd (subst T (sym e ∙ g) tt)
    small false b e g = refl

pub spelling_more : (rest i : ℕ) → ltb 9 rest && ltb 0 i ≡ true → 0 < i
spelling_more rest i h = ltb-true 0 i (and_true (ltb 9 rest) (ltb 0 i) h).1

pub spelling_turn : {x : ℕ} {text : List ℕ} {rest i : ℕ} (d : ℕ) → Spelling x text rest i → ltb 9 rest && ltb 0 i ≡ true → d ≡ 48 + rest % 10 → Spelling x (set text i d) (rest / 10) (i - 1)
spelling_turn {x} {text} {rest} {i} d v h e =
    let a = and_true (ltb 9 rest) (ltb 0 i) h in
    let m = ltb-true 0 i a.1 in
    let k : i ≡ suc (i - 1) = omega (arith, m) in
    let j : i - 1 + 1 ≡ i = omega (arith, m) in
    record {
      within = omega (arith, v.within);
      size = length-set text i d ∙ v.size;
      whole = ap (λ n. numeral (i - 1) (rest / 10) (drop n (set text i d))) j
          ∙ ap (numeral (i - 1) (rest / 10)) (drop_set text i d (omega (arith, v.within, v.size)) ∙ ap (λ b. b ∷ drop (i + 1) text) e)
          ∙ sym (more (i - 1) rest (drop (i + 1) text) (ltb-true 9 rest a.0))
          ∙ ap (λ n. numeral n rest (drop (i + 1) text)) (sym k)
          ∙ v.whole;
    }

pub spelling_end : {x : ℕ} {text : List ℕ} {rest i : ℕ} (d : ℕ) → Spelling x text rest i → ltb 9 rest && ltb 0 i ≡ false → d ≡ 48 + rest % 10 →
    (i ≤ 19) × (drop i (set text i d) ≡ decimal x) × (length (set text i d) ≡ 20)
spelling_end {x} {text} {rest} {i} d v h e =
    (v.within, drop_set text i d (omega (arith, v.within, v.size)) ∙ ap (λ b. b ∷ drop (i + 1) text) e ∙ sym (last i rest (drop (i + 1) text) h) ∙ v.whole, length-set text i d ∙ v.size)

pub part_all : (t : List ℕ) (i : ℕ) (l : List ℕ) → length t ≡ 20 → drop i t ≡ l → take (20 - i) (drop i t) ≡ l
part_all t i l n e = take_all (20 - i) (drop i t) (omega (arith, length-drop i t, n)) ∙ e

by_cases : (b : Bool) (m n : List ℕ) (k : ℕ) → length m ≤ k → length n ≤ k → length (cond b m n) ≤ k
by_cases true m n k h g = h
by_cases false m n k h g = g

numeral_short : (n x : ℕ) (l : List ℕ) → length (numeral n x l) ≤ length l + (n + 1)
unfolding numeral
numeral_short zero x l = omega arith
numeral_short (suc n) x l =
    let h = numeral_short n (x / 10) ((48 + x % 10) ∷ l) in
    by_cases (ltb 9 x) (numeral n (x / 10) ((48 + x % 10) ∷ l)) ((48 + x % 10) ∷ l) (length l + (suc n + 1)) (omega (arith, h)) (omega arith)

pub decimal_short : (x : ℕ) → length (decimal x) ≤ 20
unfolding decimal
decimal_short x = numeral_short 19 x []

-- ---- the sense

pub way_in : (s : ℕ) → s ≡ 0 → way 0 ≡ way s
way_in s e = ap way (sym e)

pub way_out : (s : ℕ) → 0 < s → way 1 ≡ way s
unfolding way
way_out s h = let e : suc (s - 1) ≡ s = omega (arith, h) in ap way e

-- ---- counts and facets

pub count_is : (l : List ℕ) (at a b c d : ℕ) → a ≡ get_or l at 0 → b ≡ get_or l (at + 1) 0 → c ≡ get_or l (at + 2) 0 → d ≡ get_or l (at + 3) 0 → a + 256 * (b + 256 * (c + 256 * d)) ≡ count (drop at l)
unfolding count
count_is l at a b c d e f g h =
    let k : at + 0 ≡ at = omega arith in
    rw (e, f, g, h, get_or-drop at l 0 0, get_or-drop at l 1 0, get_or-drop at l 2 0, get_or-drop at l 3 0, k) refl

module _ (l : List ℕ) (at : ℕ) where
  abbrev many : ℕ
  many = count (drop (at + 96) l)

  behind_is : behind (drop at l) ≡ drop (at + (100 + 24 * many)) l
  unfolding behind
  behind_is =
      let e : drop 96 (drop at l) ≡ drop (at + 96) l = drop-drop 96 at l in
      ap (λ x. drop (100 + 24 * count x) (drop at l)) e ∙ drop-drop (100 + 24 * many) at l

  pub behind_none : length l ≤ at → drop at l ≡ behind (drop at l)
  behind_none h = drop_of_length-le l h ∙ sym (drop_of_length-le l {i = at + (100 + 24 * many)} (omega (arith, h))) ∙ sym behind_is

  pub behind_past : (n : ℕ) → n ≡ count (drop (at + 96) l) → length l - at ≤ 100 + 24 * n → drop (length l) l ≡ behind (drop at l)
  behind_past n e h = drop_of_length-le l {i = length l} (omega arith) ∙ sym (drop_of_length-le l {i = at + (100 + 24 * many)} (omega (arith, h, e))) ∙ sym behind_is

  pub behind_in : (n : ℕ) → n ≡ count (drop (at + 96) l) → drop (at + (100 + 24 * n)) l ≡ behind (drop at l)
  behind_in n e = ap (λ k. drop (at + (100 + 24 * k)) l) e ∙ sym behind_is

pub record Skipping (l : List ℕ) (from m at i : ℕ) : Type 0 where
  pub within : i ≤ m
  pub onward : from ≤ at
  pub inside : at ≤ length l + 5
  pub whole : skip (m - i) (drop at l) ≡ skip m (drop from l)

pub skipping_start : (l : List ℕ) (from m : ℕ) → from ≤ length l + 5 → Skipping l from m from 0
skipping_start l from m h = let k : m - 0 ≡ m = omega arith in record { within = omega arith; onward = omega arith; inside = h; whole = rw k refl }

pub skipping_turn : {l : List ℕ} {from m at i : ℕ} (at' : ℕ) → Skipping l from m at i → i < m → (drop at' l ≡ behind (drop at l)) × (at ≤ at') × (at' ≤ length l + 5) → Skipping l from m at' (i + 1)
unfolding skip
skipping_turn {l} {from} {m} {at} {i} at' v h e =
    let k : m - i ≡ suc (m - (i + 1)) = omega arith in
    record {
      within = omega arith;
      onward = omega (arith, v.onward, e.1);
      inside = e.2;
      whole = ap (skip (m - (i + 1))) e.0 ∙ ap (λ n. skip n (drop at l)) (sym k) ∙ v.whole;
    }

pub skipping_end : {l : List ℕ} {from m at i : ℕ} → Skipping l from m at i → m ≤ i → (drop at l ≡ skip m (drop from l)) × (from ≤ at) × (at ≤ length l + 5)
unfolding skip
skipping_end {l} {from} {m} {at} {i} v h = let k : m - i ≡ 0 = omega (arith, h) in (sym (ap (λ n. skip n (drop at l)) k) ∙ v.whole, v.onward, v.inside)

-- ---- one turn of the walk: a line is written, the rest of the walk follows

pub record Turn (l : List ℕ) (s : Spot) (end : ℕ) (r : Turned) (out out' : List ℕ) : Type 0 where
  pub onward : s.at < r.spot.at
  pub inside : r.spot.at ≤ length l + 5
  pub whole : (f : ℕ) → sets out end (walk (suc f) s.body s.shell s.left (drop s.at l)) ≡ sets out' r.end (walk f r.spot.body r.spot.shell r.spot.left (drop r.spot.at l))
  pub place : (f : ℕ) → end + length (walk (suc f) s.body s.shell s.left (drop s.at l)) ≡ r.end + length (walk f r.spot.body r.spot.shell r.spot.left (drop r.spot.at l))
  pub bodies : r.spot.body ≤ r.spot.at
  pub shells : r.spot.shell ≤ r.spot.at
  pub fits : r.end + 14 * s.at ≤ end + 14 * r.spot.at

-- the line of a body, or of a shell, and the rest
pub walk_body : (f i j : ℕ) (x : List ℕ) → 0 < length x → walk (suc f) i j 0 x ≡ body_line (i + 1) (count x) ++ walk f (i + 1) 0 (count x) (drop 4 x)
unfolding walk
walk_body f i j [] h = absurd (not-suc-le-zero h)
walk_body f i j (b ∷ r) h = refl

walk_shell : (f i j k : ℕ) (x : List ℕ) → 0 < length x → walk (suc f) i j (suc k) x ≡ shell_line (j + 1) (get_or x 0 0) (count (drop 1 x)) ++ walk f i (j + 1) k (skip (count (drop 1 x)) (drop 5 x))
unfolding walk
walk_shell f i j k [] h = absurd (not-suc-le-zero h)
walk_shell f i j k (b ∷ r) h = refl

pub walk_none : (f i j k : ℕ) → walk f i j k [] ≡ []
unfolding walk
walk_none zero i j k = refl
walk_none (suc f) i j k = refl

module _ (out out' line rest all : List ℕ) (end e : ℕ) (w : all ≡ line ++ rest) (n : e ≡ end + length line) (o : out' ≡ sets out end line) where
  on : sets out end all ≡ sets out' e rest
  on = ap (sets out end) w ∙ sym (sets_append out end line rest) ∙ ap (λ x. sets x (end + length line) rest) (sym o) ∙ ap (λ k. sets out' k rest) (sym n)

  further : end + length all ≡ e + length rest
  further = omega (arith, ap length w, length-append line rest, n)

module _ (l : List ℕ) (s : Spot) (end e : ℕ) (out out' : List ℕ) (within : s.at < length l) where
  nonempty : 0 < length (drop s.at l)
  nonempty = omega (arith, length-drop s.at l, within)

  pub body_turn : (shells : ℕ) → s.left ≡ 0 → s.body ≤ s.at → shells ≡ count (drop s.at l) → (e ≡ end + length (body_line (s.body + 1) shells)) × (e ≤ end + 54) → out' ≡ sets out end (body_line (s.body + 1) shells) →
      Turn l s end (record { spot = record { at = s.at + 4; body = s.body + 1; shell = 0; left = shells }; end = e }) out out'
  body_turn shells z b q n o =
      let w : (f : ℕ) → walk (suc f) s.body s.shell s.left (drop s.at l) ≡ body_line (s.body + 1) shells ++ walk f (s.body + 1) 0 shells (drop (s.at + 4) l) = λ f.
      ap (λ k. walk (suc f) s.body s.shell k (drop s.at l)) z ∙ walk_body f s.body s.shell (drop s.at l) nonempty
      ∙ ap (λ c. body_line (s.body + 1) c ++ walk f (s.body + 1) 0 c (drop 4 (drop s.at l))) (sym q) ∙ ap (λ x. body_line (s.body + 1) shells ++ walk f (s.body + 1) 0 shells x) (drop-drop 4 s.at l) in
      record {
        onward = omega arith;
        inside = omega (arith, within);
        whole = λ f. on out out' (body_line (s.body + 1) shells) (walk f (s.body + 1) 0 shells (drop (s.at + 4) l)) (walk (suc f) s.body s.shell s.left (drop s.at l)) end e (w f) n.0 o;
        place = λ f. further out out' (body_line (s.body + 1) shells) (walk f (s.body + 1) 0 shells (drop (s.at + 4) l)) (walk (suc f) s.body s.shell s.left (drop s.at l)) end e (w f) n.0 o;
        bodies = omega (arith, b);
        shells = omega arith;
        fits = omega (arith, n.1);
      }

  pub shell_turn : (facets sense at' : ℕ) → 0 < s.left → s.body ≤ s.at → s.shell ≤ s.at → facets ≡ count (drop (s.at + 1) l) → sense ≡ get_or l s.at 0 →
      (drop at' l ≡ skip facets (drop (s.at + 5) l)) × (s.at + 5 ≤ at') × (at' ≤ length l + 5) → (e ≡ end + length (shell_line (s.shell + 1) sense facets)) × (e ≤ end + 63) → out' ≡ sets out end (shell_line (s.shell + 1) sense facets) →
      Turn l s end (record { spot = record { at = at'; body = s.body; shell = s.shell + 1; left = s.left - 1 }; end = e }) out out'
  shell_turn facets sense at' z b j q g d n o =
      let k : s.left ≡ suc (s.left - 1) = omega (arith, z) in
      let c : count (drop 1 (drop s.at l)) ≡ facets = ap count (drop-drop 1 s.at l) ∙ sym q in
      let h : get_or (drop s.at l) 0 0 ≡ sense = get_or-drop s.at l 0 0 ∙ ap (λ m. get_or l m 0) {x = s.at + 0} {y = s.at} (omega arith) ∙ sym g in
      let w : (f : ℕ) → walk (suc f) s.body s.shell s.left (drop s.at l) ≡ shell_line (s.shell + 1) sense facets ++ walk f s.body (s.shell + 1) (s.left - 1) (drop at' l) = λ f.
      ap (λ m. walk (suc f) s.body s.shell m (drop s.at l)) k ∙ walk_shell f s.body s.shell (s.left - 1) (drop s.at l) nonempty
      ∙ ap (λ m. shell_line (s.shell + 1) (get_or (drop s.at l) 0 0) m ++ walk f s.body (s.shell + 1) (s.left - 1) (skip m (drop 5 (drop s.at l)))) c
      ∙ ap (λ m. shell_line (s.shell + 1) m facets ++ walk f s.body (s.shell + 1) (s.left - 1) (skip facets (drop 5 (drop s.at l)))) h
      ∙ ap (λ x. shell_line (s.shell + 1) sense facets ++ walk f s.body (s.shell + 1) (s.left - 1) x) (ap (skip facets) (drop-drop 5 s.at l) ∙ sym d.0) in
      record {
        onward = omega (arith, d.1);
        inside = d.2;
        whole = λ f. on out out' (shell_line (s.shell + 1) sense facets) (walk f s.body (s.shell + 1) (s.left - 1) (drop at' l)) (walk (suc f) s.body s.shell s.left (drop s.at l)) end e (w f) n.0 o;
        place = λ f. further out out' (shell_line (s.shell + 1) sense facets) (walk f s.body (s.shell + 1) (s.left - 1) (drop at' l)) (walk (suc f) s.body s.shell s.left (drop s.at l)) end e (w f) n.0 o;
        bodies = omega (arith, b, d.1);
        shells = omega (arith, j, d.1);
        fits = omega (arith, n.1, d.1);
      }

-- ---- the whole walk

-- what is written so far, and the rest of the walk, give the whole walk
pub record Printing (l out₀ : List ℕ) (end₀ : ℕ) (out : List ℕ) (end : ℕ) (s : Spot) : Type 0 where
  pub fuel : ℕ
  pub enough : length l ≤ s.at + fuel
  pub inside : s.at ≤ length l + 5
  pub same : length out ≡ length out₀
  pub whole : sets out end (walk fuel s.body s.shell s.left (drop s.at l)) ≡ sets out₀ end₀ (walk (length l) 0 0 0 l)
  pub place : end + length (walk fuel s.body s.shell s.left (drop s.at l)) ≡ end₀ + length (walk (length l) 0 0 0 l)
  pub bodies : s.body ≤ s.at
  pub shells : s.shell ≤ s.at
  pub fits : end ≤ end₀ + 14 * s.at

pub printing_start : (l out : List ℕ) (end : ℕ) → Printing l out end out end (record { at = 0; body = 0; shell = 0; left = 0 })
printing_start l out end = record { fuel = length l; enough = omega arith; inside = omega arith; same = refl; whole = refl; place = refl; bodies = omega arith; shells = omega arith; fits = omega arith }

module _ {l out₀ : List ℕ} {end₀ : ℕ} {out : List ℕ} {end : ℕ} {s : Spot} (v : Printing l out₀ end₀ out end s) where
  pub printing_turn : (r : Turned) (out' : List ℕ) → s.at < length l → length out' ≡ length out → Turn l s end r out out' → Printing l out₀ end₀ out' r.end r.spot
  printing_turn r out' h e t = by v.fuel v.enough v.whole v.place
    where
      by : (f : ℕ) → length l ≤ s.at + f → sets out end (walk f s.body s.shell s.left (drop s.at l)) ≡ sets out₀ end₀ (walk (length l) 0 0 0 l) →
          end + length (walk f s.body s.shell s.left (drop s.at l)) ≡ end₀ + length (walk (length l) 0 0 0 l) → Printing l out₀ end₀ out' r.end r.spot
      by zero k w p = absurd (omega (arith, k, h))
      by (suc f) k w p =
          record {
            fuel = f;
            enough = omega (arith, k, t.onward);
            inside = t.inside;
            same = e ∙ v.same;
            whole = sym (t.whole f) ∙ w;
            place = sym (t.place f) ∙ p;
            bodies = t.bodies;
            shells = t.shells;
            fits = omega (arith, t.fits, v.fits);
          }

  -- behind the first line
  pub printing_end : (number : ℕ) (out₁ : List ℕ) → length l ≤ s.at → (end₀ ≡ length (answer_line number)) × (end₀ ≤ 28) → out₀ ≡ sets out₁ 0 (answer_line number) → 14 * length l + 100 ≤ length out₁ →
      ((end ≡ length (lines_of number l)) × (end ≤ length out₁)) × (out ≡ sets out₁ 0 (lines_of number l))
  unfolding lines_of
  printing_end number out₁ h n o k =
      let w = walk (length l) 0 0 0 l in
      let a = answer_line number in
      let q : end₀ ≡ 0 + length a = omega (arith, n.0) in
      let e : walk v.fuel s.body s.shell s.left (drop s.at l) ≡ [] = ap (walk v.fuel s.body s.shell s.left) (drop_of_length-le l h) ∙ walk_none v.fuel s.body s.shell s.left in (
        (omega (arith, ap length e, v.place, n.0, length-append a w), omega (arith, v.fits, v.inside, k, n.1)),
        ap (sets out end) (sym e) ∙ v.whole ∙ sym (on out₁ out₀ a w (a ++ w) 0 end₀ refl q o),
      )
