-- How large a number is: at most n units of 2 ^ -1074 in size (float/specs/Exact), and what a rounded sum, difference, product or quotient and a step make of that. Assumes nothing.
-- Rounding is monotone, so what is at most n before it is so behind it, where n units are a value of the format.
use Rattle.std.specs.Prelude.{◌≡◌, refl, Bool, true, not, cond, ℕ, ◌+◌, ◌-◌, ◌*◌, ◌^◌, ◌≤◌, ◌<◌, T, eqb, ℤ, Float}
use Rattle.std.proofs.Common.{sym, ap, ◌∙◌, subst, inl, inr, mul-le-mul_right, mul-le-mul, mul-pos, mul_comm, mul_assoc, mul_right_comm, arith, ne_eqb, ltb→lt, pow_pos}
use Rattle.std.proofs.Math.Bool.{false}
use Rattle.std.specs.Float.{nan, inf, fin}
use Rattle.std.specs.Float.Ieee.{binary64, is_nan, fits, up, down, unlike, lt, neg, add, sub, mul, div, round}
use Rattle.std.specs.Float.Ieee.Exact.{HasValue, round_exact}
use Rattle.std.specs.Float.Ieee.Fits.{round-fits, neg-fits, up_pos, down_pos}
use Rattle.std.specs.Float.Ieee.Positive.{positive}
use Rattle.float.specs.Float.{next_up, next_down, finite, negative, lesser, greater}
use Rattle.float.specs.Exact.{plus, minus}
use Rattle.float.proofs.Facts.{no, round_no_nan}
use Rattle.float.proofs.Rounds.{plus_of}
use Rattle.float.proofs.Rounded.{Rounded, other, neg_plus, neg_finite, added, multiplied, times_plus, times_minus, whole, whole_is}
use Rattle.float.proofs.Places.{place, side, Number, neg_number, within, place_units, up_number, up_place, down_number, down_place}
use Rattle.float.proofs.Sums.{rounded_place}
use Rattle.float.proofs.Products.{finite_between}

-- ---- x is a finite value of the format, and at most n units in size
pub record Within (n : ℕ) (x : Float) : Type 0 where
  pub held : T (fits binary64 x)
  pub bounded : T (finite x)
  pub most : plus x ≤ n + minus x
  pub least : minus x ≤ n + plus x

pub within_more : {m n : ℕ} {x : Float} → m ≤ n → Within m x → Within n x
within_more h s = let a = s.most in let b = s.least in record { held = s.held; bounded = s.bounded; most = omega arith; least = omega arith }

pub within_neg : {n : ℕ} {x : Float} → Within n x → Within n (neg x)
within_neg {n} {x} s =
    let w = neg_plus x in
    let u = w.0 in
    let v = w.1 in
    let a = s.most in
    let b = s.least in
    record { held = neg-fits binary64 x s.held; bounded = subst T (sym (neg_finite x)) s.bounded; most = omega arith; least = omega arith }

finite_number : (x : Float) → T (fits binary64 x) → T (finite x) → Number x
unfolding is_nan
finite_number nan f h = absurd h
finite_number (inf s) f h = absurd h
finite_number (fin s m e) f h = record { held = f; real = tt }

pub within_number : {n : ℕ} {x : Float} → Within n x → Number x
within_number {n} {x} s = finite_number x s.held s.bounded

-- ---- n units are a value of the format
pub record Grid (n : ℕ) : Type 0 where
  pub digits : ℕ
  pub shift : ℕ
  pub few : digits < 2 ^ 53
  pub under : n < 2 ^ 2098
  pub is : n ≡ digits * 2 ^ shift

-- that value
unfoldable pub mark : ℕ → Float
mark n = round binary64 false n (2 ^ 1074)

pub mark_number : (n : ℕ) → Number (mark n)
unfolding mark
mark_number n = record { held = round-fits binary64 false n (2 ^ 1074); real = no (round_no_nan binary64 false n (2 ^ 1074)) }

pub mark_rounded : (n : ℕ) → Rounded (mark n) (n * 2 ^ 1074) 0 (2 ^ 1074)
unfolding mark
mark_rounded n = record { sign = false; size = n; is = refl; exact = level (n * 2 ^ 1074) (2 ^ 1074) }
  where
    level : (k l : ℕ) → k + 0 ≡ 0 * l + k
    level k l = omega arith

finite_value : (x : Float) (n c : ℕ) → HasValue x false n c → T (finite x)
finite_value nan n c v = v
finite_value (inf s) n c v = v
finite_value (fin s m e) n c v = tt

negative_value : (x : Float) (n c : ℕ) → HasValue x false n c → negative x ≡ false
negative_value nan n c v = refl
negative_value (inf s) n c v = absurd v
negative_value (fin s m e) n c v = v.0

module _ {n : ℕ} (g : Grid n) where
  mark_value : HasValue (mark n) false n (2 ^ 1074)
  unfolding mark
  mark_value = round_exact binary64 false n (2 ^ 1074) g.digits g.shift (pow_pos 1074) g.few (subst (λ (k : ℕ). k < 2 ^ 2098) g.is g.under) (ap (λ (k : ℕ). k * 2 ^ 1074) g.is)

  pub mark_plus : plus (mark n) ≡ n
  mark_plus = (plus_of (mark n) n mark_value).0

  pub mark_minus : minus (mark n) ≡ 0
  mark_minus = (plus_of (mark n) n mark_value).1

  pub mark_finite : T (finite (mark n))
  mark_finite = finite_value (mark n) n (2 ^ 1074) mark_value

  pub mark_negative : negative (mark n) ≡ false
  mark_negative = negative_value (mark n) n (2 ^ 1074) mark_value

  -- and its opposite
  low_held : T (fits binary64 (neg (mark n)))
  low_held = (neg_number (mark_number n)).held

  low_finite : T (finite (neg (mark n)))
  low_finite = subst T (sym (neg_finite (mark n))) mark_finite

  low_plus : plus (neg (mark n)) ≡ 0
  low_plus = (neg_plus (mark n)).0 ∙ mark_minus

  low_minus : minus (neg (mark n)) ≡ n
  low_minus = (neg_plus (mark n)).1 ∙ mark_plus

-- ---- by places
pub places_within : {n : ℕ} {x : Float} → Grid n → Number x → place (neg (mark n)) ≤ place x → place x ≤ place (mark n) → Within n x
places_within {n} {x} g a l h =
    let t = mark_number n in
    let u = (within (mark n) t.held (mark_finite g)).1 in
    let d = (within (neg (mark n)) (low_held g) (low_finite g)).0 in
    let f : T (finite x) = finite_between a (omega arith) (omega arith) in
    let p = place_units x (mark n) a.held t.held f (mark_finite g) h in
    let q = place_units (neg (mark n)) x (low_held g) a.held (low_finite g) f l in
    record { held = a.held; bounded = f; most = omega (arith, p, mark_plus g, mark_minus g); least = omega (arith, q, low_plus g, low_minus g) }

-- what is at most m, less than n, stands below n, and above its opposite
pub within_under : {m n : ℕ} {x : Float} → Grid n → m < n → Within m x → place x < place (mark n)
within_under {m} {n} {x} g h s = elim (side (place x) (place (mark n))) [
  | inl l ↦ l
  | inr l ↦ absurd (omega (arith, place_units (mark n) x (mark_number n).held s.held (mark_finite g) s.bounded l, mark_plus g, mark_minus g, s.most))
]

pub within_over : {m n : ℕ} {x : Float} → Grid n → m < n → Within m x → place (neg (mark n)) < place x
within_over {m} {n} {x} g h s = elim (side (place (neg (mark n))) (place x)) [
  | inl l ↦ l
  | inr l ↦ absurd (omega (arith, place_units x (neg (mark n)) s.held (low_held g) s.bounded (low_finite g) l, low_plus g, low_minus g, s.least))
]

-- ---- a rounded number is at most n where the exact one is
over : (p m n c l : ℕ) → p ≤ n * c + m → p * l + 0 * c ≤ n * l * c + m * l
over p m n c l h = omega (arith, mul-le-mul_right l h)

under : (p m n c l : ℕ) → m ≤ n * c + p → 0 * c + m * l ≤ p * l + n * l * c
under p m n c l h = omega (arith, mul-le-mul_right l h)

pub rounded_within : {n : ℕ} {r : Float} {p m c : ℕ} → Grid n → Rounded r p m c → 0 < c → p ≤ n * c + m → m ≤ n * c + p → Within n r
rounded_within {n} {r} {p} {m} {c} g R C h l =
    places_within g (record { held = subst (λ (z : Float). T (fits binary64 z)) (sym R.is) (round-fits binary64 R.sign R.size c); real = subst (λ (z : Float). T (not (is_nan z))) (sym R.is) (no (round_no_nan binary64 R.sign R.size c)) })
    (rounded_place (other (mark_rounded n)) R (pow_pos 1074) C (under p m n c (2 ^ 1074) l)) (rounded_place R (mark_rounded n) C (pow_pos 1074) (over p m n c (2 ^ 1074) h))

-- ---- sums and differences
pub add_within : {m n k : ℕ} {x y : Float} → Grid k → m + n ≤ k → Within m x → Within n y → Within k (add binary64 x y)
add_within {m} {n} {k} {x} {y} g h s t =
    let A = added x y s.held t.held s.bounded t.bounded in
    let a = s.most in
    let b = s.least in
    let c = t.most in
    let d = t.least in
    rounded_within g A.rounded A.over_pos (summed (plus x + plus y) (minus x + minus y) A.over (omega arith)) (summed (minus x + minus y) (plus x + plus y) A.over (omega arith))
  where
    summed : (p q c : ℕ) → p ≤ k + q → p * c ≤ k * c + q * c
    summed p q c h = omega (arith, mul-le-mul_right c h)

pub sub_within : {m n k : ℕ} {x y : Float} → Grid k → m + n ≤ k → Within m x → Within n y → Within k (sub binary64 x y)
unfolding sub
sub_within g h s t = add_within g h s (within_neg t)

-- ---- products
-- (xp - xn) * (yp - yn) is at most a * b where the factors are at most a and b in size: of one sign, and of two
like : (xp xn yp yn a b : ℕ) → xn ≤ xp → yn ≤ yp → xp ≤ a + xn → yp ≤ b + yn → xp * yp + xn * yn ≤ a * b + (xp * yn + xn * yp)
like xp xn yp yn a b h k i j =
    let e : xn + (xp - xn) ≡ xp = omega arith in
    let f : yn + (yp - yn) ≡ yp = omega arith in
    subst (λ (u : ℕ). u * yp + xn * yn ≤ a * b + (u * yn + xn * yp)) e (subst (λ (v : ℕ). (xn + (xp - xn)) * v + xn * yn ≤ a * b + ((xn + (xp - xn)) * yn + xn * v)) f (apart xn (xp - xn) yn (yp - yn) (omega arith) (omega arith)))
  where
    apart : (u g v d : ℕ) → g ≤ a → d ≤ b → (u + g) * (v + d) + u * v ≤ a * b + ((u + g) * v + u * (v + d))
    apart u g v d p q = omega (arith, mul-le-mul p q)

differ : (xp xn yp yn a b : ℕ) → xn ≤ xp → yp ≤ yn → xp * yp + xn * yn ≤ a * b + (xp * yn + xn * yp)
differ xp xn yp yn a b h k =
    let e : xn + (xp - xn) ≡ xp = omega arith in
    let f : yp + (yn - yp) ≡ yn = omega arith in
    subst (λ (u : ℕ). u * yp + xn * yn ≤ a * b + (u * yn + xn * yp)) e (subst (λ (v : ℕ). (xn + (xp - xn)) * yp + xn * v ≤ a * b + ((xn + (xp - xn)) * v + xn * yp)) f (apart xn (xp - xn) yp (yn - yp)))
  where
    apart : (u g v d : ℕ) → (u + g) * v + u * (v + d) ≤ a * b + ((u + g) * (v + d) + u * v)
    apart u g v d = omega arith

times : (xp xn yp yn a b : ℕ) → xp ≤ a + xn → xn ≤ a + xp → yp ≤ b + yn → yn ≤ b + yp → xp * yp + xn * yn ≤ a * b + (xp * yn + xn * yp)
times xp xn yp yn a b xm xl ym yl = elim (side xp xn) [
  | inl h ↦ elim (side yp yn) [
    | inl k ↦ omega (arith, like xn xp yn yp a b (omega arith) (omega arith) xl yl)
    | inr k ↦ omega (arith, differ xn xp yn yp a b (omega arith) k)
  ]
  | inr h ↦ elim (side yp yn) [ inl k ↦ differ xp xn yp yn a b h (omega arith) | inr k ↦ like xp xn yp yn a b h k xm ym ]
]

pub mul_within : {m n k : ℕ} {x y : Float} → Grid k → m * n ≤ k * 2 ^ 1074 → Within m x → Within n y → Within k (mul binary64 x y)
mul_within {m} {n} {k} {x} {y} g h s t =
    let M = multiplied x y s.held t.held s.bounded t.bounded in
    let a : times_plus x y ≤ m * n + times_minus x y = times (plus x) (minus x) (plus y) (minus y) m n s.most s.least t.most t.least in
    let b : times_minus x y ≤ m * n + times_plus x y = times (plus x) (minus x) (minus y) (plus y) m n s.most s.least t.least t.most in
    rounded_within g M.rounded (mul-pos M.over_pos (pow_pos 1074)) (scaled (times_plus x y) (times_minus x y) (2 ^ 1074) M.over h a) (scaled (times_minus x y) (times_plus x y) (2 ^ 1074) M.over h b)
  where
    scaled : (p q l o : ℕ) → m * n ≤ k * l → p ≤ m * n + q → p * o ≤ k * (o * l) + q * o
    scaled p q l o h e = omega (arith, mul-le-mul_right o h, mul-le-mul_right o e)

-- ---- quotients by a positive number
-- x / l is (plus x - minus x) * scale / over units
record Divided (x l : Float) : Type 0 where
  over : ℕ
  over_pos : 0 < over
  scale : ℕ
  same : over * 2 ^ 1074 ≡ plus l * scale
  rounded : Rounded (div binary64 x l) (plus x * scale) (minus x * scale) over

quotient : (s : Bool) (m : ℕ) (e : ℤ) (a w : ℕ) → a * 2 ^ 1074 ≡ whole m e * w → cond s 0 a * 2 ^ 1074 + minus (fin s m e) * w ≡ cond s a 0 * 2 ^ 1074 + plus (fin s m e) * w
quotient true m e a w h = turned (2 ^ 1074) (whole m e) h
  where
    turned : (l x : ℕ) → a * l ≡ x * w → 0 * l + x * w ≡ a * l + 0 * w
    turned l x h = omega (arith, h)
quotient false m e a w h = turned (2 ^ 1074) (whole m e) h
  where
    turned : (l x : ℕ) → a * l ≡ x * w → a * l + 0 * w ≡ 0 * l + x * w
    turned l x h = omega (arith, h)

unlike_false : (s : Bool) → unlike s false ≡ s
unlike_false true = refl
unlike_false false = refl

divided : (x l : Float) → T (fits binary64 x) → T (finite x) → T (fits binary64 l) → T (positive l) → Divided x l
unfolding div
divided (fin s m e) (fin false n d) f k g p =
    let N : 0 < n = ltb→lt 0 n p in
    let a = m * up e * down d in
    let c = n * up d * down e in
    let w = down e * down d in
    let h : a * 2 ^ 1074 ≡ whole m e * w = mul_right_comm (m * up e) (down d) (2 ^ 1074) ∙ ap (λ (z : ℕ). z * down d) (sym (whole_is s m e f)) ∙ mul_assoc (whole m e) (down e) (down d) in
    let i : c * 2 ^ 1074 ≡ whole n d * w = mul_right_comm (n * up d) (down e) (2 ^ 1074) ∙ ap (λ (z : ℕ). z * down e) (sym (whole_is false n d g)) ∙ mul_assoc (whole n d) (down d) (down e) ∙ ap (λ (z : ℕ). whole n d * z) (mul_comm (down d) (down e)) in
    record {
      over = c;
      over_pos = mul-pos (mul-pos N (up_pos d)) (down_pos e);
      scale = w;
      same = i;
      rounded = record {
        sign = s;
        size = a;
        is = ap (λ (b : Bool). cond b (cond (eqb m 0) nan (inf (unlike s false))) (round binary64 (unlike s false) a c)) (ne_eqb n 0 (λ z. none n N z)) ∙ ap (λ (b : Bool). round binary64 b a c) (unlike_false s);
        exact = quotient s m e a w h;
      };
    }
  where
    none : (n : ℕ) → 0 < n → n ≡ 0 → ⊥
    none n h e = omega arith
divided nan l f k g p = absurd k
divided (inf s) l f k g p = absurd k
divided (fin s m e) nan f k g p = absurd p
divided (fin s m e) (inf t) f k g p = absurd p
divided (fin s m e) (fin true n d) f k g p = absurd p

-- where x is at most n times as large as l
pub div_within : {k : ℕ} (n : ℕ) (x l : Float) → Grid k → k ≡ n * 2 ^ 1074 → T (fits binary64 x) → T (finite x) → T (fits binary64 l) → T (positive l) → plus x ≤ n * plus l + minus x → minus x ≤ n * plus l + plus x → Within k (div binary64 x l)
div_within {k} n x l g e f b i p h j =
    let D = divided x l f b i p in
    rounded_within g D.rounded D.over_pos (over_length (plus x) (minus x) (plus l) (2 ^ 1074) D.over D.scale h e D.same) (over_length (minus x) (plus x) (plus l) (2 ^ 1074) D.over D.scale j e D.same)
  where
    over_length : (p q r l c w : ℕ) → p ≤ n * r + q → k ≡ n * l → c * l ≡ r * w → p * w ≤ k * c + q * w
    over_length p q r l c w h e f =
        let u : n * r * w ≡ k * c = mul_assoc n r w ∙ ap (λ (z : ℕ). n * z) (sym f) ∙ ap (λ (z : ℕ). n * z) (mul_comm c l) ∙ sym (mul_assoc n l c) ∙ ap (λ (z : ℕ). z * c) (sym e) in
        omega (arith, mul-le-mul_right w h, u)

-- ---- one step outward
module _ {m n : ℕ} {x : Float} (g : Grid n) (h : m < n) (s : Within m x) where
  pub up_within : Within n (next_up x)
  up_within =
      let a = within_number s in
      let u = up_place a (within x s.held s.bounded).1 in
      let i = within_under g h s in
      let j = within_over g h s in
      places_within g (up_number a) (omega arith) (omega arith)

  pub down_within : Within n (next_down x)
  down_within =
      let a = within_number s in
      let u = down_place a (within x s.held s.bounded).0 in
      let i = within_under g h s in
      let j = within_over g h s in
      places_within g (down_number a) (omega arith) (omega arith)

-- ---- one of two, so the lesser and the greater
pub cond_within : {n : ℕ} {x y : Float} (b : Bool) → Within n x → Within n y → Within n (cond b x y)
cond_within true s t = s
cond_within false s t = t

pub lesser_within : {n : ℕ} {x y : Float} → Within n x → Within n y → Within n (lesser x y)
lesser_within {n} {x} {y} s t = cond_within (lt y x) t s

pub greater_within : {n : ℕ} {x y : Float} → Within n x → Within n y → Within n (greater x y)
greater_within {n} {x} {y} s t = cond_within (lt x y) t s
