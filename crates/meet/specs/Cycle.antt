-- `same_cycle` as a loop.
use Rattle.std.specs.Prelude.{◌≡◌, refl, ◌≢◌, Bool, true, false, ◌&&◌, ◌||◌, List, [], ◌∷◌, ℕ, zero, suc, ◌+◌, ◌-◌, ◌%◌, ◌≤◌, ◌<◌, get_or, take, drop, T}
use Rattle.std.proofs.Math.Path.{sym, ap, ap₂}
use Rattle.std.proofs.Common.{◌∙◌, subst, arith, add-one, mod-lt, drop-cons, get_or-drop, get_or-take, eqb→eq}
use Rattle.std.proofs.Math.ListN.{length}
use Rattle.std.proofs.Math.Seq.{slice, drop-length, length-slice}
use Rattle.std.proofs.Math.Dec.{eqb, eqb_refl}
use Rattle.sums.specs.Sum.{Each}
use Rattle.sums.specs.Keys.{range}
use Rattle.sums.proofs.KeyLaws.{each_map, length_range, get_d_range}
use Rattle.bodies.specs.Fusing.{every, some, turned_by, same_cycle}

-- two rows of a slice
pub record Rows (v : List ℕ) (a ae b be : ℕ) : Type 0 where
  pub aa : a ≤ ae
  pub al : ae ≤ length v
  pub bb : b ≤ be
  pub bl : be ≤ length v

-- ---- tests of the numbers below n

range_next : (n i : ℕ) → i < n → drop i (range n) ≡ i ∷ drop (i + 1) (range n)
range_next n i h = drop-cons (range n) i 0 (omega (arith, length_range n)) ∙ ap₂ (λ x k. x ∷ drop k (range n)) (get_d_range n i h) (sym (add-one i))

range_done : (n i : ℕ) → i ≡ n → drop i (range n) ≡ []
range_done n i e = ap (λ k. drop k (range n)) (e ∙ sym (length_range n)) ∙ drop-length (range n)

each_range : (P : ℕ → Type 0) (n : ℕ) → ((i : ℕ) → i < n → P i) → Each P (range n)
unfolding range
each_range P zero f = tt
each_range P (suc n) f = (f 0 (omega arith), each_map P suc (range n) (each_range (λ i. P (suc i)) n (λ i h. f (suc i) (omega arith))))

every_ext : (f g : ℕ → Bool) (l : List ℕ) → Each (λ i. f i ≡ g i) l → every f l ≡ every g l
unfolding every
every_ext f g [] e = refl
every_ext f g (i ∷ l) e = ap₂ (λ x y. x && y) e.0 (every_ext f g l e.1)

eqb_yes : (x y : ℕ) → x ≡ y → eqb x y ≡ true
eqb_yes x y e = go (eqb x y) (subst (λ z. T (eqb x z)) e (eqb_refl x))
  where
    go : (b : Bool) → T b → b ≡ true
    go true t = refl
    go false t = absurd t

eqb_no : (x y : ℕ) → x ≢ y → eqb x y ≡ false
eqb_no x y n = go (eqb x y) refl
  where
    go : (b : Bool) → eqb x y ≡ b → b ≡ false
    go true e = absurd (n (eqb→eq x y (subst T (sym e) tt)))
    go false e = refl

-- ---- one turn

-- the test of place i, as the code reads it
abbrev pub matches : List ℕ → ℕ → ℕ → ℕ → ℕ → ℕ → Bool
matches v a b n shift i = eqb (get_or v (a + i) 0) (get_or v (b + (shift + n - i) % n) 0)

pub record Turning (v : List ℕ) (a b n shift i : ℕ) : Type 0 where
  pub upto : i ≤ n
  pub left : every (matches v a b n shift) (drop i (range n)) ≡ turned_by (slice a (a + n) v) (slice b (b + n) v) shift

slice_at : (v : List ℕ) (a n i : ℕ) → i < n → get_or (slice a (a + n) v) i 0 ≡ get_or v (a + i) 0
slice_at v a n i h = get_or-drop a (take (a + n) v) i 0 ∙ get_or-take (a + n) v (a + i) 0 (omega arith)

len_at : (v : List ℕ) (a n : ℕ) → a + n ≤ length v → length (slice a (a + n) v) ≡ n
len_at v a n h = length-slice a (a + n) v h ∙ omega arith

module _ (v : List ℕ) (a b n shift : ℕ) where
  pub turning_start : a + n ≤ length v → b + n ≤ length v → Turning v a b n shift 0
  unfolding turned_by
  turning_start ha hb = record {
    upto = omega arith;
    left = sym (ap₂ (λ k l. every (λ i. eqb (get_or (slice a (a + n) v) i 0) (get_or (slice b (b + n) v) ((shift + k - i) % k) 0)) (range l)) (len_at v b n hb) (len_at v a n ha)
        ∙ every_ext (λ i. eqb (get_or (slice a (a + n) v) i 0) (get_or (slice b (b + n) v) ((shift + n - i) % n) 0)) (matches v a b n shift) (range n)
        (each_range (λ i. eqb (get_or (slice a (a + n) v) i 0) (get_or (slice b (b + n) v) ((shift + n - i) % n) 0) ≡ matches v a b n shift i) n
        (λ i h. ap₂ eqb (slice_at v a n i h) (slice_at v b n ((shift + n - i) % n) (mod-lt (shift + n - i) (omega arith))))));
  }

  unfolded : (i : ℕ) → i < n → Turning v a b n shift i → (matches v a b n shift i && every (matches v a b n shift) (drop (i + 1) (range n))) ≡ turned_by (slice a (a + n) v) (slice b (b + n) v) shift
  unfolding every
  unfolded i h q = sym (ap (every (matches v a b n shift)) (range_next n i h)) ∙ q.left

  pub turning_step : (i : ℕ) → i < n → get_or v (a + i) 0 ≡ get_or v (b + (shift + n - i) % n) 0 → Turning v a b n shift i → Turning v a b n shift (i + 1)
  turning_step i h e q = record {
    upto = omega arith;
    left = sym (ap (λ t. t && every (matches v a b n shift) (drop (i + 1) (range n))) (eqb_yes (get_or v (a + i) 0) (get_or v (b + (shift + n - i) % n) 0) e)) ∙ unfolded i h q;
  }

  pub turning_stop : (i : ℕ) → i < n → get_or v (a + i) 0 ≢ get_or v (b + (shift + n - i) % n) 0 → Turning v a b n shift i → false ≡ turned_by (slice a (a + n) v) (slice b (b + n) v) shift
  turning_stop i h e q = sym (ap (λ t. t && every (matches v a b n shift) (drop (i + 1) (range n))) (eqb_no (get_or v (a + i) 0) (get_or v (b + (shift + n - i) % n) 0) e)) ∙ unfolded i h q

  pub turning_end : (i : ℕ) → n ≤ i → Turning v a b n shift i → true ≡ turned_by (slice a (a + n) v) (slice b (b + n) v) shift
  unfolding every
  turning_end i h q = sym (ap (every (matches v a b n shift)) (range_done n i (omega (arith, q.upto)))) ∙ q.left

  -- what the reads ask
  pub read_a : (i : ℕ) → i < n → a + n ≤ length v → a + i < length v
  read_a i h l = omega arith

  pub read_b : (i : ℕ) → i < n → b + n ≤ length v → b + (shift + n - i) % n < length v
  read_b i h l = let z : (shift + n - i) % n < n = mod-lt (shift + n - i) (omega arith) in omega arith

-- ---- all turns

pub record Shifting (v : List ℕ) (a b n shift : ℕ) : Type 0 where
  pub upto : shift ≤ n
  pub left : some (turned_by (slice a (a + n) v) (slice b (b + n) v)) (drop shift (range n)) ≡ some (turned_by (slice a (a + n) v) (slice b (b + n) v)) (range n)

module _ (v : List ℕ) (a ae b be : ℕ) where
  n : ℕ
  n = be - b

  whole : Rows v a ae b be → ae - a ≡ be - b → some (turned_by (slice a (a + n) v) (slice b (b + n) v)) (range n) ≡ same_cycle (slice a ae v) (slice b be v)
  unfolding same_cycle n
  whole r e =
      let za : a + (be - b) ≡ ae = omega (arith, r.aa, r.bb) in
      let zb : b + (be - b) ≡ be = omega (arith, r.bb) in
      let la : length (slice a ae v) ≡ ae - a = length-slice a ae v r.al in
      let lb : length (slice b be v) ≡ be - b = length-slice b be v r.bl in
      ap₂ (λ x y. some (turned_by (slice a x v) (slice b y v)) (range (be - b))) za zb
      ∙ ap (λ k. some (turned_by (slice a ae v) (slice b be v)) (range k)) (sym lb)
      ∙ sym (ap (λ t. t && some (turned_by (slice a ae v) (slice b be v)) (range (length (slice b be v)))) (eqb_yes (length (slice a ae v)) (length (slice b be v)) (la ∙ e ∙ sym lb)))

  pub unequal : Rows v a ae b be → ae - a ≢ be - b → false ≡ same_cycle (slice a ae v) (slice b be v)
  unfolding same_cycle
  unequal r e =
      let la : length (slice a ae v) ≡ ae - a = length-slice a ae v r.al in
      let lb : length (slice b be v) ≡ be - b = length-slice b be v r.bl in
      sym (ap (λ t. t && some (turned_by (slice a ae v) (slice b be v)) (range (length (slice b be v)))) (eqb_no (length (slice a ae v)) (length (slice b be v)) (λ q. e (sym la ∙ q ∙ lb))))

  pub shifting_start : Shifting v a b (be - b) 0
  shifting_start = record { upto = omega arith; left = refl }

  unrolled : (shift : ℕ) → shift < be - b → Shifting v a b (be - b) shift →
      (turned_by (slice a (a + (be - b)) v) (slice b (b + (be - b)) v) shift || some (turned_by (slice a (a + (be - b)) v) (slice b (b + (be - b)) v)) (drop (shift + 1) (range (be - b))))
      ≡ some (turned_by (slice a (a + (be - b)) v) (slice b (b + (be - b)) v)) (range (be - b))
  unfolding some
  unrolled shift h q = sym (ap (some (turned_by (slice a (a + (be - b)) v) (slice b (b + (be - b)) v))) (range_next (be - b) shift h)) ∙ q.left

  pub shifting_step : (shift : ℕ) (r : Bool) → shift < be - b → r ≡ turned_by (slice a (a + (be - b)) v) (slice b (b + (be - b)) v) shift → r ≡ false → Shifting v a b (be - b) shift → Shifting v a b (be - b) (shift + 1)
  shifting_step shift r h e f q = record {
    upto = omega arith;
    left = sym (ap (λ t. t || some (turned_by (slice a (a + (be - b)) v) (slice b (b + (be - b)) v)) (drop (shift + 1) (range (be - b)))) (sym e ∙ f)) ∙ unrolled shift h q;
  }

  pub shifting_stop : (shift : ℕ) (r : Bool) → Rows v a ae b be → ae - a ≡ be - b → shift < be - b → r ≡ turned_by (slice a (a + (be - b)) v) (slice b (b + (be - b)) v) shift → r ≡ true → Shifting v a b (be - b) shift →
      true ≡ same_cycle (slice a ae v) (slice b be v)
  unfolding n
  shifting_stop shift r w l h e f q = sym (ap (λ t. t || some (turned_by (slice a (a + (be - b)) v) (slice b (b + (be - b)) v)) (drop (shift + 1) (range (be - b)))) (sym e ∙ f)) ∙ unrolled shift h q ∙ whole w l

  pub shifting_end : (shift : ℕ) → Rows v a ae b be → ae - a ≡ be - b → be - b ≤ shift → Shifting v a b (be - b) shift → false ≡ same_cycle (slice a ae v) (slice b be v)
  unfolding n some
  shifting_end shift w l h q = sym (ap (some (turned_by (slice a (a + (be - b)) v) (slice b (b + (be - b)) v))) (range_done (be - b) shift (omega (arith, q.upto)))) ∙ q.left ∙ whole w l

  -- what a turn asks
  pub shift_a : Rows v a ae b be → ae - a ≡ be - b → a + (be - b) ≤ length v
  shift_a r e = omega (arith, r.aa, r.al, r.bb)

  pub shift_b : Rows v a ae b be → b + (be - b) ≤ length v
  shift_b r = omega (arith, r.bb, r.bl)
