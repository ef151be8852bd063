-- The keys of edges in rows of two.
use Rattle.std.specs.Prelude.{◌≡◌, refl, List, [], ◌∷◌, ℕ, suc, ◌+◌, ◌*◌, ◌≤◌, ◌<◌, min, max, length, get_or, set}
use Rattle.std.proofs.Common.{sym, ap, ap₂, ◌∙◌, arith, length-set, get_or-set_same, get_or-set_other, ext_get_or}
use Rattle.std.proofs.Math.Decide.{dec_lt}
use Rattle.std.proofs.lemmas.List.{length-map}
use Rattle.std.proofs.Math.Seq.{slice, slice-cons, slice_empty}
use Rattle.sums.proofs.KeyLaws.{get_d_map_lt}
use Rattle.keys.specs.Rows.{Starts, row, rows, row_at, length_rows}
use Rattle.bodies.specs.Fusing.{Run, no_run, edge_keys}
use Rattle.edges.specs.Laid.{laid_runs, length_laid, laid_at}

pub lower_is : (x y : ℕ) → x < y → x ≡ min x y
lower_is x y h = omega arith

pub lower_other : (x y : ℕ) → y ≤ x → y ≡ min x y
lower_other x y h = omega arith

pub higher_is : (x y : ℕ) → x < y → y ≡ max x y
higher_is x y h = omega arith

pub higher_other : (x y : ℕ) → y ≤ x → x ≡ max x y
higher_other x y h = omega arith

-- The rows of the first x edges stand in k, and where they begin in s.
pub record Rimmed (d : List ℕ) (c : ℕ) (k₀ s₀ k s : List ℕ) (x : ℕ) : Type 0 where
  pub upto : x ≤ c
  pub low : (j : ℕ) → j < x → get_or k (2 * j) 0 ≡ min (get_or d (3 * j + 1) 0) (get_or d (3 * j + 2) 0)
  pub high : (j : ℕ) → j < x → get_or k (2 * j + 1) 0 ≡ max (get_or d (3 * j + 1) 0) (get_or d (3 * j + 2) 0)
  pub begins : (j : ℕ) → j < x → get_or s j 0 ≡ 2 * j
  pub size : length k ≡ length k₀
  pub size_s : length s ≡ length s₀

-- The whole.
pub record Rims (d : List ℕ) (c : ℕ) (k s : List ℕ) : Type 0 where
  pub fine : Starts k s c
  pub keys : rows k s c ≡ edge_keys (laid_runs d c)

module _ (d : List ℕ) (c : ℕ) (k₀ s₀ : List ℕ) where
  pub rimmed_start : Rimmed d c k₀ s₀ k₀ s₀ 0
  rimmed_start = record { upto = omega arith; low = λ j l. absurd (omega arith); high = λ j l. absurd (omega arith); begins = λ j l. absurd (omega arith); size = refl; size_s = refl }

  module _ (hk : 2 * c ≤ length k₀) (hs : c < length s₀) where
    pub rimmed_step : (k k' s : List ℕ) (x : ℕ) → x < c → Rimmed d c k₀ s₀ k s x → k' ≡ set (set k (2 * x) (min (get_or d (3 * x + 1) 0) (get_or d (3 * x + 2) 0))) (2 * x + 1) (max (get_or d (3 * x + 1) 0) (get_or d (3 * x + 2) 0)) → Rimmed d c k₀ s₀ k' (set s x (2 * x)) (x + 1)
    rimmed_step k k' s x h w q = record { upto = omega arith; low = low'; high = high'; begins = begins'; size = ap length q ∙ long ∙ w.size; size_s = length-set s x (2 * x) ∙ w.size_s }
      where
        m : ℕ
        m = min (get_or d (3 * x + 1) 0) (get_or d (3 * x + 2) 0)

        n : ℕ
        n = max (get_or d (3 * x + 1) 0) (get_or d (3 * x + 2) 0)

        long : length (set (set k (2 * x) m) (2 * x + 1) n) ≡ length k
        long = length-set (set k (2 * x) m) (2 * x + 1) n ∙ length-set k (2 * x) m

        before : (i : ℕ) → i < 2 * x → get_or k' i 0 ≡ get_or k i 0
        before i l = ap (λ z. get_or z i 0) q ∙ get_or-set_other (set k (2 * x) m) (2 * x + 1) i n 0 (λ e. omega arith) ∙ get_or-set_other k (2 * x) i m 0 (λ e. omega arith)

        low' : (j : ℕ) → j < x + 1 → get_or k' (2 * j) 0 ≡ min (get_or d (3 * j + 1) 0) (get_or d (3 * j + 2) 0)
        low' j l = go (dec_lt j x)
          where
            go : Dec (j < x) → get_or k' (2 * j) 0 ≡ min (get_or d (3 * j + 1) 0) (get_or d (3 * j + 2) 0)
            go (yes r) = before (2 * j) (omega arith) ∙ w.low j r
            go (no r) =
                let z : j ≡ x = omega arith in
                rw z (ap (λ z. get_or z (2 * x) 0) q ∙ get_or-set_other (set k (2 * x) m) (2 * x + 1) (2 * x) n 0 (λ e. omega arith) ∙ get_or-set_same k (2 * x) m 0 (omega (arith, w.size)))

        high' : (j : ℕ) → j < x + 1 → get_or k' (2 * j + 1) 0 ≡ max (get_or d (3 * j + 1) 0) (get_or d (3 * j + 2) 0)
        high' j l = go (dec_lt j x)
          where
            go : Dec (j < x) → get_or k' (2 * j + 1) 0 ≡ max (get_or d (3 * j + 1) 0) (get_or d (3 * j + 2) 0)
            go (yes r) = before (2 * j + 1) (omega arith) ∙ w.high j r
            go (no r) =
                let z : j ≡ x = omega arith in
                rw z (ap (λ z. get_or z (2 * x + 1) 0) q ∙ get_or-set_same (set k (2 * x) m) (2 * x + 1) n 0 (omega (arith, w.size, length-set k (2 * x) m)))

        begins' : (j : ℕ) → j < x + 1 → get_or (set s x (2 * x)) j 0 ≡ 2 * j
        begins' j l = go (dec_lt j x)
          where
            go : Dec (j < x) → get_or (set s x (2 * x)) j 0 ≡ 2 * j
            go (yes r) = get_or-set_other s x j (2 * x) 0 (λ e. omega arith) ∙ w.begins j r
            go (no r) =
                let z : j ≡ x = omega arith in
                rw z (get_or-set_same s x (2 * x) 0 (omega (arith, w.size_s)))

    pub rimmed_end : (k s : List ℕ) (x : ℕ) → c ≤ x → Rimmed d c k₀ s₀ k s x → Rims d c k (set s c (2 * c))
    rimmed_end k s x h w = record {
      fine = record {
        first = begin 0 (omega arith);
        up = λ j l. omega (arith, begin j (omega arith), begin (j + 1) (omega arith));
        inn = λ j l. omega (arith, begin (j + 1) (omega arith), w.size);
        many = omega (arith, w.size_s, length-set s c (2 * c));
      };
      keys = ext_get_or [] (rows k s' c) (edge_keys (laid_runs d c)) (length_rows k s' c ∙ sym (length-map (laid_runs d c) edge ∙ length_laid d c)) (λ j l. at j (omega (arith, length_rows k s' c)));
    }
      where
        s' : List ℕ
        s' = set s c (2 * c)

        begin : (j : ℕ) → j ≤ c → get_or s' j 0 ≡ 2 * j
        begin j l = go (dec_lt j c)
          where
            go : Dec (j < c) → get_or s' j 0 ≡ 2 * j
            go (yes r) = get_or-set_other s c j (2 * c) 0 (λ e. omega arith) ∙ w.begins j (omega arith)
            go (no r) =
                let z : j ≡ c = omega arith in
                rw z (get_or-set_same s c (2 * c) 0 (omega (arith, w.size_s)))

        edge : Run → List ℕ
        edge r = min r.tail r.tip ∷ max r.tail r.tip ∷ []

        two : (j : ℕ) → j < c → row k s' j ≡ get_or k (2 * j) 0 ∷ get_or k (2 * j + 1) 0 ∷ []
        two j l =
            let a : suc (2 * j) ≡ 2 * j + 1 = omega arith in
            let b : suc (2 * j + 1) ≡ 2 * (j + 1) = omega arith in
            ap₂ (λ p q. slice p q k) (begin j (omega arith)) (begin (j + 1) (omega arith))
            ∙ slice-cons (2 * j) (2 * (j + 1)) k 0 (omega arith) (omega (arith, w.size))
            ∙ ap (λ l. get_or k (2 * j) 0 ∷ l) (ap (λ p. slice p (2 * (j + 1)) k) a ∙ slice-cons (2 * j + 1) (2 * (j + 1)) k 0 (omega arith) (omega (arith, w.size))
            ∙ ap (λ l. get_or k (2 * j + 1) 0 ∷ l) (ap (λ p. slice p (2 * (j + 1)) k) b ∙ slice_empty (2 * (j + 1)) k))

        at : (j : ℕ) → j < c → get_or (rows k s' c) j [] ≡ get_or (edge_keys (laid_runs d c)) j []
        at j l = row_at k s' c j l ∙ two j l ∙ ap₂ (λ p q. p ∷ q ∷ []) (w.low j (omega (arith, w.upto))) (w.high j (omega (arith, w.upto)))
            ∙ ap edge (sym (laid_at d c j l)) ∙ sym (get_d_map_lt edge (laid_runs d c) no_run [] j (omega (arith, length_laid d c)))

    -- what a turn asks
    pub rimmed_room : (k s : List ℕ) (x : ℕ) → x < c → Rimmed d c k₀ s₀ k s x → 2 * x + 1 < length k
    rimmed_room k s x h w = omega (arith, w.size)

    pub rimmed_last : (k s : List ℕ) (x : ℕ) → Rimmed d c k₀ s₀ k s x → c < length s
    rimmed_last k s x w = omega (arith, w.size_s)
