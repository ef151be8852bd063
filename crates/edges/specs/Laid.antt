-- The edges that facets run, three numbers each in a slice: the facet's place in the body, where the edge begins, where it ends.
use Rattle.std.specs.Prelude.{◌≡◌, ℕ, suc, ◌+◌, ◌-◌, ◌*◌, ◌%◌, ◌≤◌, ◌<◌, length, get_or, set, take, drop}
use Rattle.std.proofs.Math.Path.{refl, sym, ap}
use Rattle.std.proofs.Common.{ap₂, ◌∙◌, arith, add-one, mod-lt, length-append, length-set, drop_of_length-le, get_or-set_same, get_or-set_other, get_or-take, get_or-drop, drop-cons, ext_get_or}
use mathlib.Core.List.{List, [], ◌∷◌, ◌++◌, map, append_assoc, append-nil}
use Rattle.std.proofs.Math.Decide.{dec_lt}
use Rattle.std.proofs.lemmas.List.{length-map}
use Rattle.std.proofs.Math.ListN.{get_or-append}
use Rattle.std.proofs.Math.Seq.{slice, length-slice, get_or-append_seam}
use Rattle.lists.specs.Walks.{cyclic}
use Rattle.lists.specs.Laws.{next_pair, length_cyclic}
use Rattle.sums.specs.Sum.{Each}
use Rattle.sums.specs.Keys.{range}
use Rattle.sums.proofs.KeyLaws.{length_range, get_d_range, get_d_map_lt}
use Rattle.keys.specs.Rows.{Starts, row}
use Rattle.bodies.specs.Fusing.{Run, no_run, run_of, runs}
use Rattle.interfaces.specs.Facets.{facets_of, vertices_at}

abbrev pub laid_run : List ℕ → ℕ → Run
laid_run d x = record { face = get_or d (3 * x) 0; tail = get_or d (3 * x + 1) 0; tip = get_or d (3 * x + 2) 0 }

-- the first c runs
unfoldable pub laid_runs : List ℕ → ℕ → List Run
laid_runs d c = map (laid_run d) (range c)

-- a run stored at place c
unfoldable pub put_run : List ℕ → ℕ → ℕ → ℕ → ℕ → List ℕ
put_run d c p x y = set (set (set d (3 * c) p) (3 * c + 1) x) (3 * c + 2) y

-- the edges that facets run, by their rows
unfoldable pub row_runs : List ℕ → List ℕ → ℕ → List ℕ → List Run
row_runs v starts p [] = []
row_runs v starts p (i ∷ is) = map (run_of p) (cyclic (row v starts i)) ++ row_runs v starts (suc p) is

pub runs_rows : (v starts owners : List ℕ) (f p : ℕ) (l : List ℕ) → Each (λ i. i < f) l → runs (facets_of v starts owners f) p l ≡ row_runs v starts p l
unfolding runs row_runs
runs_rows v starts owners f p [] e = refl
runs_rows v starts owners f p (i ∷ l) e = ap₂ (λ a b. map (run_of p) (cyclic a) ++ b) (vertices_at v starts owners f i e.0) (runs_rows v starts owners f (suc p) l e.1)

-- Each facet of a body is a row.
pub record Listed (v starts : List ℕ) (f : ℕ) (fl : List ℕ) : Type 0 where
  pub fine : Starts v starts f
  pub inn : (k : ℕ) → k < length fl → get_or fl k 0 < f

pub length_laid : (d : List ℕ) (c : ℕ) → length (laid_runs d c) ≡ c
unfolding laid_runs
length_laid d c = length-map (range c) (laid_run d) ∙ length_range c

pub laid_at : (d : List ℕ) (c x : ℕ) → x < c → get_or (laid_runs d c) x no_run ≡ laid_run d x
unfolding laid_runs
laid_at d c x h = get_d_map_lt (laid_run d) (range c) 0 no_run x (omega (arith, length_range c)) ∙ ap (laid_run d) (get_d_range c x h)

pub length_run : (d : List ℕ) (c p x y : ℕ) → length (put_run d c p x y) ≡ length d
unfolding put_run
length_run d c p x y = length-set (set (set d (3 * c) p) (3 * c + 1) x) (3 * c + 2) y ∙ length-set (set d (3 * c) p) (3 * c + 1) x ∙ length-set d (3 * c) p

-- there is room for the second number
pub second_room : (d : List ℕ) (c p : ℕ) → 3 * c + 2 < length d → 3 * c + 1 < length (set d (3 * c) p)
second_room d c p h = omega (arith, length-set d (3 * c) p)

other : (d : List ℕ) (c p x y k : ℕ) → k < 3 * c → get_or (put_run d c p x y) k 0 ≡ get_or d k 0
unfolding put_run
other d c p x y k h = get_or-set_other (set (set d (3 * c) p) (3 * c + 1) x) (3 * c + 2) k y 0 (λ e. omega arith) ∙ get_or-set_other (set d (3 * c) p) (3 * c + 1) k x 0 (λ e. omega arith) ∙ get_or-set_other d (3 * c) k p 0 (λ e. omega arith)

this : (d : List ℕ) (c p x y : ℕ) → 3 * c + 2 < length d → laid_run (put_run d c p x y) c ≡ record { face = p; tail = x; tip = y }
unfolding put_run
this d c p x y h =
    let a : List ℕ = set d (3 * c) p in
    let b : List ℕ = set a (3 * c + 1) x in
    let la = length-set d (3 * c) p in
    let lb = length-set a (3 * c + 1) x in
    let e0 : get_or (set b (3 * c + 2) y) (3 * c) 0 ≡ p = get_or-set_other b (3 * c + 2) (3 * c) y 0 (λ e. omega arith) ∙ get_or-set_other a (3 * c + 1) (3 * c) x 0 (λ e. omega arith) ∙ get_or-set_same d (3 * c) p 0 (omega arith) in
    let e1 : get_or (set b (3 * c + 2) y) (3 * c + 1) 0 ≡ x = get_or-set_other b (3 * c + 2) (3 * c + 1) y 0 (λ e. omega arith) ∙ get_or-set_same a (3 * c + 1) x 0 (omega arith) in
    let e2 : get_or (set b (3 * c + 2) y) (3 * c + 2) 0 ≡ y = get_or-set_same b (3 * c + 2) y 0 (omega arith) in
    cc (e0, e1, e2)

-- one run more
pub laid_more : (d : List ℕ) (c p x y : ℕ) → 3 * c + 2 < length d → laid_runs (put_run d c p x y) (c + 1) ≡ laid_runs d c ++ (record { face = p; tail = x; tip = y } ∷ [])
laid_more d c p x y h = ext_get_or no_run (laid_runs d' (c + 1)) (laid_runs d c ++ (r ∷ [])) sizes at
  where
    d' : List ℕ
    d' = put_run d c p x y

    r : Run
    r = record { face = p; tail = x; tip = y }

    sizes : length (laid_runs d' (c + 1)) ≡ length (laid_runs d c ++ (r ∷ []))
    sizes = omega (arith, length_laid d' (c + 1), length_laid d c, length-append (laid_runs d c) (r ∷ []))

    same : (i : ℕ) → i < c → laid_run d' i ≡ laid_run d i
    same i l =
        let e0 = other d c p x y (3 * i) (omega arith) in
        let e1 = other d c p x y (3 * i + 1) (omega arith) in
        let e2 = other d c p x y (3 * i + 2) (omega arith) in
        cc (e0, e1, e2)

    at : (i : ℕ) → i < length (laid_runs d' (c + 1)) → get_or (laid_runs d' (c + 1)) i no_run ≡ get_or (laid_runs d c ++ (r ∷ [])) i no_run
    at i k = go (dec_lt i c)
      where
        go : Dec (i < c) → get_or (laid_runs d' (c + 1)) i no_run ≡ get_or (laid_runs d c ++ (r ∷ [])) i no_run
        go (yes l) = laid_at d' (c + 1) i (omega arith) ∙ same i l ∙ sym (laid_at d c i l) ∙ sym (get_or-append (laid_runs d c) (r ∷ []) no_run i (omega (arith, length_laid d c)))
        go (no l) =
            let z : i ≡ c = omega (arith, length_laid d' (c + 1)) in
            rw z (laid_at d' (c + 1) c (omega arith) ∙ this d c p x y h ∙ sym (get_or-append_seam (laid_runs d c) r [] no_run) ∙ ap (λ n. get_or (laid_runs d c ++ (r ∷ [])) n no_run) (length_laid d c))

-- ---- the loop round one facet

pub record Rounding (v : List ℕ) (a e p c₀ : ℕ) (d₀ d : List ℕ) (i : ℕ) : Type 0 where
  pub upto : i ≤ e - a
  pub left : laid_runs d (c₀ + i) ++ map (run_of p) (drop i (cyclic (slice a e v))) ≡ laid_runs d₀ c₀ ++ map (run_of p) (cyclic (slice a e v))
  pub size : length d ≡ length d₀

module _ (v : List ℕ) (a e p c₀ : ℕ) (d₀ : List ℕ) where
  pub rounding_start : Rounding v a e p c₀ d₀ d₀ 0
  rounding_start = record { upto = omega arith; left = let z : c₀ + 0 ≡ c₀ = omega arith in ap (λ c. laid_runs d₀ c ++ map (run_of p) (cyclic (slice a e v))) z; size = refl }

  module _ (ha : a ≤ e) (hv : e ≤ length v) (room : 3 * (c₀ + (e - a)) ≤ length d₀) where
    run_at : (i : ℕ) → i < e - a → get_or (slice a e v) i 0 ≡ get_or v (a + i) 0
    run_at i h = get_or-drop a (take e v) i 0 ∙ get_or-take e v (a + i) 0 (omega arith)

    pub rounding_next : (i : ℕ) → i < e - a → a + (i + 1) % (e - a) < length v
    rounding_next i h = let z : (i + 1) % (e - a) < e - a = mod-lt (i + 1) (omega arith) in omega arith

    pub rounding_step : (d d' : List ℕ) (i : ℕ) → i < e - a → Rounding v a e p c₀ d₀ d i → d' ≡ put_run d (c₀ + i) p (get_or v (a + i) 0) (get_or v (a + (i + 1) % (e - a)) 0) → Rounding v a e p c₀ d₀ d' (i + 1)
    rounding_step d d' i h w q =
        let c = c₀ + i in
        let z : c₀ + (i + 1) ≡ c₀ + i + 1 = omega arith in
        let l : List ℕ = slice a e v in
        let len : length l ≡ e - a = length-slice a e v hv in
        let x = get_or v (a + i) 0 in
        let y = get_or v (a + (i + 1) % (e - a)) 0 in
        let ex : get_or l i 0 ≡ x = run_at i h in
        let ey : get_or l ((i + 1) % length l) 0 ≡ y = ap (λ n. get_or l ((i + 1) % n) 0) len ∙ run_at ((i + 1) % (e - a)) (mod-lt (i + 1) (omega arith)) in
        let r : Run = record { face = p; tail = x; tip = y } in
        let nx : drop i (cyclic l) ≡ record { from = x; to = y } ∷ drop (i + 1) (cyclic l) = next_pair l i 0 (omega arith) ∙ ap₂ (λ s t. record { from = s; to = t } ∷ drop (i + 1) (cyclic l)) ex ey in
        record {
          upto = omega arith;
          left = ap (λ m. m ++ map (run_of p) (drop (i + 1) (cyclic l))) (ap₂ laid_runs q z ∙ laid_more d c p x y (omega (arith, w.size)))
              ∙ append_assoc (laid_runs d c) (r ∷ []) (map (run_of p) (drop (i + 1) (cyclic l)))
              ∙ ap (λ m. laid_runs d c ++ map (run_of p) m) (sym nx) ∙ w.left;
          size = ap length q ∙ length_run d c p x y ∙ w.size;
        }

    pub rounding_end : (d : List ℕ) (i : ℕ) → e - a ≤ i → Rounding v a e p c₀ d₀ d i → laid_runs d (c₀ + (e - a)) ≡ laid_runs d₀ c₀ ++ map (run_of p) (cyclic (slice a e v))
    rounding_end d i h w =
        let c = c₀ + (e - a) in
        let y : e - a ≡ i = omega (arith, w.upto) in
        let z : length (cyclic (slice a e v)) ≤ i = omega (arith, length_cyclic (slice a e v), length-slice a e v hv) in
        sym (append-nil (laid_runs d c)) ∙ ap (λ m. laid_runs d c ++ map (run_of p) m) (sym (drop_of_length-le (cyclic (slice a e v)) z)) ∙ ap (λ n. laid_runs d (c₀ + n) ++ map (run_of p) (drop i (cyclic (slice a e v)))) y ∙ w.left

    pub rounding_room : (d : List ℕ) (i : ℕ) → i < e - a → Rounding v a e p c₀ d₀ d i → 3 * (c₀ + i) + 2 < length d
    rounding_room d i h w = omega (arith, w.size)

-- ---- the loop over the facets of a body

pub record Going (v starts fl d₀ d : List ℕ) (c p : ℕ) : Type 0 where
  pub upto : p ≤ length fl
  pub count : c + length (row_runs v starts p (drop p fl)) ≡ length (row_runs v starts 0 fl)
  pub left : laid_runs d c ++ row_runs v starts p (drop p fl) ≡ row_runs v starts 0 fl
  pub size : length d ≡ length d₀

module _ (v starts fl d₀ : List ℕ) where
  pub going_start : Going v starts fl d₀ d₀ 0 0
  unfolding laid_runs range
  going_start = record { upto = omega arith; count = omega arith; left = refl; size = refl }

  next_runs : (p : ℕ) → p < length fl → row_runs v starts p (drop p fl) ≡ map (run_of p) (cyclic (row v starts (get_or fl p 0))) ++ row_runs v starts (p + 1) (drop (p + 1) fl)
  unfolding row_runs
  next_runs p h = ap (row_runs v starts p) (drop-cons fl p 0 h) ∙ ap (λ k. map (run_of p) (cyclic (row v starts (get_or fl p 0))) ++ row_runs v starts k (drop k fl)) (sym (add-one p))

  module _ (f : ℕ) (s : Listed v starts f fl) where
    row_size : (p : ℕ) → p < length fl → length (map (run_of p) (cyclic (row v starts (get_or fl p 0)))) ≡ get_or starts (get_or fl p 0 + 1) 0 - get_or starts (get_or fl p 0) 0
    row_size p h = length-map (cyclic (row v starts (get_or fl p 0))) (run_of p) ∙ length_cyclic (row v starts (get_or fl p 0)) ∙ length-slice (get_or starts (get_or fl p 0) 0) (get_or starts (get_or fl p 0 + 1) 0) v (s.fine.inn (get_or fl p 0) (s.inn p h))

    -- what a turn asks
    pub going_facet : (p : ℕ) → p < length fl → get_or fl p 0 < length starts
    going_facet p h = omega (arith, s.inn p h, s.fine.many)

    pub going_next : (p : ℕ) → p < length fl → get_or fl p 0 + 1 < length starts
    going_next p h = omega (arith, s.inn p h, s.fine.many)

    pub going_up : (p : ℕ) → p < length fl → get_or starts (get_or fl p 0) 0 ≤ get_or starts (get_or fl p 0 + 1) 0
    going_up p h = s.fine.up (get_or fl p 0) (s.inn p h)

    pub going_in : (p : ℕ) → p < length fl → get_or starts (get_or fl p 0 + 1) 0 ≤ length v
    going_in p h = s.fine.inn (get_or fl p 0) (s.inn p h)

    pub going_room : (d : List ℕ) (c p : ℕ) → p < length fl → 3 * length (row_runs v starts 0 fl) ≤ length d₀ → Going v starts fl d₀ d c p → 3 * (c + (get_or starts (get_or fl p 0 + 1) 0 - get_or starts (get_or fl p 0) 0)) ≤ length d
    going_room d c p h room w = omega (arith, w.size, w.count, ap length (next_runs p h), length-append (map (run_of p) (cyclic (row v starts (get_or fl p 0)))) (row_runs v starts (p + 1) (drop (p + 1) fl)), row_size p h)

    pub going_step : (d d' : List ℕ) (c c' p : ℕ) → p < length fl → Going v starts fl d₀ d c p → length d' ≡ length d → c' ≡ c + (get_or starts (get_or fl p 0 + 1) 0 - get_or starts (get_or fl p 0) 0) →
        laid_runs d' c' ≡ laid_runs d c ++ map (run_of p) (cyclic (row v starts (get_or fl p 0))) → Going v starts fl d₀ d' c' (p + 1)
    going_step d d' c c' p h w n m e = record {
      upto = omega arith;
      count = omega (arith, w.count, ap length (next_runs p h), length-append (map (run_of p) (cyclic (row v starts (get_or fl p 0)))) (row_runs v starts (p + 1) (drop (p + 1) fl)), row_size p h);
      left = ap (λ l. l ++ row_runs v starts (p + 1) (drop (p + 1) fl)) e ∙ append_assoc (laid_runs d c) (map (run_of p) (cyclic (row v starts (get_or fl p 0)))) (row_runs v starts (p + 1) (drop (p + 1) fl))
          ∙ ap (λ l. laid_runs d c ++ l) (sym (next_runs p h)) ∙ w.left;
      size = n ∙ w.size;
    }

  pub going_end : (d : List ℕ) (c p : ℕ) → length fl ≤ p → Going v starts fl d₀ d c p → laid_runs d c ≡ row_runs v starts 0 fl
  unfolding row_runs
  going_end d c p h w = sym (append-nil (laid_runs d c)) ∙ ap (λ l. laid_runs d c ++ l) (sym (ap (row_runs v starts p) (drop_of_length-le fl h))) ∙ w.left
