-- The room that the bodies of an arrangement need: its listed facets run no more edges than it has corners.
use Rattle.std.specs.Prelude.{◌≡◌, refl, List, [], ◌∷◌, map, ℕ, zero, suc, ◌+◌, ◌-◌, ◌*◌, ◌≤◌, ◌<◌, length, get_or}
use Rattle.std.proofs.Common.{sym, ap, ◌∙◌, subst, arith, add-one, length-append}
use Rattle.std.proofs.lemmas.List.{length-map}
use Rattle.std.proofs.Math.Seq.{length-slice}
use Rattle.lists.specs.Walks.{cyclic}
use Rattle.lists.specs.Laws.{length_cyclic}
use Rattle.sums.specs.Sum.{sum, sum_one, hit, pick, full, Each, pick_le}
use Rattle.sums.specs.Keys.{users}
use Rattle.sums.proofs.KeyLaws.{sum_lone, full_le, full_ext, lone_in, all_each, each_get_d}
use Rattle.sums.proofs.CountLaws.{ones}
use Rattle.keys.specs.Rows.{Starts, row}
use Rattle.bodies.specs.Fusing as F
use Rattle.bodies.proofs.ListLaws.{size}
use Rattle.interfaces.specs.Facets.{facets_of, many_facets}
use Rattle.edges.specs.Laid.{row_runs}
use Rattle.edges.specs.Whole.{Room}
use Rattle.shells.specs.Faces.{Owned}

-- Each facet is a row that is not empty.
pub record Cycles (v starts : List ℕ) (f : ℕ) : Type 0 where
  pub fine : Starts v starts f
  pub some : (k : ℕ) → k < f → get_or starts k 0 < get_or starts (k + 1) 0

-- A place for each facet, and for each corner the edge that begins there.
pub record Bench (v : List ℕ) (f : ℕ) (fl d k s o e nd ct : List ℕ) : Type 0 where
  pub faces : f ≤ length fl
  pub runs : 3 * length v ≤ length d
  pub heads : f ≤ length d
  pub keys : 2 * length v ≤ length k
  pub links : length e ≤ length k
  pub begins : length v < length s
  pub flags : f ≤ length s
  pub order : length v ≤ length o
  pub stack : f ≤ length o
  pub ends : length v ≤ length e
  pub nodes : f ≤ length nd
  pub cuts : f < length ct

runs_size : (v starts : List ℕ) (p : ℕ) (l : List ℕ) → length (row_runs v starts p l) ≡ sum (λ i. length (row v starts i)) l
unfolding row_runs sum
runs_size v starts p [] = refl
runs_size v starts p (i ∷ l) = omega (
  arith,
  length-append (map (F.run_of p) (cyclic (row v starts i))) (row_runs v starts (suc p) l),
  length-map (cyclic (row v starts i)) (F.run_of p),
  length_cyclic (row v starts i),
  runs_size v starts (suc p) l,
)

-- steps upwards from one place to another
climb : (g : ℕ → ℕ) (n : ℕ) → ((k : ℕ) → k < n → g k ≤ g (suc k)) → full (λ i. g (suc i) - g i) n + g 0 ≡ g n
unfolding full
climb g zero h = omega arith
climb g (suc n) h = omega (arith, h 0 (omega arith), climb (λ i. g (suc i)) n (λ k l. h (suc k) (omega arith)))

rows_end : (v starts : List ℕ) (f : ℕ) → Starts v starts f → get_or starts f 0 ≤ length v
rows_end v starts zero w = omega (arith, w.first)
rows_end v starts (suc f) w = subst (λ n. get_or starts n 0 ≤ length v) (add-one f) (w.inn f (omega arith))

all_rows : (v starts : List ℕ) (f : ℕ) → Starts v starts f → full (λ i. length (row v starts i)) f ≤ length v
all_rows v starts f w =
    let up : (k : ℕ) → k < f → get_or starts k 0 ≤ get_or starts (suc k) 0 = λ k h. subst (λ n. get_or starts k 0 ≤ get_or starts n 0) (add-one k) (w.up k h) in
    let e : full (λ i. length (row v starts i)) f ≡ full (λ i. get_or starts (suc i) 0 - get_or starts i 0) f =
    full_ext (λ i. length (row v starts i)) (λ i. get_or starts (suc i) 0 - get_or starts i 0) f (λ i h. length-slice (get_or starts i 0) (get_or starts (i + 1) 0) v (w.inn i h) ∙ ap (λ n. get_or starts n 0 - get_or starts i 0) (add-one i)) in
    omega (arith, e, climb (λ i. get_or starts i 0) f up, rows_end v starts f w)

module _ (v starts owners : List ℕ) (f : ℕ) (x : List ℕ) (w : Starts v starts f) (same : x ≡ F.exterior (facets_of v starts owners f)) where
  many : length (F.keys (facets_of v starts owners f)) ≡ f
  many = size (facets_of v starts owners f) ∙ many_facets v starts owners f

  weight : (h : ℕ → ℕ) → sum h x ≤ full h f
  weight h =
      let ks = F.keys (facets_of v starts owners f) in
      let z : full (λ i. pick (hit 1 (length (users ks i))) (h i)) f ≤ full h f = full_le (λ i. pick (hit 1 (length (users ks i))) (h i)) h f (λ i l. pick_le (hit 1 (length (users ks i))) (h i)) in
      omega (arith, z, ap (sum h) same ∙ sum_lone h ks ∙ ap (full (λ i. pick (hit 1 (length (users ks i))) (h i))) many)

  pub few_listed : length x ≤ f
  few_listed = omega (arith, weight (λ _. 1), sum_one x, ones f)

  pub few_runs : length (row_runs v starts 0 x) ≤ length v
  few_runs = omega (arith, runs_size v starts 0 x, weight (λ i. length (row v starts i)), all_rows v starts f w)

  pub listed_owned : f ≤ length owners → Owned owners f x
  listed_owned h = record {
    room = h;
    inn = λ q l. each_get_d (λ i. i < f) x 0 q (subst (Each (λ i. i < f)) (sym same) (all_each (λ i. i < f) (F.exterior (facets_of v starts owners f)) (λ i m. omega (arith, lone_in (F.keys (facets_of v starts owners f)) i m, many)))) l;
  }

  module _ (faces d k s o e nodes cuts : List ℕ) (b : Bench v f faces d k s o e nodes cuts) where
    pub bench_faces : length x ≤ length faces
    bench_faces = omega (arith, few_listed, b.faces)

    pub bench_room : Room v starts x d k s o e
    bench_room = record {
      runs = omega (arith, few_runs, b.runs);
      keys = omega (arith, few_runs, b.keys);
      begins = omega (arith, few_runs, b.begins);
      order = omega (arith, few_runs, b.order);
      ends = omega (arith, few_runs, b.ends);
    }
