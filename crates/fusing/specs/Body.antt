-- One body: its facets, its edges, then its shells.
use Rattle.std.specs.Prelude.{◌≡◌, refl, ℕ, zero, suc, ◌+◌, ◌*◌, ◌≤◌, ◌<◌, Float, length, take, Ok, Err}
use Rattle.std.proofs.Common.{sym, ap₂, ◌∙◌, subst, arith, length-append, length-take-le}
use Rattle.std.proofs.Math.Path.{ap}
use mathlib.Core.List.{List, [], ◌∷◌, map}
use Rattle.std.proofs.Math.ListN.{get_or}
use Rattle.std.proofs.lemmas.List.{length-map}
use Rattle.refusal.specs.declared.Refusal.{Refusal}
use Rattle.refusal.specs.Outcome.{Outcome, verdict_of}
use Rattle.refusal.specs.Laws.{stop, go, same_ok, never_ok}
use Rattle.lists.specs.Walks.{cyclic}
use Rattle.sums.specs.Sum.{occ, Each}
use Rattle.sums.specs.Keys.{put, keep, pairs}
use Rattle.sums.specs.KeyLaws.{Sharing}
use Rattle.sums.proofs.KeyLaws.{each_append, each_map, each_all, each_imp, each_get_d, pairs_each}
use Rattle.sums.specs.Components.{components}
use Rattle.keys.specs.Rows.{Starts, row}
use Rattle.groups.specs.Groups.{Within}
use Rattle.groups.specs.Ends.{ends_of, joins_ends, within_ends}
use Rattle.bodies.specs.Fusing as F
use Rattle.bodies.proofs.Full.{each_kept}
use Rattle.interfaces.specs.Facets.{facets_of, cell_at}
use Rattle.edges.specs.declared.Paired.{Paired}
use Rattle.edges.specs.Laid.{row_runs, runs_rows, Listed}
use Rattle.edges.specs.Whole.{Room}
use Rattle.edges.specs.Pairing.{Edged}
use Rattle.shells.specs.Faces.{Owned}
use Rattle.shells.specs.Named.{name_in}
use Rattle.cavities.specs.Steps.{volume_of}
use Rattle.fusing.specs.declared.Bordered.{Bordered}
use Rattle.fusing.specs.Bodied.{named_shells}

-- the facets of the body of some cells, by the slices
abbrev pub faces_by : List ℕ → List ℕ → List ℕ → List ℕ
faces_by owners x g = keep (λ i. occ (get_or owners i 0) g) x

-- ---- fewer facets run fewer edges

length_put : (t i : ℕ) (v starts : List ℕ) (p : ℕ) (l : List ℕ) → length (row_runs v starts p (put t i l)) ≤ length (row_runs v starts p (i ∷ l))
unfolding put row_runs
length_put zero i v starts p l = omega (arith, length-append (map (F.run_of p) (cyclic (row v starts i))) (row_runs v starts (suc p) l), same v starts p (suc p) l)
  where
    same : (v starts : List ℕ) (p q : ℕ) (l : List ℕ) → length (row_runs v starts p l) ≡ length (row_runs v starts q l)
    same v starts p q [] = refl
    same v starts p q (i ∷ l) = omega (
      arith,
      length-append (map (F.run_of p) (cyclic (row v starts i))) (row_runs v starts (suc p) l),
      length-append (map (F.run_of q) (cyclic (row v starts i))) (row_runs v starts (suc q) l),
      length-map (cyclic (row v starts i)) (F.run_of p),
      length-map (cyclic (row v starts i)) (F.run_of q),
      same v starts (suc p) (suc q) l,
    )
length_put (suc t) i v starts p l = omega arith

more_runs : (v starts : List ℕ) (p i : ℕ) (l m : List ℕ) → length (row_runs v starts (suc p) l) ≤ length (row_runs v starts (suc p) m) → length (row_runs v starts p (i ∷ l)) ≤ length (row_runs v starts p (i ∷ m))
unfolding row_runs
more_runs v starts p i l m h = omega (arith, length-append (map (F.run_of p) (cyclic (row v starts i))) (row_runs v starts (suc p) l), length-append (map (F.run_of p) (cyclic (row v starts i))) (row_runs v starts (suc p) m))

pub fewer_runs : (v starts : List ℕ) (t : ℕ → ℕ) (p : ℕ) (l : List ℕ) → length (row_runs v starts p (keep t l)) ≤ length (row_runs v starts p l)
unfolding keep
fewer_runs v starts t p [] = omega arith
fewer_runs v starts t p (i ∷ l) = omega (arith, length_put (t i) i v starts p (keep t l), more_runs v starts p i (keep t l) l (fewer_runs v starts t (suc p) l))

-- ---- kept entries are entries

each_of : (P : ℕ → Type 0) (l : List ℕ) → ((k : ℕ) → k < length l → P (get_or l k 0)) → Each P l
each_of P [] h = tt
each_of P (x ∷ l) h = (h 0 (omega arith), each_of P l (λ k i. h (suc k) (omega arith)))

keep_ext : (s t : ℕ → ℕ) (l : List ℕ) → Each (λ i. s i ≡ t i) l → keep s l ≡ keep t l
unfolding keep
keep_ext s t [] e = refl
keep_ext s t (i ∷ l) e = ap₂ (λ b r. put b i r) e.0 (keep_ext s t l e.1)

-- the facets of a body by the slices are those of the definition
module _ (v starts owners : List ℕ) (f : ℕ) (x : List ℕ) (q : Owned owners f x) (same : x ≡ F.exterior (facets_of v starts owners f)) where
  pub faces_are : (g : List ℕ) → faces_by owners x g ≡ F.faces_of (facets_of v starts owners f) g
  unfolding F.faces_of
  faces_are g = keep_ext (λ i. occ (get_or owners i 0) g) (λ i. occ (F.cell_of (facets_of v starts owners f) i) g) x
      (each_of (λ i. occ (get_or owners i 0) g ≡ occ (F.cell_of (facets_of v starts owners f) i) g) x (λ k h. ap (λ c. occ c g) (sym (cell_at v starts owners f (get_or x k 0) (q.inn k h)))))
      ∙ ap (keep (λ i. occ (F.cell_of (facets_of v starts owners f) i) g)) same

  pub faces_in : (g : List ℕ) → Each (λ i. i < f) (faces_by owners x g)
  faces_in g = each_kept (λ i. i < f) (λ i. occ (get_or owners i 0) g) x (each_of (λ i. i < f) x q.inn)

-- ---- the pairs of neighbours are places of the body

face_in : (v starts : List ℕ) (p : ℕ) (is : List ℕ) → Each (λ r. r.face < p + length is) (row_runs v starts p is)
unfolding row_runs
face_in v starts p [] = tt
face_in v starts p (i ∷ is) = each_append (λ r. r.face < p + length (i ∷ is)) (map (F.run_of p) (cyclic (row v starts i))) (row_runs v starts (suc p) is)
    (each_map (λ r. r.face < p + length (i ∷ is)) (F.run_of p) (cyclic (row v starts i)) (each_all (λ e. p < p + length (i ∷ is)) (cyclic (row v starts i)) (λ e. omega arith)))
    (each_imp (λ r. r.face < suc p + length is) (λ r. r.face < p + length (i ∷ is)) (row_runs v starts (suc p) is) (λ r h. omega arith) (face_in v starts (suc p) is))

pub edges_within : (v starts fl : List ℕ) → Within (ends_of (F.edges (row_runs v starts 0 fl))) (length fl)
unfolding F.edges
edges_within v starts fl =
    let rs = row_runs v starts 0 fl in
    let ks = F.edge_keys rs in
    let size : length ks ≡ length rs = length-map rs _ in
    let inn : (x : ℕ) → x < length ks → (F.run_at rs x).face < length fl = λ x h. omega (arith, each_get_d (λ r. r.face < 0 + length fl) rs F.no_run x (face_in v starts 0 fl) (omega arith)) in
    within_ends (length fl) (F.edges rs)
    (each_map _ (λ p. ((F.run_at rs p.0).face, (F.run_at rs p.1).face)) (pairs ks)
    (each_imp (Sharing ks) _ (pairs ks) (λ p q. (inn p.0 q.first, inn p.1 q.second)) (pairs_each ks)))

-- ---- the body

module _ (ps : List Float) (v starts owners : List ℕ) (f : ℕ) (x g : List ℕ) (q : Owned owners f x) (same : x ≡ F.exterior (facets_of v starts owners f)) where
  pub edges_are : F.check_edges (F.runs (facets_of v starts owners f) 0 (F.faces_of (facets_of v starts owners f) g)) ≡ F.check_edges (row_runs v starts 0 (faces_by owners x g))
  edges_are = ap F.check_edges (ap (F.runs (facets_of v starts owners f) 0) (sym (faces_are v starts owners f x q same g)) ∙ runs_rows v starts owners f 0 (faces_by owners x g) (faces_in v starts owners f x q same g))

  shells_are : F.shells_of (facets_of v starts owners f) g ≡ named_shells (faces_by owners x g) (ends_of (F.edges (row_runs v starts 0 (faces_by owners x g))))
  unfolding F.shells_of
  shells_are =
      ap (λ l. map (map (λ p. get_or l p 0)) (components (length l) (F.neighbors (F.runs (facets_of v starts owners f) 0 l)))) (sym (faces_are v starts owners f x q same g))
      ∙ ap (λ rs. map (map (name_in (faces_by owners x g))) (components (length (faces_by owners x g)) (F.neighbors rs))) (runs_rows v starts owners f 0 (faces_by owners x g) (faces_in v starts owners f x q same g))
      ∙ ap (λ adj. map (map (name_in (faces_by owners x g))) (components (length (faces_by owners x g)) adj)) (sym (joins_ends (F.edges (row_runs v starts 0 (faces_by owners x g)))))

  -- refused by its edges
  pub body_stopped : (r : Refusal) → F.check_edges (row_runs v starts 0 (faces_by owners x g)) ≡ Err r → F.body_of (volume_of ps v starts) (facets_of v starts owners f) g ≡ Err r
  unfolding F.body_of
  body_stopped r e = stop (F.check_edges (F.runs (facets_of v starts owners f) 0 (F.faces_of (facets_of v starts owners f) g))) (λ _. F.order_shells (volume_of ps v starts) (F.shells_of (facets_of v starts owners f) g)) r (edges_are ∙ e)

  -- or as its shells are ordered
  pub body_goes : F.check_edges (row_runs v starts 0 (faces_by owners x g)) ≡ Ok tt →
      F.body_of (volume_of ps v starts) (facets_of v starts owners f) g ≡ F.order_shells (volume_of ps v starts) (named_shells (faces_by owners x g) (ends_of (F.edges (row_runs v starts 0 (faces_by owners x g)))))
  unfolding F.body_of
  body_goes e = go (F.check_edges (F.runs (facets_of v starts owners f) 0 (F.faces_of (facets_of v starts owners f) g))) (λ _. F.order_shells (volume_of ps v starts) (F.shells_of (facets_of v starts owners f) g)) tt (edges_are ∙ e) ∙ ap (F.order_shells (volume_of ps v starts)) shells_are

-- ---- the edges of one body, as they are checked

pub border_size : (x fl₀ fl : List ℕ) (m : ℕ) → m ≤ length x → length x ≤ length fl₀ → length fl ≡ length fl₀ → length (take m fl) ≡ m
border_size x fl₀ fl m h l e = length-take-le m fl (omega arith)

-- The facets of the body stand in front; its edges are refused, or there are the pairs of neighbours.
pub record Bordering (v starts owners x g : List ℕ) (fl e : List ℕ) (r : Outcome Bordered) : Type 0 where
  pub few : length (faces_by owners x g) ≤ length x
  pub faces : take (length (faces_by owners x g)) fl ≡ faces_by owners x g
  pub told : verdict_of r ≡ F.check_edges (row_runs v starts 0 (faces_by owners x g))
  pub counted : (b : Bordered) → r ≡ Ok b → b.faces ≡ length (faces_by owners x g)
  pub paired : (b : Bordered) → r ≡ Ok b → take (2 * b.pairs) e ≡ ends_of (F.edges (row_runs v starts 0 (faces_by owners x g)))
  pub half : (b : Bordered) → r ≡ Ok b → 2 * b.pairs ≤ length e

module _ (v starts owners : List ℕ) (f : ℕ) (x g l : List ℕ) (q : Owned owners f x) (made : l ≡ faces_by owners x g) where
  pub border_listed : Starts v starts f → Listed v starts f l
  border_listed w = record {
    fine = w;
    inn = λ k h. each_get_d (λ i. i < f) l 0 k (subst (Each (λ i. i < f)) (sym made) (each_kept (λ i. i < f) (λ i. occ (get_or owners i 0) g) x (each_of (λ i. i < f) x q.inn))) h;
  }

  pub border_room : (d k s o e : List ℕ) → Room v starts x d k s o e → Room v starts l d k s o e
  border_room d k s o e w =
      let n : length (row_runs v starts 0 l) ≤ length (row_runs v starts 0 x) = rw made (fewer_runs v starts (λ i. occ (get_or owners i 0) g) 0 x) in
      record { runs = omega (arith, w.runs); keys = omega (arith, w.keys); begins = omega (arith, w.begins); order = omega (arith, w.order); ends = omega (arith, w.ends) }

module _ (v starts owners x g fl₀ fl : List ℕ) (m : ℕ) (e : List ℕ) (o : Outcome Paired) (made : take m fl ≡ faces_by owners x g) (h : m ≤ length x) (room : length x ≤ length fl₀) (same : length fl ≡ length fl₀)
    (w : Edged (row_runs v starts 0 (take m fl)) e o) where
  size : m ≡ length (faces_by owners x g)
  size = sym (border_size x fl₀ fl m h room same) ∙ ap length made

  front : take (length (faces_by owners x g)) fl ≡ faces_by owners x g
  front = ap (λ n. take n fl) (sym size) ∙ made

  edged : Edged (row_runs v starts 0 (faces_by owners x g)) e o
  edged = subst (λ l. Edged (row_runs v starts 0 l) e o) made w

  pub bordered : (p : Paired) → o ≡ Ok p → Bordering v starts owners x g fl e (Ok (record { faces = m; pairs = p.pairs }))
  unfolding verdict_of
  bordered p z = record {
    few = omega (arith, size);
    faces = front;
    told = sym (ap verdict_of z) ∙ edged.told;
    counted = λ b y. ap (λ b. b.faces) (sym (same_ok y)) ∙ size;
    paired = λ b y. ap (λ b. take (2 * b.pairs) e) (sym (same_ok y)) ∙ edged.paired p z;
    half = λ b y. omega (arith, ap (λ b. b.pairs) (same_ok y), edged.half p z);
  }

  pub border_refused : (r : Refusal) (u : Outcome Bordered) → o ≡ Err r → u ≡ Err r → Bordering v starts owners x g fl e u
  unfolding verdict_of
  border_refused r u z y = record {
    few = omega (arith, size);
    faces = front;
    told = ap verdict_of y ∙ sym (ap verdict_of z) ∙ edged.told;
    counted = λ b k. never_ok (sym y ∙ k);
    paired = λ b k. never_ok (sym y ∙ k);
    half = λ b k. never_ok (sym y ∙ k);
  }
