-- Laws of the finishing of a list of cells, in the words of the code.
use Rattle.std.proofs.Math.Path.{◌≡◌, refl, sym, ap, subst}
use Rattle.std.proofs.Common.{ap₂, ◌∙◌, append_assoc, append-nil, arith, length-append, length-drop, take-append-drop, drop-drop, take-take, length-take-le}
use Rattle.std.specs.Prelude.{List, [], ◌∷◌, ◌++◌, map, ℕ, ◌+◌, ◌-◌, ◌*◌, ◌≤◌, ◌<◌, set, get_or, Float, Ok, Err}
use Rattle.std.proofs.Math.ListN.{length, take, drop}
use Rattle.std.proofs.lemmas.List.{length-map, drop-append-le}
use Rattle.std.proofs.lemmas.List.Edits.{sets, sets-eq}
use Rattle.std.proofs.Math.Seq.{length-sets}
use Rattle.refusal.specs.declared.Refusal.{Refusal}
use Rattle.refusal.specs.Outcome.{Outcome, then, each, heard, verdict_of}
use Rattle.refusal.specs.Laws.{each_go, each_stop, each_end, same_ok, never_ok}
use Rattle.space.specs.declared.Precision.{Precision}
use Rattle.space.specs.Shapes.{Cell, Solid, corners, all_corners}
use Rattle.polygon.specs.Memory.{floats_of}
use Rattle.room.specs.Rooms.{cell_floats, cell_counts, cell_at, counts_at, Within}
use Rattle.room.specs.Laws.{sets_append, next_count, counts_done, length_floats_of, length_cell_floats, length_cell_counts, cell_counts_lem}
use Rattle.sums.specs.Sum.{sum}
use Rattle.stack.specs.declared.Stack.{Stack}
use Rattle.stack.specs.Stacks.{cells_floats, cells_counts, cells_sizes, cells_at, stack_of, list_at, Lies, Holds, Front}
use Rattle.stack.specs.Laws.{Numbers, numbers, counts_snoc, all_corners_cons, sizes_snoc}
use Rattle.indexed.specs.Stored.{flat, Stored, Fits}
use Rattle.built.specs.Built.{built, Bench}
use Rattle.built.specs.Laws.{built_lengths}
use Rattle.finish.specs.Finish.{finish, total, solids_floats, solids_places, solids_counts, solids_sizes, solids_marks, solids_at, solids_told, Lain, Finished, Holding, Shelf, Space, Behind}
use Rattle.finish.specs.Lists.{total_cell, total_flat, floats_both, counts_both, corners_both, one_floats, one_counts, here_size, here_seat, here_listed, here_counts, here_cell, here_room, here_within, here_corners, here_wide, none, points_more, places_more, faces_more, numbers_more, marks_more, length_marks, solids_stored}

-- ---- how many corners n faces have: c so far, of j faces

pub record Totting (ns : List ℕ) (f n c j : ℕ) : Type 0 where
  pub upto : j ≤ n
  pub left : c + total (drop j (counts_at ns f n)) ≡ total (counts_at ns f n)

pub totting_start : (ns : List ℕ) (f n : ℕ) → Totting ns f n 0 0
totting_start ns f n = record { upto = omega arith; left = omega arith }

module _ {ns : List ℕ} {f n c j : ℕ} (I : Totting ns f n c j) (room : f + n ≤ length ns) where
  turn : j < n → total (drop j (counts_at ns f n)) ≡ get_or ns (f + j) 0 + total (drop (j + 1) (counts_at ns f n))
  unfolding sum
  turn h = ap total (next_count ns f n j h room)

  pub totting_few : j < n → c + get_or ns (f + j) 0 ≤ total (counts_at ns f n)
  totting_few h = omega (arith, I.left, turn h)

  pub totting_step : j < n → Totting ns f n (c + get_or ns (f + j) 0) (j + 1)
  totting_step h = record { upto = omega arith; left = omega (arith, I.left, turn h) }

  pub totting_end : n ≤ j → c ≡ total (counts_at ns f n)
  unfolding sum
  totting_end h = omega (arith, I.left, ap total (counts_done ns f n j h))

-- ---- one cell, behind p floats and q places

total_at : (d : List Float) (o : ℕ) (ns : List ℕ) → total ns ≡ corners 0 (cell_at d o ns)
total_at d o ns = ap total (sym (cell_counts_lem d o ns)) ∙ total_cell (cell_at d o ns)

-- a part of a slice whose front is set
part_set : {A : Type 0} (l : List A) (a k : ℕ) (v : List A) → a + k ≤ length l → length v ≤ k → take a l ++ (sets (take k (drop a l)) 0 v ++ drop k (drop a l)) ≡ sets l a v
part_set l a k v h g =
    let n : length (take k (drop a l)) ≡ k = length-take-le k (drop a l) (omega (arith, length-drop a l)) in
    let u : 0 + length v ≡ length v = omega arith in
    let e : sets (take k (drop a l)) 0 v ≡ v ++ drop (length v) (take k (drop a l)) =
    sets-eq v (take k (drop a l)) 0 (omega (arith, n)) ∙ ap (λ x. v ++ drop x (take k (drop a l))) u in
    let r : drop (length v) (take k (drop a l)) ++ drop k (drop a l) ≡ drop (a + length v) l =
    sym (drop-append-le (length v) (take k (drop a l)) (drop k (drop a l)) (omega (arith, n))) ∙ ap (drop (length v)) (take-append-drop k (drop a l)) ∙ drop-drop (length v) a l in
    ap (λ x. take a l ++ (x ++ drop k (drop a l))) e
    ∙ ap (λ x. take a l ++ x) (append_assoc v (drop (length v) (take k (drop a l))) (drop k (drop a l)) ∙ ap (λ x. v ++ x) r)
    ∙ sym (append_assoc (take a l) v (drop (a + length v) l))
    ∙ sym (sets-eq v l a (omega (arith, h, g)))

part_size : {A : Type 0} (l : List A) (a k : ℕ) (v : List A) → a + k ≤ length l → length v ≡ length (take k (drop a l)) → length (take a l ++ (v ++ drop k (drop a l))) ≡ length l
part_size l a k v h g =
    omega (arith, h, g, length-append (take a l) (v ++ drop k (drop a l)), length-append v (drop k (drop a l)), length-take-le a l (omega (arith, h)), length-take-le k (drop a l) (omega (arith, h, length-drop a l)), length-drop k (drop a l), length-drop a l)

module _ (t : Precision) (d : List Float) (o : ℕ) (ns : List ℕ) (f n c : ℕ) (s : List Float) (p : ℕ) (i : List ℕ) (q : ℕ) (S : Space d o ns f n c s p i q) (k : ℕ) (g : p + k ≤ length s) (w : 3 * c ≤ k) where
  abbrev cell : Cell
  cell = cell_at d o (counts_at ns f n)

  behind_by : (b : Outcome Solid) → built t cell ≡ b → (s' : List Float) (i' : List ℕ) (r : Outcome ℕ) → Stored b (take k (drop p s)) (take c (drop q i)) s' i' r →
      Behind b p q s i (take p s ++ (s' ++ drop k (drop p s))) (take q i ++ (i' ++ drop c (drop q i))) r
  unfolding Stored Behind
  behind_by (Ok b) e s' i' r h =
      let z = built_lengths t d o (counts_at ns f n) b e in
      let x : length (floats_of b.points) ≤ k = omega (arith, length_floats_of b.points, z.1, S.many, w) in
      let y : length (flat b.faces) ≤ c = omega (arith, total_flat b.faces, ap total z.0, total_at d o (counts_at ns f n), S.many) in (
        h.0,
        ap (λ v. take p s ++ (v ++ drop k (drop p s))) h.1 ∙ part_set s p k (floats_of b.points) g x,
        ap (λ v. take q i ++ (v ++ drop c (drop q i))) h.2 ∙ part_set i q c (flat b.faces) S.places y,
      )
  behind_by (Err x) e s' i' r h = (h.0, part_size s p k s' g h.1, part_size i q c i' S.places h.2)

  behind_built : (s' : List Float) (i' : List ℕ) (r : Outcome ℕ) → Stored (built t (cell_at d o (counts_at ns f n))) (take k (drop p s)) (take c (drop q i)) s' i' r →
      Behind (built t (cell_at d o (counts_at ns f n))) p q s i (take p s ++ (s' ++ drop k (drop p s))) (take q i ++ (i' ++ drop c (drop q i))) r
  behind_built s' i' r h = behind_by (built t cell) refl s' i' r h

-- the parts that are lent: the counts from f on, the points from p on, and c places from q on
module _ {d : List Float} {o : ℕ} {ns : List ℕ} {f n c : ℕ} {s : List Float} {p : ℕ} {i : List ℕ} {q : ℕ} (S : Space d o ns f n c s p i q) (x k y : ℕ) (ex : x ≡ length ns - f) (ek : k ≡ length s - p) (ey : y ≡ q + c - q) where
  part_counts : counts_at (take x (drop f ns)) 0 n ≡ counts_at ns f n
  part_counts = take-take n x (drop f ns) (omega (arith, ex, S.listed))

  part_places : length (take y (drop q i)) ≡ c
  part_places = length-take-le y (drop q i) (omega (arith, ey, S.places, length-drop q i)) ∙ omega (arith, ey)

  pub part_fits : Fits d (take x (drop f ns)) o 0 n (take k (drop p s)) (take y (drop q i))
  part_fits =
      let e : corners 0 (cell_at d o (counts_at (take x (drop f ns)) 0 n)) ≡ c = ap (λ l. corners 0 (cell_at d o l)) part_counts ∙ S.many in
      record {
        faces = omega (arith, length-take-le x (drop f ns) (omega (arith, ex, length-drop f ns)), ex, S.listed);
        floats = subst (λ l. Within l o (length d)) (sym part_counts) S.within;
        points = omega (arith, e, length-take-le k (drop p s) (omega (arith, ek, length-drop p s)), ek, S.points);
        places = omega (arith, e, part_places);
      }

  pub part_bench : {ends head next seen work nodes cuts : List ℕ} → Bench c n ends head next seen work nodes cuts → Bench (length (take y (drop q i))) n ends head next seen work nodes cuts
  part_bench {ends} {head} {next} {seen} {work} {nodes} {cuts} B = subst (λ c. Bench c n ends head next seen work nodes cuts) (sym part_places) B

  pub points_kept : (s' : List Float) → length s' ≡ length (take k (drop p s)) → length (take p s ++ (s' ++ drop k (drop p s))) ≡ length s
  points_kept s' e = part_size s p k s' (omega (arith, ek, S.points)) e

  pub places_kept : (i' : List ℕ) → length i' ≡ length (take y (drop q i)) → length (take q i ++ (i' ++ drop y (drop q i))) ≡ length i
  places_kept i' e = part_size i q y i' (omega (arith, ey, S.places)) e

  pub part_behind : (t : Precision) (s' : List Float) (i' : List ℕ) (r : Outcome ℕ) → Stored (built t (cell_at d o (counts_at (take x (drop f ns)) 0 n))) (take k (drop p s)) (take y (drop q i)) s' i' r →
      Behind (built t (cell_at d o (counts_at ns f n))) p q s i (take p s ++ (s' ++ drop k (drop p s))) (take q i ++ (i' ++ drop y (drop q i))) r
  part_behind t s' i' r h =
      let u : y ≡ c = omega (arith, ey) in
      let g : Stored (built t (cell_at d o (counts_at ns f n))) (take k (drop p s)) (take c (drop q i)) s' i' r =
      subst (λ l. Stored (built t (cell_at d o (counts_at ns f n))) (take k (drop p s)) (take l (drop q i)) s' i' r) u
      (subst (λ l. Stored (built t (cell_at d o l)) (take k (drop p s)) (take y (drop q i)) s' i' r) part_counts h) in
      subst (λ l. Behind (built t (cell_at d o (counts_at ns f n))) p q s i (take p s ++ (s' ++ drop k (drop p s))) (take q i ++ (i' ++ drop l (drop q i))) r) (sym u)
      (behind_built t d o ns f n c s p i q S k (omega (arith, ek, S.points)) (omega (arith, ek, S.points)) s' i' r g)

-- ---- the cells one after another: those that are done, their solids, and the rest

pub record Finishing (t : Precision) (cs : List Cell) (s₀ : List Float) (i₀ m₀ : List ℕ) (s : List Float) (i m : List ℕ) (o f p q j : ℕ) : Type 0 where
  pub done : List Cell
  pub rest : List Cell
  pub solids : List Solid
  pub all : done ++ rest ≡ cs
  pub upto : length done ≡ j
  pub floats : length (cells_floats done) ≡ o
  pub faces : length (cells_counts done) ≡ f
  pub held : all_corners 0 done ≡ q
  pub counts : solids_counts solids ≡ cells_counts done
  pub sizes : solids_sizes solids ≡ cells_sizes done
  pub many : length solids ≡ length done
  pub left : each (built t) solids rest ≡ finish t cs
  pub points : s ≡ sets s₀ 0 (solids_floats solids)
  pub places : i ≡ sets i₀ 0 (solids_places solids)
  pub marks : m ≡ sets m₀ 0 (solids_marks solids)
  pub dots : length (solids_floats solids) ≡ p
  pub spots : length (solids_places solids) ≡ q
  pub few : p ≤ 3 * q

pub finishing_start : (t : Precision) (cs : List Cell) (s : List Float) (i m : List ℕ) → Finishing t cs s i m s i m 0 0 0 0 0
unfolding finish solids_floats solids_places solids_counts solids_sizes solids_marks cells_floats cells_counts cells_sizes all_corners
finishing_start t cs s i m = record {
  done = [];
  rest = cs;
  solids = [];
  all = refl;
  upto = refl;
  floats = refl;
  faces = refl;
  held = refl;
  counts = refl;
  sizes = refl;
  many = refl;
  left = refl;
  points = refl;
  places = refl;
  marks = refl;
  dots = refl;
  spots = refl;
  few = omega arith;
}

-- the first of the cells that are left has n faces
pub record Ahead (left : List Cell) (room : ℕ) (d : List Float) (o : ℕ) (ns : List ℕ) (f n q : ℕ) : Type 0 where
  pub cell : Cell
  pub after : List Cell
  pub first : left ≡ cell ∷ after
  pub size : length cell ≡ n
  pub listed : f + n ≤ length ns
  pub within : Within (counts_at ns f n) o (length d)
  pub is : cell_at d o (counts_at ns f n) ≡ cell
  pub counts : counts_at ns f n ≡ cell_counts cell
  pub held : q + total (counts_at ns f n) ≤ room
  pub floats : o + (13 * n + 3 * total (counts_at ns f n)) ≤ length d
  pub few : 3 * n ≤ total (counts_at ns f n)

-- a count that is the length of a list
pub inside : {n m j : ℕ} → n ≡ m → j < n → j < m
inside e h = omega (arith, e)

pub outside : {n m j : ℕ} → n ≡ m → n ≤ j → m ≤ j
outside e h = omega (arith, e)

-- what the next places are is within the slices
pub record Sums (d : List Float) (ns : List ℕ) (s : List Float) (i m : List ℕ) (o f p q j n c k : ℕ) : Type 0 where
  pub floats : o + (13 * n + 3 * c) ≤ length d
  pub faces : f + n ≤ length ns
  pub points : p + 3 * k ≤ length s
  pub places : q + c ≤ length i
  pub mark : j < length m

-- the work slices are as long as they were
pub record Alike (e h x s w n c e₀ h₀ x₀ s₀ w₀ n₀ c₀ : List ℕ) : Type 0 where
  pub ends : length e ≡ length e₀
  pub head : length h ≡ length h₀
  pub next : length x ≡ length x₀
  pub seen : length s ≡ length s₀
  pub work : length w ≡ length w₀
  pub nodes : length n ≡ length n₀
  pub cuts : length c ≡ length c₀

pub alike_bench : {e h x s w n c e₀ h₀ x₀ s₀ w₀ n₀ c₀ : List ℕ} (a b a₀ b₀ : ℕ) → Alike e h x s w n c e₀ h₀ x₀ s₀ w₀ n₀ c₀ → Bench a₀ b₀ e₀ h₀ x₀ s₀ w₀ n₀ c₀ → a ≤ a₀ → b ≤ b₀ → Bench a b e h x s w n c
alike_bench a b a₀ b₀ K B u v = record {
  ends_fit = omega (arith, K.ends, B.ends_fit, u);
  next_fits = omega (arith, K.next, B.next_fits, u);
  corners_fit = omega (arith, K.nodes, B.corners_fit, u);
  head_fits = omega (arith, K.head, B.head_fits, v);
  seen_fits = omega (arith, K.seen, B.seen_fits, v);
  work_fits = omega (arith, K.work, B.work_fits, v);
  nodes_fit = omega (arith, K.nodes, B.nodes_fit, v);
  cuts_fit = omega (arith, K.cuts, B.cuts_fit, v);
}

first_of : (l : List Cell) → 0 < length l → (c : Cell) × (b : List Cell) × (l ≡ c ∷ b)
first_of [] h = absurd (omega arith)
first_of (c ∷ b) h = (c, b, refl)

module _ {t : Precision} {cs : List Cell} {s₀ : List Float} {i₀ m₀ : List ℕ} {s : List Float} {i m : List ℕ} {o f p q j : ℕ} (I : Finishing t cs s₀ i₀ m₀ s i m o f p q j)
    (room : ℕ) (d : List Float) (ns z : List ℕ) (L : Lies room cs d ns z) where
  abbrev a : List Cell
  a = I.done

  -- ---- the cell at hand

  next : j < length cs → (c : Cell) × (b : List Cell) × (I.rest ≡ c ∷ b)
  next h = first_of I.rest (omega (arith, ap length I.all, length-append I.done I.rest, I.upto))

  lies : (c : Cell) (b : List Cell) → I.rest ≡ c ∷ b → Lies room (I.done ++ (c ∷ b)) d ns z
  lies c b e = subst (λ l. Lies room l d ns z) (sym I.all ∙ ap (λ l. I.done ++ l) e) L

  pub finishing_seat : j < length cs → j < length z
  finishing_seat h = let g = next h in here_seat room a g.0 g.1 d ns z (lies g.0 g.1 g.2) j I.upto

  ahead_of : (c : Cell) (b : List Cell) (e : I.rest ≡ c ∷ b) → Ahead I.rest room d o ns f (length c) q
  ahead_of c b e =
      let K = lies c b e in
      let k = here_counts room a c b d ns z K f I.faces in
      let u : total (counts_at ns f (length c)) ≡ corners 0 c = ap total k ∙ total_cell c in
      record {
        cell = c;
        after = b;
        first = e;
        size = refl;
        listed = here_listed room a c b d ns z K f I.faces;
        within = here_within room a c b d ns z K f I.faces o I.floats;
        is = here_cell room a c b d ns z K f I.faces o I.floats;
        counts = k;
        held = omega (arith, u, I.held, here_corners room a c b d ns z K);
        floats = omega (arith, u, here_room room a c b d ns z K f I.faces o I.floats);
        few = omega (arith, u, here_wide room a c b d ns z K);
      }

  size_of : (h : j < length cs) → get_or z j 0 ≡ length (next h).0
  size_of h = let g = next h in here_size room a g.0 g.1 d ns z (lies g.0 g.1 g.2) j I.upto

  pub finishing_ahead : j < length cs → Ahead I.rest room d o ns f (get_or z j 0) q
  finishing_ahead h = let g = next h in subst (λ n. Ahead I.rest room d o ns f n q) (sym (size_of h)) (ahead_of g.0 g.1 g.2)

  -- the slices are as long as they were
  pub finishing_sizes : (length s ≡ length s₀) × (length i ≡ length i₀) × (length m ≡ length m₀)
  finishing_sizes = (ap length I.points ∙ length-sets s₀ 0 (solids_floats I.solids), ap length I.places ∙ length-sets i₀ 0 (solids_places I.solids), ap length I.marks ∙ length-sets m₀ 0 (solids_marks I.solids))

  pub finishing_space : (h : j < length cs) (c : ℕ) → c ≡ total (counts_at ns f (get_or z j 0)) → Shelf room s₀ i₀ m₀ → Space d o ns f (get_or z j 0) c s p i q
  finishing_space h c e S =
      let A = finishing_ahead h in
      let k = finishing_sizes in
      record {
        listed = A.listed;
        within = A.within;
        many = sym (e ∙ total_at d o (counts_at ns f (get_or z j 0)));
        points = omega (arith, e, A.held, I.few, S.points, k.0);
        places = omega (arith, e, A.held, S.places, k.1);
      }

  counted : Numbers room (stack_of (Ok cs))
  counted = numbers room (Ok cs) (stack_of (Ok cs)) d ns z (record { is = refl; lies = λ l e. subst (λ l. Lies room l d ns z) (same_ok e) L })

  finishing_mark : j < length cs → Shelf room s₀ i₀ m₀ → j < length m
  unfolding stack_of
  finishing_mark h S = omega (arith, h, counted.some, counted.wide, counted.fit, S.marks, finishing_sizes.2)

  -- ---- one turn

  built_of : (b : Outcome Solid) (s' : List Float) (i' : List ℕ) (r : Outcome ℕ) (k : ℕ) → Behind b p q s i s' i' r → r ≡ Ok k →
      (x : Solid) × (b ≡ Ok x) × (k ≡ length x.points) × (s' ≡ sets s p (floats_of x.points)) × (i' ≡ sets i q (flat x.faces))
  unfolding Behind
  built_of (Ok x) s' i' r k h e = (x, refl, (let g = h.0 in cc), h.1, h.2)
  built_of (Err y) s' i' r k h e = absurd (let g = h.0 in let w : ◌≡◌ {A = ℕ} 0 1 = cc in omega arith)

  not_of : (b : Outcome Solid) (s' : List Float) (i' : List ℕ) (r : Outcome ℕ) (y : Refusal) → Behind b p q s i s' i' r → r ≡ Err y → (b ≡ Err y) × (length s' ≡ length s) × (length i' ≡ length i)
  unfolding Behind
  not_of (Ok x) s' i' r y h e = absurd (let g = h.0 in let w : ◌≡◌ {A = ℕ} 0 1 = cc in omega arith)
  not_of (Err x) s' i' r y h e = ((let g = h.0 in let w : x ≡ y = cc in ap Err w), h.1, h.2)

  -- a store behind what was stored
  more : {A : Type 0} (l₀ l l' x y xy : List A) (k : ℕ) → l ≡ sets l₀ 0 x → length x ≡ k → l' ≡ sets l k y → xy ≡ x ++ y → l' ≡ sets l₀ 0 xy
  more l₀ l l' x y xy k e n g w =
      let u : k ≡ 0 + length x = omega (arith, n) in
      g ∙ ap (λ v. sets v k y) e ∙ ap (λ v. sets (sets l₀ 0 x) v y) u ∙ sets_append l₀ 0 x y ∙ ap (sets l₀ 0) (sym w)

  module _ (h : j < length cs) (c : ℕ) (e : c ≡ total (counts_at ns f (get_or z j 0))) (s' : List Float) (i' : List ℕ) (r : Outcome ℕ) (B : Behind (built t (cell_at d o (counts_at ns f (get_or z j 0)))) p q s i s' i' r) where
    pub finishing_few : (k : ℕ) → r ≡ Ok k → k ≤ c
    finishing_few k g =
        let x = built_of (built t (cell_at d o (counts_at ns f (get_or z j 0)))) s' i' r k B g in
        omega (arith, x.2, e, total_at d o (counts_at ns f (get_or z j 0)), (built_lengths t d o (counts_at ns f (get_or z j 0)) x.0 x.1).1)

    pub finishing_sums : (k : ℕ) → r ≡ Ok k → Shelf room s₀ i₀ m₀ → Sums d ns s₀ i₀ m o f p q j (get_or z j 0) c k
    finishing_sums k g S =
        let A = finishing_ahead h in
        let K = finishing_space h c e S in
        record {
          floats = omega (arith, A.floats, e);
          faces = A.listed;
          points = omega (arith, K.points, finishing_few k g, finishing_sizes.0);
          places = omega (arith, K.places, finishing_sizes.1);
          mark = finishing_mark h S;
        }

    pub finishing_step : (k : ℕ) (m' : List ℕ) → r ≡ Ok k → m' ≡ set m j k → Finishing t cs s₀ i₀ m₀ s' i' m' (o + (13 * get_or z j 0 + 3 * c)) (f + get_or z j 0) (p + 3 * k) (q + c) (j + 1)
    finishing_step k m' g w =
        let A = finishing_ahead h in
        let x = built_of (built t (cell_at d o (counts_at ns f (get_or z j 0)))) s' i' r k B g in
        let b = x.0 in
        let is : cell_at d o (counts_at ns f (get_or z j 0)) ≡ A.cell = A.is in
        let le = built_lengths t d o (counts_at ns f (get_or z j 0)) b x.1 in
        let fs : map length b.faces ≡ cell_counts A.cell = le.0 ∙ A.counts in
        let nc : length b.faces ≡ length A.cell = sym (length-map b.faces length) ∙ ap length fs ∙ length_cell_counts A.cell in
        let u : c ≡ corners 0 A.cell = e ∙ ap total A.counts ∙ total_cell A.cell in
        let n : get_or z j 0 ≡ length A.cell = sym A.size in
        let gone : built t A.cell ≡ Ok b = ap (built t) (sym is) ∙ x.1 in
        let fl : length (flat b.faces) ≡ c = sym (total_flat b.faces) ∙ ap total le.0 ∙ sym e in
        record {
          done = I.done ++ (A.cell ∷ []);
          rest = A.after;
          solids = I.solids ++ (b ∷ []);
          all = append_assoc I.done (A.cell ∷ []) A.after ∙ ap (λ l. I.done ++ l) (sym A.first) ∙ I.all;
          upto = length-append I.done (A.cell ∷ []) ∙ ap (λ l. l + 1) I.upto;
          floats = omega (arith, ap length (floats_both I.done (A.cell ∷ [])), length-append (cells_floats I.done) (cells_floats (A.cell ∷ [])), ap length (one_floats A.cell []), length-append (cell_floats A.cell) (cells_floats []), length_cell_floats A.cell, I.floats, u, n, none.0);
          faces = omega (arith, ap length (counts_both I.done (A.cell ∷ [])), length-append (cells_counts I.done) (cells_counts (A.cell ∷ [])), ap length (one_counts A.cell []), length-append (cell_counts A.cell) (cells_counts []), length_cell_counts A.cell, I.faces, n, none.1);
          held = omega (arith, corners_both I.done (A.cell ∷ []), all_corners_cons A.cell [], I.held, u, none.2);
          counts = faces_more I.solids b ∙ ap₂ (λ v y. v ++ y) I.counts fs ∙ sym (counts_snoc I.done A.cell);
          sizes = numbers_more I.solids b ∙ ap₂ (λ v y. v ++ (y ∷ [])) I.sizes nc ∙ sym (sizes_snoc I.done A.cell);
          many = length-append I.solids (b ∷ []) ∙ ap (λ v. v + 1) I.many ∙ sym (length-append I.done (A.cell ∷ []));
          left = sym (each_go (built t) I.solids A.cell A.after b gone) ∙ ap (each (built t) I.solids) (sym A.first) ∙ I.left;
          points = more s₀ s s' (solids_floats I.solids) (floats_of b.points) _ p I.points I.dots x.3 (points_more I.solids b);
          places = more i₀ i i' (solids_places I.solids) (flat b.faces) _ q I.places I.spots x.4 (places_more I.solids b);
          marks = more m₀ m m' (solids_marks I.solids) (length b.points ∷ []) _ j I.marks (length_marks I.solids ∙ I.many ∙ I.upto) (w ∙ ap (set m j) x.2) (marks_more I.solids b);
          dots = ap length (points_more I.solids b) ∙ length-append (solids_floats I.solids) (floats_of b.points) ∙ omega (arith, I.dots, length_floats_of b.points, x.2);
          spots = ap length (places_more I.solids b) ∙ length-append (solids_places I.solids) (flat b.faces) ∙ omega (arith, I.spots, fl);
          few = omega (arith, I.few, finishing_few k g);
        }

    pub finishing_stop : (y : Refusal) → r ≡ Err y → (finish t cs ≡ Err y) × (length s' ≡ length s₀) × (length i' ≡ length i₀)
    finishing_stop y g =
        let A = finishing_ahead h in
        let x = not_of (built t (cell_at d o (counts_at ns f (get_or z j 0)))) s' i' r y B g in
        let k = finishing_sizes in
        let gone : built t A.cell ≡ Err y = ap (built t) (sym A.is) ∙ x.0 in
        (sym I.left ∙ ap (each (built t) I.solids) A.first ∙ each_stop (built t) I.solids A.cell A.after y gone, x.1 ∙ k.0, x.2 ∙ k.1)

  -- ---- the end

  no_more : (l : List Cell) → length l ≡ 0 → l ≡ []
  no_more [] e = refl
  no_more (c ∷ l) e = absurd (omega (arith, e))

  pub finishing_end : length cs ≤ j → finish t cs ≡ Ok I.solids
  finishing_end h =
      let e : I.rest ≡ [] = no_more I.rest (omega (arith, ap length I.all, length-append I.done I.rest, I.upto)) in
      sym I.left ∙ ap (each (built t) I.solids) e ∙ each_end (built t) I.solids

  ending : length cs ≤ j → I.done ≡ cs
  ending h =
      let e : I.rest ≡ [] = no_more I.rest (omega (arith, ap length I.all, length-append I.done I.rest, I.upto)) in
      sym (append-nil I.done) ∙ ap (λ l. I.done ++ l) (sym e) ∙ I.all

  front : {A : Type 0} (l₀ l x : List A) → l ≡ sets l₀ 0 x → length x ≤ length l₀ → Front x l
  front l₀ l x e h = record { tail = drop (0 + length x) l₀; is = e ∙ sets-eq x l₀ 0 (omega (arith, h)) }

  pub finishing_lain : (k : ℕ) → k ≡ length cs → length cs ≤ j → Shelf room s₀ i₀ m₀ → Lain room k I.solids s i ns z m
  unfolding stack_of
  finishing_lain k e h S =
      let g = ending h in
      let N = counted in
      let u : all_corners 0 cs ≡ q = ap (all_corners 0) (sym g) ∙ I.held in
      let w : length (solids_counts I.solids) ≡ length (cells_counts cs) = ap length I.counts ∙ ap (λ l. length (cells_counts l)) g in
      let v : length I.solids ≡ length cs = I.many ∙ ap length g in
      record {
        many = e ∙ sym v;
        points = front s₀ s (solids_floats I.solids) I.points (omega (arith, I.dots, I.few, u, N.fit, S.points));
        places = front i₀ i (solids_places I.solids) I.places (omega (arith, I.spots, u, N.fit, S.places));
        counts = record { tail = L.counts.tail; is = L.counts.is ∙ ap (λ l. l ++ L.counts.tail) (ap cells_counts (sym g) ∙ sym I.counts) };
        sizes = record { tail = L.sizes.tail; is = L.sizes.is ∙ ap (λ l. l ++ L.sizes.tail) (ap cells_sizes (sym g) ∙ sym I.sizes) };
        marks = front m₀ m (solids_marks I.solids) I.marks (omega (arith, length_marks I.solids, v, N.some, N.wide, N.fit, S.marks));
        few = omega (arith, I.dots, I.spots, I.few);
        wide = omega (arith, w, I.spots, u, N.wide);
        some = omega (arith, v, w, N.some);
        fit = omega (arith, I.spots, u, N.fit);
      }

-- ---- the list that a stack tells

module _ (room : ℕ) (s : Stack) (d : List Float) (ns z : List ℕ) (H : Holds room s d ns z) where
  pub stands : s.verdict ≡ Ok tt → (list_at s d ns z ≡ Ok (cells_at d 0 ns (take s.cells z)))
  unfolding list_at heard
  stands e = ap (λ v. heard v (cells_at d 0 ns (take s.cells z))) e

  pub stands_lies : s.verdict ≡ Ok tt → Lies room (cells_at d 0 ns (take s.cells z)) d ns z
  stands_lies e = H.lies _ (stands e)

  pub stands_many : s.verdict ≡ Ok tt → s.cells ≡ length (cells_at d 0 ns (take s.cells z))
  unfolding stack_of
  stands_many e = ap (λ x. x.cells) (H.is ∙ ap stack_of (stands e))

module _ (t : Precision) (room : ℕ) (s : Stack) (d : List Float) (ns z : List ℕ) (H : Holds room s d ns z) where
  -- it was refused before
  pub finished_before : (r : Refusal) (p : List Float) (i m : List ℕ) → s.verdict ≡ Err r → Finished room s.cells (then (list_at s d ns z) (finish t)) s.verdict p i ns z m
  unfolding list_at heard verdict_of
  finished_before r p i m e =
      let o : then (list_at s d ns z) (finish t) ≡ Err r = ap (λ v. then (heard v (cells_at d 0 ns (take s.cells z))) (finish t)) e in
      record { is = e ∙ ap verdict_of (sym o); lain = λ ss h. never_ok (sym o ∙ h) }

  module _ (v : s.verdict ≡ Ok tt) where
    goes : then (list_at s d ns z) (finish t) ≡ finish t (cells_at d 0 ns (take s.cells z))
    goes = ap (λ o. then o (finish t)) (stands room s d ns z H v)

    pub finished_stop : (r : Refusal) (p : List Float) (i m : List ℕ) → finish t (cells_at d 0 ns (take s.cells z)) ≡ Err r →
        Finished room s.cells (then (list_at s d ns z) (finish t)) (Err r) p i ns z m
    unfolding verdict_of
    finished_stop r p i m e = record { is = ap verdict_of (sym (goes ∙ e)); lain = λ ss h. never_ok (sym (goes ∙ e) ∙ h) }

    pub finished_end : (ss : List Solid) (p : List Float) (i m : List ℕ) → finish t (cells_at d 0 ns (take s.cells z)) ≡ Ok ss → Lain room s.cells ss p i ns z m →
        Finished room s.cells (then (list_at s d ns z) (finish t)) (Ok tt) p i ns z m
    unfolding verdict_of
    finished_end ss p i m e l = record { is = ap verdict_of (sym (goes ∙ e)); lain = λ x h. subst (λ x. Lain room s.cells x p i ns z m) (same_ok (sym (goes ∙ e) ∙ h)) l }

-- the slices hold the solids of the outcome
pub told_is : (room k : ℕ) (o : Outcome (List Solid)) (v : Outcome Unit) (p : List Float) (i c z m : List ℕ) → Finished room k o v p i c z m → solids_told v k p i c z m ≡ o
unfolding solids_told heard verdict_of
told_is room k (Ok ss) v p i c z m F = ap (λ v. heard v (solids_at p i c (take k m) (take k z))) F.is ∙ ap Ok (solids_stored room k ss p i c z m (F.lain ss refl))
told_is room k (Err r) v p i c z m F = ap (λ v. heard v (solids_at p i c (take k m) (take k z))) F.is

pub holding : (room k : ℕ) (o : Outcome (List Solid)) (v : Outcome Unit) (p : List Float) (i c z m : List ℕ) → Finished room k o v p i c z m → Holding room k v p i c z m
holding room k o v p i c z m F = subst (λ x. Finished room k x v p i c z m) (sym (told_is room k o v p i c z m F)) F
