-- What merging gives is what `conform_all` takes: each place is one of the points, and the places in a slice are the faces.
use Rattle.std.specs.Prelude.{◌≡◌, refl, Bool, true, false, not, List, [], ◌∷◌, ◌++◌, map, ℕ, zero, suc, ◌+◌, ◌≤◌, ◌<◌, length, take, drop, get_or, eqb, ltb, Ok, Err}
use Rattle.std.proofs.Common.{sym, ap, ◌∙◌, subst, append_assoc, append-nil, arith, not-suc-le-zero, le_of_suc-le-suc, ltb-false, length-append, get_or-drop}
use Rattle.std.proofs.lemmas.List.Edits.{sets, sets-eq}
use Rattle.std.proofs.Math.Seq.{take-append_seam, drop-append_seam}
use Rattle.refusal.specs.Outcome.{Outcome, then, unless, walk}
use Rattle.refusal.specs.Laws.{same_ok, then_ok}
use Rattle.lists.specs.Walks.{numbered}
use Rattle.space.specs.declared.Point3.{Point3}
use Rattle.space.specs.declared.Precision.{Precision}
use Rattle.space.specs.declared.Closeness.{Closeness}
use Rattle.space.specs.declared.Closeness.TheVariants.{Near, Apart}
use Rattle.space.specs.Near.{near_of}
use Rattle.space.specs.Shapes.{Face, Cell, Solid}
use Rattle.polygon.specs.Members.{All}
use Rattle.room.specs.Rooms.{cell_counts, counts_at, Small}
use Rattle.room.specs.Laws.{all_none, all_snoc, all_map, all_get}
use Rattle.indexed.specs.declared.Pick.TheVariants.{Only}
use Rattle.indexed.specs.Indexed.{met, only_in, search_by, Places, placed, index_point, with_face, index_face, index_faces}
use Rattle.indexed.specs.Stored.{flat}
use Rattle.indexed.proofs.Laws.{joined_low}
use Rattle.merge.specs.Merge.{merge}
use Rattle.solids.specs.Frames.{faces_at}
use Rattle.conform.specs.Cycles.{Among}
use Rattle.arrange.specs.Facets.{Cycles}
use Rattle.arrange.specs.Laws.{map_snoc}

-- each place is one of n points
abbrev pub Below : ℕ → List ℕ → Type 0
Below n l = All (λ k. k < n) l

-- ---- a search gives a point's place, or the place after the last

once : (b : Bool) (i j : ℕ) → unless b 13 (Ok i) ≡ Ok j → i ≡ j
once true i j e = absurd (let z : ◌≡◌ {A = ℕ} 0 1 = cc in omega arith)
once false i j e = same_ok e

met_low : (c : Outcome Closeness) (n h i j : ℕ) → met c n h i ≡ Ok j → h ≤ n → i ≤ n → j ≤ n
unfolding met
met_low (Ok Near) n h i j e a b = (let d = once (not (eqb h n)) i j e in omega (arith, d))
met_low (Ok Apart) n h i j e a b = (let d = same_ok e in omega (arith, d))
met_low (Err x) n h i j e a b = absurd (let z : ◌≡◌ {A = ℕ} 0 1 = cc in omega arith)

walk_low : (t : Precision) (q : Point3) (n : ℕ) (l : List Point3) (k h j : ℕ) → walk (λ h r. met (near_of t q r.it) n h r.place) h (numbered k l) ≡ Ok j → h ≤ n → k + length l ≤ n → j ≤ n
unfolding walk numbered
walk_low t q n [] k h j e a b = (let d = same_ok e in omega (arith, d))
walk_low t q n (p ∷ l) k h j e a b =
    let z = then_ok (met (near_of t q p) n h k) _ j e in
    walk_low t q n l (suc k) z.0 j z.2 (met_low (near_of t q p) n h k z.0 z.1 a (omega arith)) (omega arith)

only_low : (t : Precision) (q : Point3) (l : List Point3) (j : ℕ) → search_by Only t q l ≡ Ok j → j ≤ length l
unfolding search_by only_in
only_low t q l j e = walk_low t q (length l) l 0 (length l) j e (omega arith) (omega arith)

-- ---- the corners of a face

point_below : (t : Precision) (s s' : Places) (q : Point3) → index_point (search_by Only t) s q ≡ Ok s' → Below (length s.points) s.places →
    (length s.points ≤ length s'.points) × Below (length s'.points) s'.places × (length s'.places ≡ length s.places + 1)
unfolding index_point
point_below t s s' q e a =
    let z = then_ok (search_by Only t q s.points) _ s' e in
    let i = z.0 in
    let w : placed s q i ≡ s' = same_ok z.2 in
    let m = joined_low s.points q (eqb i (length s.points)) i refl (only_low t q s.points i z.1) in
    subst (λ x. (length s.points ≤ length x.points) × Below (length x.points) x.places × (length x.places ≡ length s.places + 1)) w
    (m.0, all_snoc _ s.places i (all_map _ _ s.places (λ k h. omega (arith, m.0)) a) m.1, length-append s.places (i ∷ []))

points_below : (t : Precision) (l : List Point3) (s s' : Places) → walk (index_point (search_by Only t)) s l ≡ Ok s' → Below (length s.points) s.places →
    (length s.points ≤ length s'.points) × Below (length s'.points) s'.places × (length s'.places ≡ length s.places + length l)
unfolding walk
points_below t [] s s' e a = subst (λ x. (length s.points ≤ length x.points) × Below (length x.points) x.places × (length x.places ≡ length s.places + length {A = Point3} [])) (same_ok e) (omega arith, a, omega arith)
points_below t (q ∷ l) s s' e a =
    let z = then_ok (index_point (search_by Only t) s q) _ s' e in
    let u = point_below t s z.0 q z.1 a in
    let v = points_below t l z.0 s' z.2 u.1 in
    (omega (arith, u.0, v.0), v.1, omega (arith, u.2, v.2))

-- ---- the faces

face_below : (t : Precision) (s s' : Solid) (f : Face) → index_face (search_by Only t) s f ≡ Ok s' → All (Below (length s.points)) s.faces →
    All (Below (length s'.points)) s'.faces × (map length s'.faces ≡ map length s.faces ++ (length f.points ∷ []))
unfolding index_face
face_below t s s' f e a =
    let z = then_ok (walk (index_point (search_by Only t)) (record { points = s.points; places = [] }) f.points) _ s' e in
    let r = z.0 in
    let u = points_below t f.points (record { points = s.points; places = [] }) z.0 z.1 (all_none _) in
    let w : with_face s r ≡ s' = same_ok z.2 in
    let n : length r.places ≡ length f.points = omega (arith, u.2) in
    subst (λ x. All (Below (length x.points)) x.faces × (map length x.faces ≡ map length s.faces ++ (length f.points ∷ []))) w
    (all_snoc _ s.faces r.places (all_map _ _ s.faces (λ g h. all_map _ _ g (λ k y. omega (arith, u.0)) h) a) u.1, map_snoc s.faces r.places ∙ ap (λ y. map length s.faces ++ (y ∷ [])) n)

faces_below : (t : Precision) (c : Cell) (s s' : Solid) → walk (index_face (search_by Only t)) s c ≡ Ok s' → All (Below (length s.points)) s.faces →
    All (Below (length s'.points)) s'.faces × (map length s'.faces ≡ map length s.faces ++ cell_counts c)
unfolding walk cell_counts
faces_below t [] s s' e a = subst (λ x. All (Below (length x.points)) x.faces × (map length x.faces ≡ map length s.faces ++ [])) (same_ok e) (a, sym (append-nil (map length s.faces)))
faces_below t (f ∷ c) s s' e a =
    let z = then_ok (index_face (search_by Only t) s f) _ s' e in
    let u = face_below t s z.0 f z.1 a in
    let v = faces_below t c z.0 s' z.2 u.0 in
    (v.0, v.1 ∙ ap (λ y. y ++ cell_counts c) u.1 ∙ append_assoc (map length s.faces) (length f.points ∷ []) (cell_counts c))

few : (b : Bool) (s s' : Solid) → then (unless b 14 (Ok (length s.points))) (λ _. Ok s) ≡ Ok s' → (b ≡ false) × (s ≡ s')
few true s s' e = absurd (let z : ◌≡◌ {A = ℕ} 0 1 = cc in omega arith)
few false s s' e = (refl, same_ok e)

-- each place is one of the points, of which there are at most 4,096, and the faces have their corners
pub merge_below : (t : Precision) (c : Cell) (s : Solid) → merge t c ≡ Ok s → All (Below (length s.points)) s.faces × (map length s.faces ≡ cell_counts c) × (length s.points ≤ 4096)
unfolding merge
merge_below t c s e =
    let z = then_ok (index_faces (search_by Only t) c) _ s e in
    let y = few (ltb 4096 (length z.0.points)) z.0 s z.2 in
    let u = faces_below t c (record { points = []; faces = [] }) z.0 z.1 (all_none _) in
    subst (λ x. All (Below (length x.points)) x.faces × (map length x.faces ≡ cell_counts c) × (length x.points ≤ 4096)) y.1 (u.0, u.1, ltb-false 4096 (length z.0.points) y.0)

-- ---- the places in a slice

get_left : (l r : List ℕ) (x : ℕ) → x < length l → get_or (l ++ r) x 0 ≡ get_or l x 0
get_left [] r x h = absurd (not-suc-le-zero h)
get_left (y ∷ l) r zero h = refl
get_left (y ∷ l) r (suc x) h = get_left l r x (le_of_suc-le-suc h)

module _ (a f r : List ℕ) (i : ℕ) (e : i ≡ length a) where
  rest_at : drop i (a ++ (f ++ r)) ≡ f ++ r
  rest_at = ap (λ k. drop k (a ++ (f ++ r))) e ∙ drop-append_seam a (f ++ r)

  face_at : counts_at (a ++ (f ++ r)) i (length f) ≡ f
  face_at = ap (take (length f)) rest_at ∙ take-append_seam f r

  among_at : (n : ℕ) → Below n f → length f ≤ 128 → Among n (a ++ (f ++ r)) i (length f)
  among_at n p q = record {
    fits = omega (arith, e, length-append a (f ++ r), length-append f r);
    small = q;
    below = λ x h. subst (λ y. y < n) (sym (sym (get_or-drop i (a ++ (f ++ r)) x 0) ∙ ap (λ l. get_or l x 0) rest_at ∙ get_left f r x h)) (all_get _ f x 0 p h);
  }

faces_back : (a : List ℕ) (fs : List (List ℕ)) (b : List ℕ) (i : ℕ) → i ≡ length a → faces_at (a ++ (flat fs ++ b)) i (map length fs) ≡ fs
unfolding faces_at flat
faces_back a [] b i e = refl
faces_back a (f ∷ fs) b i e =
    let s1 : a ++ ((f ++ flat fs) ++ b) ≡ (a ++ f) ++ (flat fs ++ b) = simp append_assoc in
    let s2 : a ++ ((f ++ flat fs) ++ b) ≡ a ++ (f ++ (flat fs ++ b)) = simp append_assoc in
    let k : i + length f ≡ length (a ++ f) = omega (arith, e, length-append a f) in
    ap (λ m. counts_at m i (length f) ∷ faces_at (a ++ ((f ++ flat fs) ++ b)) (i + length f) (map length fs)) s2
    ∙ ap (λ g. g ∷ faces_at (a ++ ((f ++ flat fs) ++ b)) (i + length f) (map length fs)) (face_at a f (flat fs ++ b) i e)
    ∙ ap (λ m. f ∷ faces_at m (i + length f) (map length fs)) s1 ∙ ap (λ l. f ∷ l) (faces_back (a ++ f) fs b (i + length f) k)

cycles_back : (n : ℕ) (a : List ℕ) (fs : List (List ℕ)) (b : List ℕ) (i : ℕ) → i ≡ length a → All (Below n) fs → All (λ f. length f ≤ 128) fs → Cycles n (a ++ (flat fs ++ b)) i (map length fs)
unfolding Cycles flat All
cycles_back n a [] b i e p q = tt
cycles_back n a (f ∷ fs) b i e p q =
    let s1 : (a ++ f) ++ (flat fs ++ b) ≡ a ++ ((f ++ flat fs) ++ b) = simp append_assoc in
    let s2 : a ++ (f ++ (flat fs ++ b)) ≡ a ++ ((f ++ flat fs) ++ b) = simp append_assoc in
    let k : i + length f ≡ length (a ++ f) = omega (arith, e, length-append a f) in
    (subst (λ m. Among n m i (length f)) s2 (among_at a f (flat fs ++ b) i e n p.0 q.0), subst (λ m. Cycles n m (i + length f) (map length fs)) s1 (cycles_back n (a ++ f) fs b (i + length f) k p.1 q.1))

small_counts : (c : Cell) → Small c → All (λ k. k ≤ 128) (cell_counts c)
unfolding All cell_counts
small_counts [] a = tt
small_counts (f ∷ c) a = (a.0, small_counts c a.1)

small_faces : (fs : List (List ℕ)) → All (λ k. k ≤ 128) (map length fs) → All (λ f. length f ≤ 128) fs
unfolding All
small_faces [] a = tt
small_faces (f ∷ fs) a = (a.0, small_faces fs a.1)

-- the places that merging stored are the faces, and what `conform_all` asks of them holds
pub merged_cycles : (t : Precision) (c : Cell) (s : Solid) (k₀ k : List ℕ) → merge t c ≡ Ok s → Small c → k ≡ sets k₀ 0 (flat s.faces) → length (flat s.faces) ≤ length k₀ →
    Cycles (length s.points) k 0 (cell_counts c) × (faces_at k 0 (cell_counts c) ≡ s.faces)
merged_cycles t c s k₀ k e small g h =
    let z = merge_below t c s e in
    let b = drop (0 + length (flat s.faces)) k₀ in
    let w : [] ++ (flat s.faces ++ b) ≡ k = sym (g ∙ sets-eq (flat s.faces) k₀ 0 (omega arith)) in
    let q = small_faces s.faces (subst (All (λ k. k ≤ 128)) (sym z.1) (small_counts c small)) in (
      subst (λ m. Cycles (length s.points) m 0 (cell_counts c)) w (subst (Cycles (length s.points) ([] ++ (flat s.faces ++ b)) 0) z.1 (cycles_back (length s.points) [] s.faces b 0 refl z.0 q)),
      ap (λ m. faces_at m 0 (cell_counts c)) (sym w) ∙ ap (faces_at ([] ++ (flat s.faces ++ b)) 0) (sym z.1) ∙ faces_back [] s.faces b 0 refl,
    )
