-- Laws of rooms: what was stored is read back, and what is stored behind it lengthens it.
use Rattle.std.specs.Prelude.{◌≡◌, refl, List, [], ◌∷◌, ◌++◌, ℕ, zero, suc, ◌+◌, ◌*◌, ◌%◌, ◌≤◌, ◌<◌, length, take, drop, get_or, set, replicate, Float}
use Rattle.std.proofs.Common.{sym, ap, ◌∙◌, subst, inl, inr, append_assoc, append-nil, arith, not-suc-le-zero, le_of_suc-le-suc, add-zero, mod-lt, add-one, length-append, length-drop, length-take, drop_of_length-le, drop-cons, get_or-append-add, get_or-drop, get_or-set_other, length-take-le}
use Rattle.std.proofs.Math.Numerals.{add-three}
use Rattle.std.proofs.lemmas.List.Edits.{sets, sets-eq}
use Rattle.std.specs.Float.{nan}
use Rattle.space.specs.declared.Point3.{Point3}
use Rattle.space.specs.declared.Plane.{Plane}
use Rattle.space.specs.Shapes.{Face, Cell, corners}
use Rattle.lists.specs.Walks.{Pair, cyclic}
use Rattle.lists.specs.Laws.{next, done, next_pair, length_cyclic}
use Rattle.polygon.specs.Memory.{floats, floats_of, point_at, points_at}
use Rattle.polygon.specs.Members.{All}
use Rattle.polygon.specs.MemoryLaws as M
use Rattle.polygon.specs.MemoryLaws.{length_points_at, point_stored}
use Rattle.room.specs.Rooms.{frame_floats, plane_floats, plane_at, face_floats, cell_floats, cell_counts, face_at, cell_at, counts_at, Within, In, Small}

-- ---- runs of stores

pub sets_append {ℓ} : {A : Type ℓ} (l : List A) (i : ℕ) (vs ws : List A) → sets (sets l i vs) (i + length vs) ws ≡ sets l i (vs ++ ws)
sets_append l i [] ws = ap (λ k. sets l k ws) (omega arith)
sets_append l i (v ∷ vs) ws =
    ap (λ k. sets (sets (set l i v) (suc i) vs) k ws) (omega arith) ∙ sets_append (set l i v) (suc i) vs ws

-- a point, and then others
pub sets_point : (s : List Float) (o : ℕ) (q : Point3) (l : List Point3) → sets s o (floats_of (q ∷ l)) ≡ sets (sets s o (floats q)) (o + 3) (floats_of l)
sets_point s o q l = rw add-three refl

pub sets_none : (s : List Float) (o : ℕ) → sets s o (floats_of []) ≡ s
sets_none s o = refl

pub sets_frame : (s : List Float) (at : ℕ) (a b c d : Point3) →
    sets (sets (sets (sets s at (floats a)) (at + 3) (floats b)) (at + 6) (floats c)) (at + 9) (floats d) ≡ sets s at (floats a ++ floats b ++ floats c ++ floats d)
sets_frame s at a b c d =
    ap (λ l. sets (sets l (at + 6) (floats c)) (at + 9) (floats d)) (sets_append s at (floats a) (floats b))
    ∙ ap (λ l. sets l (at + 9) (floats d)) (sets_append s at (floats a ++ floats b) (floats c))
    ∙ sets_append s at (floats a ++ floats b ++ floats c) (floats d)

pub sets_plane : (s : List Float) (at : ℕ) (w : Plane) → set (sets s at (frame_floats w.frame)) (at + 12) w.mark ≡ sets s at (plane_floats w)
sets_plane s at w = sets_append s at (frame_floats w.frame) (w.mark ∷ [])

-- ---- a fill from the front

fill_suc {ℓ} : {A : Type ℓ} (n : ℕ) (v : A) (d : List A) → n < length d → set (replicate n v ++ drop n d) n v ≡ replicate (suc n) v ++ drop (suc n) d
fill_suc n v [] l = absurd (not-suc-le-zero l)
fill_suc zero v (x ∷ d) l = refl
fill_suc (suc n) v (x ∷ d) l = ap (λ t. v ∷ t) (fill_suc n v d (le_of_suc-le-suc l))

pub fill_more {ℓ} : {A : Type ℓ} (n : ℕ) (v : A) (d : List A) → n < length d → set (replicate n v ++ drop n d) n v ≡ replicate (n + 1) v ++ drop (n + 1) d
fill_more n v d l = rw add-one (fill_suc n v d l)

pub fill_all {ℓ} : {A : Type ℓ} (n : ℕ) (v : A) (d : List A) → n ≤ length d → length d ≤ n → replicate n v ++ drop n d ≡ replicate (length d) v
fill_all n v d h k =
    let e : n ≡ length d = omega arith in
    rw (drop_of_length-le d k, e, append-nil)

-- ---- lengths

pub length_floats_of : (l : List Point3) → length (floats_of l) ≡ 3 * length l
length_floats_of [] = refl
length_floats_of (p ∷ l) = omega (arith, length_floats_of l)

pub corners_from : (n : ℕ) (c : Cell) → corners n c ≡ n + corners 0 c
unfolding corners
corners_from n [] = omega arith
corners_from n (f ∷ c) = omega (arith, corners_from (n + length f.points) c, corners_from (0 + length f.points) c)

pub corners_cons : (f : Face) (c : Cell) → corners 0 (f ∷ c) ≡ length f.points + corners 0 c
unfolding corners
corners_cons f c = corners_from (0 + length f.points) c ∙ omega arith

pub corners_none : corners 0 [] ≡ 0
unfolding corners
corners_none = refl

pub corners_snoc : (c : Cell) (f : Face) → corners 0 (c ++ (f ∷ [])) ≡ corners 0 c + length f.points
corners_snoc [] f = omega (arith, corners_cons f [], corners_none)
corners_snoc (g ∷ c) f = omega (arith, corners_snoc c f, corners_cons g c, corners_cons g (c ++ (f ∷ [])))

pub length_cell_floats : (c : Cell) → length (cell_floats c) ≡ 13 * length c + 3 * corners 0 c
unfolding cell_floats
length_cell_floats [] = omega (arith, corners_none)
length_cell_floats (f ∷ c) = omega (arith, length_cell_floats c, length-append (floats_of f.points) (cell_floats c), length_floats_of f.points, corners_cons f c)

pub length_cell_counts : (c : Cell) → length (cell_counts c) ≡ length c
unfolding cell_counts
length_cell_counts [] = refl
length_cell_counts (f ∷ c) = ap suc (length_cell_counts c)

-- the counts of a cell in a slice, and how many faces it has
pub cell_counts_lem : (s : List Float) (at : ℕ) (ns : List ℕ) → cell_counts (cell_at s at ns) ≡ ns
unfolding cell_at cell_counts
cell_counts_lem s at [] = refl
cell_counts_lem s at (n ∷ ns) = ap (λ x. x ∷ cell_counts (cell_at s (at + 13 + 3 * n) ns)) (length_points_at s (at + 13) n) ∙ ap (λ l. n ∷ l) (cell_counts_lem s (at + 13 + 3 * n) ns)

pub length_cell_at : (s : List Float) (at : ℕ) (ns : List ℕ) → length (cell_at s at ns) ≡ length ns
unfolding cell_at
length_cell_at s at [] = refl
length_cell_at s at (n ∷ ns) = ap suc (length_cell_at s (at + 13 + 3 * n) ns)

pub cell_faces : (s : List Float) (at : ℕ) (ns : List ℕ) (j faces : ℕ) → j + faces ≤ length ns → length (cell_at s at (counts_at ns j faces)) ≡ faces
cell_faces s at ns j faces h =
    length_cell_at s at (counts_at ns j faces) ∙ length-take-le faces (drop j ns) (omega (arith, length-drop j ns))

-- ---- one more behind the others

floats_of_snoc : (l : List Point3) (q : Point3) → floats_of (l ++ (q ∷ [])) ≡ floats_of l ++ floats q
floats_of_snoc [] q = refl
floats_of_snoc (p ∷ l) q = ap (λ r. floats p ++ r) (floats_of_snoc l q)

cell_floats_snoc : (c : Cell) (f : Face) → cell_floats (c ++ (f ∷ [])) ≡ cell_floats c ++ face_floats f
unfolding cell_floats
cell_floats_snoc [] f = append-nil (face_floats f)
cell_floats_snoc (g ∷ c) f = ap (λ l. face_floats g ++ l) (cell_floats_snoc c f) ∙ sym (append_assoc (face_floats g) (cell_floats c) (face_floats f))

pub cell_counts_snoc : (c : Cell) (f : Face) → cell_counts (c ++ (f ∷ [])) ≡ cell_counts c ++ (length f.points ∷ [])
unfolding cell_counts
cell_counts_snoc [] f = refl
cell_counts_snoc (g ∷ c) f = ap (λ l. length g.points ∷ l) (cell_counts_snoc c f)

pub points_more : (d : List Float) (l : List Point3) (q : Point3) (k : ℕ) → k ≡ length l → sets (sets d 0 (floats_of l)) (3 * k) (floats q) ≡ sets d 0 (floats_of (l ++ (q ∷ [])))
points_more d l q k e =
    let g : 3 * k ≡ 0 + length (floats_of l) = omega (arith, length_floats_of l) in
    ap (λ i. sets (sets d 0 (floats_of l)) i (floats q)) g ∙ sets_append d 0 (floats_of l) (floats q) ∙ ap (sets d 0) (sym (floats_of_snoc l q))

pub floats_more : (d : List Float) (at : ℕ) (c : Cell) (f : Face) (i : ℕ) → i ≡ at + 13 * length c + 3 * corners 0 c →
    sets (sets d at (cell_floats c)) i (face_floats f) ≡ sets d at (cell_floats (c ++ (f ∷ [])))
floats_more d at c f i e =
    let k : i ≡ at + length (cell_floats c) = omega (arith, length_cell_floats c) in
    ap (λ j. sets (sets d at (cell_floats c)) j (face_floats f)) k ∙ sets_append d at (cell_floats c) (face_floats f) ∙ ap (sets d at) (sym (cell_floats_snoc c f))

pub counts_more : (d : List ℕ) (at : ℕ) (c : Cell) (f : Face) (i : ℕ) → i ≡ at + length c →
    set (sets d at (cell_counts c)) i (length f.points) ≡ sets d at (cell_counts (c ++ (f ∷ [])))
counts_more d at c f i e =
    let m : i ≡ at + length (cell_counts c) = omega (arith, length_cell_counts c) in
    ap (λ j. set (sets d at (cell_counts c)) j (length f.points)) m ∙ sets_append d at (cell_counts c) (length f.points ∷ []) ∙ ap (sets d at) (sym (cell_counts_snoc c f))

-- ---- a walk over points in a slice: the next one and the rest

pub point_of_lem : (s : List Float) (at n i : ℕ) (d : Point3) → i < n → get_or (points_at s at n) i d ≡ point_at s (at + 3 * i)
unfolding points_at
point_of_lem s at zero i d h = absurd (not-suc-le-zero h)
point_of_lem s at (suc n) zero d h = ap (point_at s) (omega arith)
point_of_lem s at (suc n) (suc i) d h = point_of_lem s (at + 3) n i d (le_of_suc-le-suc h) ∙ ap (point_at s) (omega arith)

pub next_point : (s : List Float) (at n i : ℕ) → i < n → drop i (points_at s at n) ≡ point_at s (at + 3 * i) ∷ drop (i + 1) (points_at s at n)
next_point s at n i h =
    let d = point_at s at in
    let m : i < length (points_at s at n) = omega (arith, length_points_at s at n) in
    drop-cons (points_at s at n) i d m
    ∙ ap (λ q. q ∷ drop (suc i) (points_at s at n)) (point_of_lem s at n i d h)
    ∙ ap (λ j. point_at s (at + 3 * i) ∷ drop j (points_at s at n)) (sym (add-one i))

pub points_done : (s : List Float) (at n i : ℕ) → n ≤ i → drop i (points_at s at n) ≡ []
points_done s at n i h = let k : length (points_at s at n) ≤ i = omega (arith, length_points_at s at n) in drop_of_length-le (points_at s at n) k

-- ---- a walk over the faces of a cell in a slice: the next one and the rest

pub next_count : (l : List ℕ) (k n i : ℕ) → i < n → k + n ≤ length l → drop i (counts_at l k n) ≡ get_or l (k + i) 0 ∷ drop (i + 1) (counts_at l k n)
next_count l k n i h g =
    let m : n ≤ length (drop k l) = omega (arith, length-drop k l) in
    next (drop k l) n i 0 h m ∙ ap (λ x. x ∷ drop (i + 1) (counts_at l k n)) (get_or-drop k l i 0)

pub counts_done : (l : List ℕ) (k n i : ℕ) → n ≤ i → drop i (counts_at l k n) ≡ []
counts_done l k n i h = done (drop k l) n i h

pub cell_next : (s : List Float) (at n : ℕ) (ns : List ℕ) → cell_at s at (n ∷ ns) ≡ face_at s at n ∷ cell_at s (at + 13 + 3 * n) ns
unfolding cell_at
cell_next s at n ns = refl

pub cell_none : (s : List Float) (at : ℕ) → cell_at s at [] ≡ []
unfolding cell_at
cell_none s at = refl

pub within_small : (n : ℕ) (ns : List ℕ) (at m : ℕ) → Within (n ∷ ns) at m → n ≤ 128
unfolding Within
within_small n ns at m w = w.0

pub within_rest : (n : ℕ) (ns : List ℕ) (at m : ℕ) → Within (n ∷ ns) at m → Within ns (at + 13 + 3 * n) m
unfolding Within
within_rest n ns at m w = w.1

pub within_le : (ns : List ℕ) (at m : ℕ) → Within ns at m → at ≤ m
unfolding Within
within_le [] at m w = w
within_le (n ∷ ns) at m w = omega (arith, within_le ns (at + 13 + 3 * n) m w.1)

-- a stored cell lies within its slice
pub within_stored : (c : Cell) (at m : ℕ) → Small c → at + length (cell_floats c) ≤ m → Within (cell_counts c) at m
unfolding Within cell_counts cell_floats All
within_stored [] at m a h = omega arith
within_stored (f ∷ c) at m a h =
    (a.0, within_stored c (at + 13 + 3 * length f.points) m a.1 (omega (arith, length-append (floats_of f.points) (cell_floats c), length_floats_of f.points)))

-- ---- every element

pub all_none : {A : Type 0} (p : A → Type 0) → All p []
unfolding All
all_none p = tt

pub all_snoc : {A : Type 0} (p : A → Type 0) (l : List A) (x : A) → All p l → p x → All p (l ++ (x ∷ []))
unfolding All
all_snoc p [] x a h = (h, tt)
all_snoc p (y ∷ l) x a h = (a.0, all_snoc p l x a.1 h)

pub all_map : {A : Type 0} (p q : A → Type 0) (l : List A) → ((x : A) → p x → q x) → All p l → All q l
unfolding All
all_map p q [] f a = tt
all_map p q (x ∷ l) f a = (f x a.0, all_map p q l f a.1)

pub all_both : {A : Type 0} (p q r : A → Type 0) (l : List A) → ((x : A) → p x → q x → r x) → All p l → All q l → All r l
unfolding All
all_both p q r [] f a b = tt
all_both p q r (x ∷ l) f a b = (f x a.0 b.0, all_both p q r l f a.1 b.1)

pub all_get : {A : Type 0} (p : A → Type 0) (l : List A) (x : ℕ) (d : A) → All p l → x < length l → p (get_or l x d)
unfolding All
all_get p [] x d a h = absurd (not-suc-le-zero h)
all_get p (y ∷ l) zero d a h = a.0
all_get p (y ∷ l) (suc x) d a h = all_get p l x d a.1 (le_of_suc-le-suc h)

pub all_in : {A : Type 0} (p : A → Type 0) (l : List A) → ((x : A) → In x l → p x) → All p l
unfolding All In
all_in p [] f = tt
all_in p (x ∷ l) f = (f x (inl refl), all_in p l (λ y h. f y (inr h)))

pub all_at : {A : Type 0} (p : A → Type 0) (l : List A) → All p l → (x : A) → In x l → p x
unfolding All In
all_at p [] a x h = absurd h
all_at p (y ∷ l) a x (inl e) = subst p (sym e) a.0
all_at p (y ∷ l) a x (inr h) = all_at p l a.1 x h

-- ---- what was stored is read back

point_eq : (p q : Point3) → p.x ≡ q.x → p.y ≡ q.y → p.z ≡ q.z → p ≡ q
point_eq p q a b c = λ i. record { x = a i; y = b i; z = c i }

plane_eq : (p q : Plane) → p.frame.origin ≡ q.frame.origin → p.frame.x ≡ q.frame.x → p.frame.y ≡ q.frame.y → p.frame.z ≡ q.frame.z → p.mark ≡ q.mark → p ≡ q
plane_eq p q a b c d e = λ i. record { frame = record { origin = a i; x = b i; y = c i; z = d i }; mark = e i }

face_eq : (p q : Face) → p.plane ≡ q.plane → p.points ≡ q.points → p ≡ q
face_eq p q a b = λ i. record { plane = a i; points = b i }

point_back : (a : List Float) (p : Point3) (r : List Float) (i : ℕ) → i ≡ length a → point_at (a ++ (floats p ++ r)) i ≡ p
point_back a p r i e =
    let f : (n : ℕ) → get_or (a ++ (floats p ++ r)) (i + n) nan ≡ get_or (floats p ++ r) n nan = λ n. rw e (get_or-append-add a (floats p ++ r) n nan) in
    let z : get_or (a ++ (floats p ++ r)) i nan ≡ p.x = ap (λ k. get_or (a ++ (floats p ++ r)) k nan) (sym (add-zero i)) ∙ f 0 in
    point_eq (point_at (a ++ (floats p ++ r)) i) p z (f 1) (f 2)

points_back : (a : List Float) (l : List Point3) (b : List Float) (i : ℕ) → i ≡ length a → points_at (a ++ (floats_of l ++ b)) i (length l) ≡ l
unfolding points_at
points_back a [] b i e = refl
points_back a (p ∷ l) b i e =
    let h = point_back a p (floats_of l ++ b) i e in
    let k : i + 3 ≡ length (a ++ floats p) = rw (e, length-append) refl in
    let t = points_back (a ++ floats p) l b (i + 3) k in
    let s : (a ++ floats p) ++ (floats_of l ++ b) ≡ a ++ (floats p ++ (floats_of l ++ b)) = append_assoc a (floats p) (floats_of l ++ b) in
    ap (λ q. q ∷ points_at (a ++ (floats p ++ (floats_of l ++ b))) (i + 3) (length l)) h ∙ ap (λ q. p ∷ q) (ap (λ m. points_at m (i + 3) (length l)) (sym s) ∙ t)

pub plane_back : (a : List Float) (w : Plane) (r : List Float) (i : ℕ) → i ≡ length a → plane_at (a ++ (plane_floats w ++ r)) i ≡ w
plane_back a w r i e =
    let f = w.frame in
    let at : (b : List Float) (p : Point3) (q : List Float) (k : ℕ) → k ≡ length b → b ++ (floats p ++ q) ≡ a ++ (plane_floats w ++ r) → point_at (a ++ (plane_floats w ++ r)) k ≡ p =
    λ b p q k h g. ap (λ m. point_at m k) (sym g) ∙ point_back b p q k h in
    let o = at a f.origin (floats f.x ++ floats f.y ++ floats f.z ++ ((w.mark ∷ []) ++ r)) i e refl in
    let x = at (a ++ floats f.origin) f.x (floats f.y ++ floats f.z ++ ((w.mark ∷ []) ++ r)) (i + 3) (rw (e, length-append) refl) (append_assoc a (floats f.origin) _) in
    let y = at (a ++ (floats f.origin ++ floats f.x)) f.y (floats f.z ++ ((w.mark ∷ []) ++ r)) (i + 6) (rw (e, length-append) refl) (append_assoc a (floats f.origin ++ floats f.x) _) in
    let z = at (a ++ (floats f.origin ++ floats f.x ++ floats f.y)) f.z ((w.mark ∷ []) ++ r) (i + 9) (rw (e, length-append) refl) (append_assoc a (floats f.origin ++ floats f.x ++ floats f.y) _) in
    let m : get_or (a ++ (plane_floats w ++ r)) (i + 12) nan ≡ w.mark = rw e (get_or-append-add a (plane_floats w ++ r) 12 nan) in
    plane_eq (plane_at (a ++ (plane_floats w ++ r)) i) w o x y z m

-- n points that were stored from the front on
pub points_stored : (d : List Float) (l : List Point3) → 3 * length l ≤ length d → points_at (sets d 0 (floats_of l)) 0 (length l) ≡ l
points_stored d l h =
    let k : 0 + length (floats_of l) ≤ length d = omega (arith, length_floats_of l) in
    ap (λ m. points_at m 0 (length l)) (sets-eq (floats_of l) d 0 k) ∙ points_back [] l _ 0 refl

-- the faces of a cell, from where its floats begin
pub cell_back : (a : List Float) (c : Cell) (b : List Float) (i : ℕ) → i ≡ length a → cell_at (a ++ (cell_floats c ++ b)) i (cell_counts c) ≡ c
unfolding cell_at cell_floats cell_counts
cell_back a [] b i e = refl
cell_back a (f ∷ c) b i e =
    let s1 : a ++ ((face_floats f ++ cell_floats c) ++ b) ≡ (a ++ face_floats f) ++ (cell_floats c ++ b) = simp append_assoc in
    let s2 : a ++ ((face_floats f ++ cell_floats c) ++ b) ≡ (a ++ plane_floats f.plane) ++ (floats_of f.points ++ (cell_floats c ++ b)) = simp append_assoc in
    let s3 : a ++ ((face_floats f ++ cell_floats c) ++ b) ≡ a ++ (plane_floats f.plane ++ (floats_of f.points ++ (cell_floats c ++ b))) = simp append_assoc in
    let k2 : i + 13 ≡ length (a ++ plane_floats f.plane) = rw (e, length-append) refl in
    let k1 : i + 13 + 3 * length f.points ≡ length (a ++ face_floats f) = omega (arith, e, length-append a (face_floats f), length_floats_of f.points) in
    let h : plane_at (a ++ (cell_floats (f ∷ c) ++ b)) i ≡ f.plane = ap (λ m. plane_at m i) s3 ∙ plane_back a f.plane (floats_of f.points ++ (cell_floats c ++ b)) i e in
    let p : points_at (a ++ (cell_floats (f ∷ c) ++ b)) (i + 13) (length f.points) ≡ f.points =
    ap (λ m. points_at m (i + 13) (length f.points)) s2 ∙ points_back (a ++ plane_floats f.plane) f.points (cell_floats c ++ b) (i + 13) k2 in
    let t : cell_at (a ++ (cell_floats (f ∷ c) ++ b)) (i + 13 + 3 * length f.points) (cell_counts c) ≡ c =
    ap (λ m. cell_at m (i + 13 + 3 * length f.points) (cell_counts c)) s1 ∙ cell_back (a ++ face_floats f) c b (i + 13 + 3 * length f.points) k1 in
    let g : ◌≡◌ {A = Face} (face_at (a ++ (cell_floats (f ∷ c) ++ b)) i (length f.points)) f = face_eq _ f h p in
    cc (g, t)

-- a cell that was stored at a place
pub cell_stored : (d : List Float) (at : ℕ) (c : Cell) → at + length (cell_floats c) ≤ length d → cell_at (sets d at (cell_floats c)) at (cell_counts c) ≡ c
cell_stored d at c h =
    let k : at ≡ length (take at d) = sym (length-take at d ∙ omega arith) in
    let e : sets d at (cell_floats c) ≡ take at d ++ (cell_floats c ++ drop (at + length (cell_floats c)) d) =
    sets-eq (cell_floats c) d at h ∙ append_assoc (take at d) (cell_floats c) (drop (at + length (cell_floats c)) d) in
    ap (λ m. cell_at m at (cell_counts c)) e ∙ cell_back (take at d) c (drop (at + length (cell_floats c)) d) at k

-- ---- one point more at the front of a slice

pub get_d_sets_before : (s : List Float) (i j : ℕ) (vs : List Float) (d : Float) → j < i → get_or (sets s i vs) j d ≡ get_or s j d
get_d_sets_before s i j [] d h = refl
get_d_sets_before s i j (v ∷ vs) d h =
    get_d_sets_before (set s i v) (suc i) j vs d (omega arith) ∙ get_or-set_other s i j v d (λ e. omega (arith, e))

pub points_before : (s : List Float) (i n j : ℕ) (vs : List Float) → i + 3 * n ≤ j → points_at (sets s j vs) i n ≡ points_at s i n
unfolding points_at
points_before s i zero j vs h = refl
points_before s i (suc n) j vs h =
    let x = get_d_sets_before s j i vs nan (omega arith) in
    let y = get_d_sets_before s j (i + 1) vs nan (omega arith) in
    let z = get_d_sets_before s j (i + 2) vs nan (omega arith) in
    let p : point_at (sets s j vs) i ≡ point_at s i = λ k. record { x = x k; y = y k; z = z k } in
    cc (p, points_before s (i + 3) n j vs (omega arith))

pub points_put : (s : List Float) (n : ℕ) (q : Point3) → 3 * n + 3 ≤ length s → points_at (sets s (3 * n) (floats q)) 0 (n + 1) ≡ points_at s 0 n ++ (q ∷ [])
points_put s n q h =
    M.points_more (sets s (3 * n) (floats q)) 0 n
    ∙ ap (λ l. l ++ (point_at (sets s (3 * n) (floats q)) (0 + 3 * n) ∷ [])) (points_before s 0 n (3 * n) (floats q) (omega arith))
    ∙ ap (λ k. points_at s 0 n ++ (point_at (sets s (3 * n) (floats q)) k ∷ [])) (omega arith)
    ∙ ap (λ p. points_at s 0 n ++ (p ∷ [])) (point_stored s (3 * n) q h)

-- ---- a walk round the points in a slice: the next edge and the rest

abbrev pair : Point3 → Point3 → Pair Point3
pair a b = record { from = a; to = b }

pub next_corner : (s : List Float) (at n i : ℕ) → i < n →
    drop i (cyclic (points_at s at n)) ≡ record { from = point_at s (at + 3 * i); to = point_at s (at + 3 * ((i + 1) % n)) } ∷ drop (i + 1) (cyclic (points_at s at n))
next_corner s at n i h =
    let d = point_at s at in
    let len = length_points_at s at n in
    let m : i < length (points_at s at n) = omega (arith, len) in
    let e1 : get_or (points_at s at n) i d ≡ point_at s (at + 3 * i) = point_of_lem s at n i d h in
    let e2 : get_or (points_at s at n) ((i + 1) % length (points_at s at n)) d ≡ point_at s (at + 3 * ((i + 1) % n)) =
    ap (λ k. get_or (points_at s at n) ((i + 1) % k) d) len ∙ point_of_lem s at n ((i + 1) % n) d (mod-lt (i + 1) (omega arith)) in
    next_pair (points_at s at n) i d m
    ∙ ap (λ a. pair a (get_or (points_at s at n) ((i + 1) % length (points_at s at n)) d) ∷ drop (i + 1) (cyclic (points_at s at n))) e1
    ∙ ap (λ b. pair (point_at s (at + 3 * i)) b ∷ drop (i + 1) (cyclic (points_at s at n))) e2

pub round_done : (s : List Float) (at n i : ℕ) → n ≤ i → drop i (cyclic (points_at s at n)) ≡ []
round_done s at n i h =
    let k : length (cyclic (points_at s at n)) ≤ i = omega (arith, length_cyclic (points_at s at n), length_points_at s at n) in
    drop_of_length-le (cyclic (points_at s at n)) k
