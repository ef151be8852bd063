-- Laws of `indexed` that an offset needs: how many points and places there are, and that they are read back from their slices.
use Rattle.std.specs.Prelude.{◌≡◌, refl, List, [], ◌∷◌, ◌++◌, map, ℕ, ◌+◌, ◌*◌, ◌≤◌, length, take, drop, eqb, Float, Ok, Err}
use Rattle.std.proofs.Common.{sym, ap, ◌∙◌, append_assoc, append-nil, arith, length-append, length-take, take_at, drop_at}
use Rattle.std.proofs.lemmas.List.Edits.{sets, sets-eq}
use Rattle.refusal.specs.declared.Refusal.{Refusal}
use Rattle.refusal.specs.Outcome.{Outcome, walk}
use Rattle.refusal.specs.Laws.{same_ok, then_ok}
use Rattle.space.specs.declared.Point3.{Point3}
use Rattle.space.specs.declared.Precision.{Precision}
use Rattle.space.specs.Shapes.{Cell, Solid, corners}
use Rattle.polygon.specs.Memory.{floats_of, points_at}
use Rattle.room.specs.Rooms.{cell_counts, cell_at, counts_at}
use Rattle.room.specs.Laws.{corners_cons, corners_none, points_stored, cell_counts_lem}
use Rattle.indexed.specs.Indexed.{Search, place_in, Places, placed, index_point, index_points, with_face, index_face, indexed}
use Rattle.indexed.specs.Stored.{flat, Stored}
use Rattle.indexed.proofs.Laws.{joined_most}
use Rattle.solids.specs.Frames.{faces_at, Placing}

-- ---- how many there are

points_few : (find : Search) (l : List Point3) (a b : Places) → walk (index_point find) a l ≡ Ok b → (length b.places ≡ length a.places + length l) × (length b.points ≤ length a.points + length l)
unfolding walk index_point
points_few find [] a b e = (ap (λ x. length x.places) (sym (same_ok e)) ∙ omega arith, (let z = ap (λ x. length x.points) (same_ok e) in omega arith))
points_few find (q ∷ l) a b e =
    let f = then_ok (index_point find a q) (λ s. walk (index_point find) s l) b e in
    let g = then_ok (find q a.points) (λ i. Ok (placed a q i)) f.0 f.1 in
    let s = same_ok g.2 in
    let r = points_few find l f.0 b f.2 in
    let u : length f.0.places ≡ length a.places + 1 = ap (λ x. length x.places) (sym s) ∙ length-append a.places (g.0 ∷ []) in
    let v : length f.0.points ≤ length a.points + 1 = omega (arith, ap (λ x. length x.points) s, joined_most a.points q (eqb g.0 (length a.points))) in
    (omega (arith, r.0, u), omega (arith, r.1, v))

abbrev lengths : List (List ℕ) → List ℕ
lengths l = map length l

lengths_snoc : (l : List (List ℕ)) (f : List ℕ) → lengths (l ++ (f ∷ [])) ≡ lengths l ++ (length f ∷ [])
lengths_snoc [] f = refl
lengths_snoc (g ∷ l) f = ap (λ x. length g ∷ x) (lengths_snoc l f)

faces_few : (find : Search) (c : Cell) (a b : Solid) → walk (index_face find) a c ≡ Ok b → (lengths b.faces ≡ lengths a.faces ++ cell_counts c) × (length b.points ≤ length a.points + corners 0 c)
unfolding walk index_face cell_counts
faces_few find [] a b e = (ap (λ x. lengths x.faces) (sym (same_ok e)) ∙ sym (append-nil (lengths a.faces)), (let z = ap (λ x. length x.points) (same_ok e) in omega (arith, corners_none)))
faces_few find (f ∷ c) a b e =
    let g = then_ok (index_face find a f) (λ s. walk (index_face find) s c) b e in
    let h = then_ok (index_points find a.points f.points) (λ r. Ok (with_face a r)) g.0 g.1 in
    let s = same_ok h.2 in
    let p = points_few find f.points (record { points = a.points; places = [] }) h.0 h.1 in
    let r = faces_few find c g.0 b g.2 in
    let n : length h.0.places ≡ length f.points = p.0 ∙ omega arith in
    let u : lengths g.0.faces ≡ lengths a.faces ++ (length f.points ∷ []) = ap (λ x. lengths x.faces) (sym s) ∙ lengths_snoc a.faces h.0.places ∙ ap (λ x. lengths a.faces ++ (x ∷ [])) n in
    (r.0 ∙ ap (λ x. x ++ cell_counts c) u ∙ append_assoc (lengths a.faces) (length f.points ∷ []) (cell_counts c), omega (arith, r.1, p.1, ap (λ x. length x.points) s, corners_cons f c))

-- ---- a run that was stored is read back

pub run_back : {A : Type 0} (l : List A) (k : ℕ) (v : List A) → k + length v ≤ length l → take (length v) (drop k (sets l k v)) ≡ v
run_back l k v h =
    let r = drop (k + length v) l in
    let e : sets l k v ≡ take k l ++ (v ++ drop (k + length v) l) = sets-eq v l k h ∙ append_assoc (take k l) v (drop (k + length v) l) in
    ap (λ z. take (length v) (drop k z)) e ∙ ap (take (length v)) (drop_at (take k l) (v ++ drop (k + length v) l) k (length-take k l ∙ omega arith)) ∙ take_at v (drop (k + length v) l) (length v) refl

faces_back : (a : List ℕ) (fs : List (List ℕ)) (b : List ℕ) (k : ℕ) → k ≡ length a → faces_at (a ++ (flat fs ++ b)) k (lengths fs) ≡ fs
unfolding faces_at flat
faces_back a [] b k e = refl
faces_back a (f ∷ fs) b k e =
    let x : (f ++ flat fs) ++ b ≡ f ++ (flat fs ++ b) = append_assoc f (flat fs) b in
    let y : a ++ (f ++ (flat fs ++ b)) ≡ (a ++ f) ++ (flat fs ++ b) = sym (append_assoc a f (flat fs ++ b)) in
    let z : counts_at (a ++ (f ++ (flat fs ++ b))) k (length f) ≡ f = ap (take (length f)) (drop_at a (f ++ (flat fs ++ b)) k (sym e)) ∙ take_at f (flat fs ++ b) (length f) refl in
    ap (λ l. counts_at (a ++ l) k (length f) ∷ faces_at (a ++ l) (k + length f) (lengths fs)) x
    ∙ ap (λ l. l ∷ faces_at (a ++ (f ++ (flat fs ++ b))) (k + length f) (lengths fs)) z
    ∙ ap (λ l. f ∷ faces_at l (k + length f) (lengths fs)) y
    ∙ ap (λ l. f ∷ l) (faces_back (a ++ f) fs b (k + length f) (omega (arith, e, length-append a f)))

abbrev total : List ℕ → ℕ
total [] = 0
total (n ∷ ns) = n + total ns

flat_total : (fs : List (List ℕ)) → length (flat fs) ≡ total (lengths fs)
unfolding flat
flat_total [] = refl
flat_total (f ∷ fs) = length-append f (flat fs) ∙ ap (λ x. length f + x) (flat_total fs)

cell_total : (c : Cell) → total (cell_counts c) ≡ corners 0 c
unfolding cell_counts
cell_total [] = sym corners_none
cell_total (f ∷ c) = ap (λ x. length f.points + x) (cell_total c) ∙ sym (corners_cons f c)

-- cells with the same numbers of corners have as many
pub corners_same : (a b : Cell) → cell_counts a ≡ cell_counts b → corners 0 a ≡ corners 0 b
corners_same a b e = sym (cell_total a) ∙ ap total e ∙ cell_total b

-- ---- the cell in its room

placing_total : (ns : List ℕ) (k m : ℕ) → k + total ns ≤ m → Placing ns k m
unfolding Placing
placing_total [] k m h = omega arith
placing_total (n ∷ ns) k m h = placing_total ns (k + n) m (omega arith)

pub placing_fits : (s : List Float) (at : ℕ) (ns : List ℕ) (m : ℕ) → corners 0 (cell_at s at ns) ≤ m → Placing ns 0 m
placing_fits s at ns m h = placing_total ns 0 m (omega (arith, cell_total (cell_at s at ns), ap total (cell_counts_lem s at ns)))

-- ---- what an answer of `indexed` says

pub stored_made : (o : Outcome Solid) (p₀ : List Float) (i₀ : List ℕ) (p : List Float) (i : List ℕ) (r : Outcome ℕ) (m : ℕ) → Stored o p₀ i₀ p i r → r ≡ Ok m →
    (s : Solid) × (o ≡ Ok s) × (m ≡ length s.points) × (p ≡ sets p₀ 0 (floats_of s.points)) × (i ≡ sets i₀ 0 (flat s.faces))
unfolding Stored
stored_made (Ok s) p₀ i₀ p i r m h e = (s, refl, (let a = h.0 in cc), h.1, h.2)
stored_made (Err x) p₀ i₀ p i r m h e = absurd (let a = h.0 in let z : ◌≡◌ {A = ℕ} 0 1 = cc in omega arith)

pub stored_not : (o : Outcome Solid) (p₀ : List Float) (i₀ : List ℕ) (p : List Float) (i : List ℕ) (r : Outcome ℕ) (x : Refusal) → Stored o p₀ i₀ p i r → r ≡ Err x → o ≡ Err x
unfolding Stored
stored_not (Ok s) p₀ i₀ p i r x h e = absurd (let a = h.0 in let z : ◌≡◌ {A = ℕ} 0 1 = cc in omega arith)
stored_not (Err y) p₀ i₀ p i r x h e = let a = h.0 in let b : y ≡ x = cc in ap Err b

-- the search of `indexed`: the first near point
abbrev first : Precision → Search
first t q l = place_in t q 0 l

pub indexed_few : (t : Precision) (c : Cell) (s : Solid) → indexed t c ≡ Ok s → length s.points ≤ corners 0 c
unfolding indexed
indexed_few t c s e = omega (arith, (faces_few (first t) c (record { points = []; faces = [] }) s e).1)

pub indexed_counts : (t : Precision) (c : Cell) (s : Solid) → indexed t c ≡ Ok s → map length s.faces ≡ cell_counts c
unfolding indexed
indexed_counts t c s e = (faces_few (first t) c (record { points = []; faces = [] }) s e).0

pub indexed_points : (p : List Float) (l : List Point3) (m n : ℕ) → m ≡ length l → length l ≤ n → 3 * n ≤ length p → points_at (sets p 0 (floats_of l)) 0 m ≡ l
indexed_points p l m n e h g = ap (points_at (sets p 0 (floats_of l)) 0) e ∙ points_stored p l (omega arith)

pub indexed_faces : (t : Precision) (f : List Float) (at : ℕ) (ns : List ℕ) (s : Solid) (i : List ℕ) → indexed t (cell_at f at ns) ≡ Ok s → corners 0 (cell_at f at ns) ≤ length i → faces_at (sets i 0 (flat s.faces)) 0 ns ≡ s.faces
indexed_faces t f at ns s i e h =
    let l : lengths s.faces ≡ ns = indexed_counts t (cell_at f at ns) s e ∙ cell_counts_lem f at ns in
    let w : 0 + length (flat s.faces) ≤ length i = omega (arith, flat_total s.faces, ap total (l ∙ sym (cell_counts_lem f at ns)), cell_total (cell_at f at ns)) in
    ap (faces_at (sets i 0 (flat s.faces)) 0) (sym l) ∙ ap (λ z. faces_at z 0 (lengths s.faces)) (sets-eq (flat s.faces) i 0 w) ∙ faces_back [] s.faces (drop (0 + length (flat s.faces)) i) 0 refl
