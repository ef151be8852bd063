-- Laws of the planes of two cells, and of the pieces, in the words of the code.
use Rattle.std.specs.Prelude.{◌≡◌, refl, List, [], ◌∷◌, ◌++◌, ℕ, zero, suc, ◌+◌, ◌*◌, ◌≤◌, ◌<◌, length, drop, Float}
use Rattle.std.proofs.Common.{sym, ap, ◌∙◌, subst, append_assoc, arith, length-append}
use Rattle.std.proofs.lemmas.List.Edits.{sets, sets-eq}
use Rattle.refusal.specs.Outcome.{Outcome, then}
use Rattle.space.specs.declared.Precision.{Precision}
use Rattle.space.specs.Shapes.{Face, Cell}
use Rattle.room.specs.Rooms.{plane_floats, plane_at}
use Rattle.room.specs.Laws.{sets_append, plane_back}
use Rattle.stack.specs.declared.Stack.{Stack}
use Rattle.stack.specs.Stacks.{list_at, Listed, Places}
use Rattle.stack.specs.Laws.{listed_is}
use Rattle.job.specs.declared.Operation.{Operation}
use Rattle.cells.specs.Cells.{cells}
use Rattle.cells.specs.Rests.{Place}
use Rattle.splits.specs.Planes.{split_all, planes_at, planes_floats, planes_of}
use Rattle.pieces.specs.Pieces.{pieces_of}

-- ---- planes that were stored are read back

length_planes : (c : Cell) → length (planes_floats c) ≡ 13 * length c
unfolding planes_floats
length_planes [] = refl
length_planes (f ∷ c) = omega (arith, length_planes c)

-- the two cells' planes, one behind the other
pub planes_put : (a b : Cell) (faces : ℕ) (p₀ p p' : List Float) → length a ≡ faces → p ≡ sets p₀ (13 * 0) (planes_floats a) → p' ≡ sets p (13 * faces) (planes_floats b) →
    p' ≡ sets p₀ 0 (planes_floats a ++ planes_floats b)
planes_put a b faces p₀ p p' h e g =
    let k : 13 * faces ≡ 0 + length (planes_floats a) = omega (arith, length_planes a) in
    let z : 13 * 0 ≡ 0 = omega arith in
    g ∙ ap (λ x. sets x (13 * faces) (planes_floats b)) (e ∙ ap (λ i. sets p₀ i (planes_floats a)) z) ∙ ap (λ i. sets (sets p₀ 0 (planes_floats a)) i (planes_floats b)) k
    ∙ sets_append p₀ 0 (planes_floats a) (planes_floats b)

planes_back : (x : List Float) (c : Cell) (y : List Float) (i : ℕ) → i ≡ length x → planes_at (x ++ (planes_floats c ++ y)) i (length c) ≡ planes_of c
unfolding planes_at planes_floats planes_of
planes_back x [] y i e = refl
planes_back x (f ∷ c) y i e =
    let w = plane_floats f.plane in
    let s1 : x ++ ((plane_floats f.plane ++ planes_floats c) ++ y) ≡ x ++ (plane_floats f.plane ++ (planes_floats c ++ y)) = refl in
    let s2 : x ++ (plane_floats f.plane ++ (planes_floats c ++ y)) ≡ (x ++ plane_floats f.plane) ++ (planes_floats c ++ y) = sym (append_assoc x (plane_floats f.plane) (planes_floats c ++ y)) in
    let k : i + 13 ≡ length (x ++ plane_floats f.plane) = omega (arith, e, length-append x (plane_floats f.plane)) in
    ap (λ p. p ∷ planes_at (x ++ ((w ++ planes_floats c) ++ y)) (i + 13) (length c)) (ap (λ s. plane_at s i) s1 ∙ plane_back x f.plane (planes_floats c ++ y) i e)
    ∙ ap (λ s. f.plane ∷ planes_at s (i + 13) (length c)) (s1 ∙ s2)
    ∙ ap (λ l. f.plane ∷ l) (planes_back (x ++ w) c y (i + 13) k)

floats_both : (a b : Cell) → planes_floats (a ++ b) ≡ planes_floats a ++ planes_floats b
unfolding planes_floats
floats_both [] b = refl
floats_both (f ∷ a) b = ap (λ l. plane_floats f.plane ++ l) (floats_both a b)

planes_both : (a b : Cell) → planes_of (a ++ b) ≡ planes_of a ++ planes_of b
unfolding planes_of
planes_both [] b = refl
planes_both (f ∷ a) b = ap (λ l. f.plane ∷ l) (planes_both a b)

planes_stored : (a b : Cell) (p₀ p : List Float) (n : ℕ) → n ≡ length a + length b → 13 * n ≤ length p₀ → p ≡ sets p₀ 0 (planes_floats a ++ planes_floats b) → planes_at p 0 n ≡ planes_of a ++ planes_of b
planes_stored a b p₀ p n e h g =
    let m : n ≡ length (a ++ b) = omega (arith, e, length-append a b) in
    let u : 0 + length (planes_floats (a ++ b)) ≤ length p₀ = omega (arith, length_planes (a ++ b), m) in
    ap (λ x. planes_at x 0 n) (g ∙ ap (sets p₀ 0) (sym (floats_both a b)) ∙ sets-eq (planes_floats (a ++ b)) p₀ 0 u) ∙ ap (planes_at (planes_floats (a ++ b) ++ drop (0 + length (planes_floats (a ++ b))) p₀) 0) m
    ∙ planes_back [] (a ++ b) (drop (0 + length (planes_floats (a ++ b))) p₀) 0 refl ∙ planes_both a b

-- ---- the pieces

pub place_of : (room : ℕ) (d : List Float) (n z : List ℕ) → Places room d n z → Place room d n
place_of room d n z p = record { place = omega (arith, p.place); slots = omega (arith, p.slots) }

pub pieces_listed : (op : Operation) (t : Precision) (room : ℕ) (a b : Cell) (faces many : ℕ) (p₀ p : List Float) (list r : Stack) (d : List Float) (m z : List ℕ) (d' : List Float) (m' z' : List ℕ) →
    length a ≡ faces → length b ≡ many → faces ≤ 128 → many ≤ 128 → 3328 ≤ length p₀ → p ≡ sets p₀ 0 (planes_floats a ++ planes_floats b) → Listed room (cells op t room a b) list d m z →
    Listed room (then (list_at list d m z) (split_all t room (planes_at p 0 (faces + many)))) r d' m' z' → Listed room (pieces_of op t room a b) r d' m' z'
unfolding pieces_of
pieces_listed op t room a b faces many p₀ p list r d m z d' m' z' ea eb ha hb h g l k =
    subst (λ x. Listed room x r d' m' z')
    (ap (λ x. then x (split_all t room (planes_at p 0 (faces + many)))) (listed_is room (cells op t room a b) list d m z l)
    ∙ ap (λ x. then (cells op t room a b) (split_all t room x)) (planes_stored a b p₀ p (faces + many) (omega (arith, ea, eb)) (omega arith) g)) k
