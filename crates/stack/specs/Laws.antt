-- Laws of lists of cells in slices: what was stored is read back, one cell more lengthens the list, and it stays within bounds.
use Rattle.std.specs.Prelude.{◌≡◌, refl, Bool, true, false, ◌||◌, List, [], ◌∷◌, ◌++◌, ℕ, suc, ◌+◌, ◌*◌, ◌≤◌, ◌<◌, length, take, drop, set, get_or, ltb, Float, Ok, Err}
use Rattle.std.proofs.Common.{sym, ap, ◌∙◌, subst, append_assoc, append-nil, arith, add-one, length-append, length-set, take_at, drop_at, take-suc, length-take-le, ltb-true, ltb-false, lt-ltb, le-ltb}
use Rattle.std.proofs.lemmas.List.Edits.{sets, sets-eq}
use Rattle.std.proofs.lemmas.Bool.{lt-leb}
use Rattle.refusal.specs.declared.Refusal.{Refusal}
use Rattle.refusal.specs.Outcome.{Outcome, then, unless, walk, heard}
use Rattle.refusal.specs.Laws.{same_ok, never_ok}
use Rattle.space.specs.Shapes.{Face, Cell, corners, all_corners}
use Rattle.polygon.specs.Members.{All}
use Rattle.room.specs.Rooms.{cell_floats, cell_counts, cell_at}
use Rattle.room.specs.Laws.{sets_append, corners_cons, corners_snoc, corners_none, length_cell_floats, length_cell_counts, cell_back, all_snoc}
use Rattle.cell.specs.Cells.{is_full, add_face, left_cell}
use Rattle.clip.specs.Clips.{Wide}
use Rattle.stack.specs.declared.Stack.{Stack}
use Rattle.stack.specs.Stacks.{cells_floats, cells_counts, cells_sizes, behind, cells_at, stack_of, list_at, Front, Sound, Lies, Listed, Holds, Places, Work}

-- ---- lengths

pub all_corners_from : (n : ℕ) (cs : List Cell) → all_corners n cs ≡ n + all_corners 0 cs
unfolding all_corners
all_corners_from n [] = omega arith
all_corners_from n (c ∷ cs) = omega (arith, all_corners_from (n + corners 0 c) cs, all_corners_from (0 + corners 0 c) cs)

pub all_corners_cons : (c : Cell) (cs : List Cell) → all_corners 0 (c ∷ cs) ≡ corners 0 c + all_corners 0 cs
unfolding all_corners
all_corners_cons c cs = all_corners_from (0 + corners 0 c) cs ∙ omega arith

all_corners_none : all_corners 0 [] ≡ 0
unfolding all_corners
all_corners_none = refl

pub all_corners_snoc : (cs : List Cell) (c : Cell) → all_corners 0 (cs ++ (c ∷ [])) ≡ all_corners 0 cs + corners 0 c
all_corners_snoc [] c = omega (arith, all_corners_cons c [], all_corners_none)
all_corners_snoc (b ∷ cs) c = omega (arith, all_corners_snoc cs c, all_corners_cons b cs, all_corners_cons b (cs ++ (c ∷ [])))

pub length_cells_floats : (cs : List Cell) → length (cells_floats cs) ≡ 13 * length (cells_counts cs) + 3 * all_corners 0 cs
unfolding cells_floats cells_counts
length_cells_floats [] = omega (arith, all_corners_none)
length_cells_floats (c ∷ cs) =
    omega (arith, length_cells_floats cs, length-append (cell_floats c) (cells_floats cs), length-append (cell_counts c) (cells_counts cs), length_cell_floats c, length_cell_counts c, all_corners_cons c cs)

pub length_cells_sizes : (cs : List Cell) → length (cells_sizes cs) ≡ length cs
unfolding cells_sizes
length_cells_sizes [] = refl
length_cells_sizes (c ∷ cs) = ap suc (length_cells_sizes cs)

-- a face has three corners or more
pub wide_corners : (c : Cell) → Wide c → 3 * length c ≤ corners 0 c
unfolding All
wide_corners [] w = omega arith
wide_corners (f ∷ c) w = omega (arith, wide_corners c w.1, w.0, corners_cons f c)

sound_corners : (cs : List Cell) → All Sound cs → 3 * length (cells_counts cs) ≤ all_corners 0 cs
unfolding All cells_counts
sound_corners [] a = omega arith
sound_corners (c ∷ cs) a =
    omega (arith, sound_corners cs a.1, wide_corners c a.0.wide, length-append (cell_counts c) (cells_counts cs), length_cell_counts c, all_corners_cons c cs)

sound_faces : (cs : List Cell) → All Sound cs → length cs ≤ length (cells_counts cs)
unfolding All cells_counts
sound_faces [] a = omega arith
sound_faces (c ∷ cs) a = omega (arith, sound_faces cs a.1, a.0.some, length-append (cell_counts c) (cells_counts cs), length_cell_counts c)

-- ---- what was stored is read back

pub behind_cell : (c : Cell) (at : ℕ) → behind at (cell_counts c) ≡ at + length (cell_floats c)
unfolding behind cell_counts
behind_cell [] at = omega (arith, length_cell_floats [], corners_none)
behind_cell (f ∷ c) at =
    behind_cell c (at + 13 + 3 * length f.points)
    ∙ omega (arith, length_cell_floats c, length_cell_floats (f ∷ c), corners_cons f c)

cells_back : (a : List Float) (cs : List Cell) (b : List Float) (i : ℕ) (m : List ℕ) → i ≡ length a →
    cells_at (a ++ (cells_floats cs ++ b)) i (cells_counts cs ++ m) (cells_sizes cs) ≡ cs
unfolding cells_at cells_floats cells_counts cells_sizes
cells_back a [] b i m e = refl
cells_back a (c ∷ cs) b i m e =
    let s1 : a ++ ((cell_floats c ++ cells_floats cs) ++ b) ≡ a ++ (cell_floats c ++ (cells_floats cs ++ b)) = simp append_assoc in
    let s2 : a ++ ((cell_floats c ++ cells_floats cs) ++ b) ≡ (a ++ cell_floats c) ++ (cells_floats cs ++ b) = simp append_assoc in
    let s3 : (cell_counts c ++ cells_counts cs) ++ m ≡ cell_counts c ++ (cells_counts cs ++ m) = append_assoc (cell_counts c) (cells_counts cs) m in
    let t : take (length c) ((cell_counts c ++ cells_counts cs) ++ m) ≡ cell_counts c =
    ap (take (length c)) s3 ∙ take_at (cell_counts c) (cells_counts cs ++ m) (length c) (length_cell_counts c) in
    let u : drop (length c) ((cell_counts c ++ cells_counts cs) ++ m) ≡ cells_counts cs ++ m =
    ap (drop (length c)) s3 ∙ drop_at (cell_counts c) (cells_counts cs ++ m) (length c) (length_cell_counts c) in
    let p : i + length (cell_floats c) ≡ length (a ++ cell_floats c) = omega (arith, e, length-append a (cell_floats c)) in
    let k : cell_at (a ++ ((cell_floats c ++ cells_floats cs) ++ b)) i (cell_counts c) ≡ c =
    ap (λ x. cell_at x i (cell_counts c)) s1 ∙ cell_back a c (cells_floats cs ++ b) i e in
    let r : cells_at (a ++ ((cell_floats c ++ cells_floats cs) ++ b)) (i + length (cell_floats c)) (cells_counts cs ++ m) (cells_sizes cs) ≡ cs =
    ap (λ x. cells_at x (i + length (cell_floats c)) (cells_counts cs ++ m) (cells_sizes cs)) s2 ∙ cells_back (a ++ cell_floats c) cs b (i + length (cell_floats c)) m p in
    ap (λ x. cell_at (a ++ ((cell_floats c ++ cells_floats cs) ++ b)) i x ∷ cells_at (a ++ ((cell_floats c ++ cells_floats cs) ++ b)) (behind i x) (drop (length c) ((cell_counts c ++ cells_counts cs) ++ m)) (cells_sizes cs)) t
    ∙ ap (λ x. cell_at (a ++ ((cell_floats c ++ cells_floats cs) ++ b)) i (cell_counts c) ∷ cells_at (a ++ ((cell_floats c ++ cells_floats cs) ++ b)) (behind i (cell_counts c)) x (cells_sizes cs)) u
    ∙ ap (λ x. cell_at (a ++ ((cell_floats c ++ cells_floats cs) ++ b)) i (cell_counts c) ∷ cells_at (a ++ ((cell_floats c ++ cells_floats cs) ++ b)) x (cells_counts cs ++ m) (cells_sizes cs)) (behind_cell c i)
    ∙ ap (λ x. x ∷ cells_at (a ++ ((cell_floats c ++ cells_floats cs) ++ b)) (i + length (cell_floats c)) (cells_counts cs ++ m) (cells_sizes cs)) k
    ∙ ap (λ x. c ∷ x) r

-- the cells that stand at the front of the slices
pub cells_stored : (room : ℕ) (cs : List Cell) (d : List Float) (n z : List ℕ) → Lies room cs d n z → cells_at d 0 n (take (length cs) z) ≡ cs
cells_stored room cs d n z l =
    ap (λ x. cells_at x 0 n (take (length cs) z)) l.floats.is
    ∙ ap (λ x. cells_at (cells_floats cs ++ l.floats.tail) 0 x (take (length cs) z)) l.counts.is
    ∙ ap (cells_at (cells_floats cs ++ l.floats.tail) 0 (cells_counts cs ++ l.counts.tail)) (ap (take (length cs)) l.sizes.is ∙ take_at (cells_sizes cs) l.sizes.tail (length cs) (length_cells_sizes cs))
    ∙ cells_back [] cs l.floats.tail 0 l.counts.tail refl

-- where the verdict is fine the list is what is read
pub list_heard : (s : Stack) (d : List Float) (n z : List ℕ) → s.verdict ≡ Ok tt → list_at s d n z ≡ Ok (cells_at d 0 n (take s.cells z))
unfolding list_at heard
list_heard s d n z v = ap (λ x. heard x (cells_at d 0 n (take s.cells z))) v

-- the slices hold the list that the stack tells
pub listed_is : (room : ℕ) (o : Outcome (List Cell)) (s : Stack) (d : List Float) (n z : List ℕ) → Listed room o s d n z → list_at s d n z ≡ o
unfolding list_at heard stack_of
listed_is room (Ok cs) s d n z l =
    ap (λ x. heard x.verdict (cells_at d 0 n (take x.cells z))) l.is ∙ ap Ok (cells_stored room cs d n z (l.lies cs refl))
listed_is room (Err r) s d n z l = ap (λ x. heard x.verdict (cells_at d 0 n (take x.cells z))) l.is

pub holds : (room : ℕ) (o : Outcome (List Cell)) (s : Stack) (d : List Float) (n z : List ℕ) → Listed room o s d n z → Holds room s d n z
holds room o s d n z l = subst (λ x. Listed room x s d n z) (sym (listed_is room o s d n z l)) l

-- ---- the numbers of a stack

pub record Numbers (room : ℕ) (s : Stack) : Type 0 where
  pub fit : s.corners ≤ room
  pub wide : 3 * s.faces ≤ s.corners
  pub some : s.cells ≤ s.faces

pub numbers : (room : ℕ) (o : Outcome (List Cell)) (s : Stack) (d : List Float) (n z : List ℕ) → Listed room o s d n z → Numbers room s
unfolding stack_of
numbers room (Ok cs) s d n z l =
    let h = l.lies cs refl in
    subst (Numbers room) (sym l.is) (record { fit = h.fit; wide = sound_corners cs h.sound; some = sound_faces cs h.sound })
numbers room (Err r) s d n z l = subst (Numbers room) (sym l.is) (record { fit = omega arith; wide = omega arith; some = omega arith })

-- an empty list stands anywhere
pub listed_none : (room : ℕ) (s : Stack) (d : List Float) (n z : List ℕ) → s ≡ stack_of (Ok []) → Listed room (Ok []) s d n z
unfolding cells_floats cells_counts cells_sizes all_corners All
listed_none room s d n z e = record {
  is = e;
  lies = λ cs h. subst (λ x. Lies room x d n z) (same_ok h) (record {
    floats = record { tail = d; is = refl };
    counts = record { tail = n; is = refl };
    sizes = record { tail = z; is = refl };
    sound = tt;
    fit = omega arith;
  });
}

pub listed_refused : (room : ℕ) (r : Refusal) (s : Stack) (d : List Float) (n z : List ℕ) → s ≡ stack_of (Err r) → Listed room (Err r) s d n z
listed_refused room r s d n z e = record { is = e; lies = λ cs h. never_ok h }

-- ---- one cell more behind the others

front_more : {A : Type 0} (l s vs : List A) (i : ℕ) → i ≡ length l → i + length vs ≤ length s → Front l s → Front (l ++ vs) (sets s i vs)
front_more l s vs i e h f =
    let t : take i s ≡ l = ap (take i) f.is ∙ take_at l f.tail i (sym e) in
    record { tail = drop (i + length vs) s; is = sets-eq vs s i h ∙ ap (λ x. x ++ vs ++ drop (i + length vs) s) t }

floats_snoc : (cs : List Cell) (c : Cell) → cells_floats (cs ++ (c ∷ [])) ≡ cells_floats cs ++ cell_floats c
unfolding cells_floats
floats_snoc [] c = append-nil (cell_floats c)
floats_snoc (b ∷ cs) c = ap (λ l. cell_floats b ++ l) (floats_snoc cs c) ∙ sym (append_assoc (cell_floats b) (cells_floats cs) (cell_floats c))

pub counts_snoc : (cs : List Cell) (c : Cell) → cells_counts (cs ++ (c ∷ [])) ≡ cells_counts cs ++ cell_counts c
unfolding cells_counts
counts_snoc [] c = append-nil (cell_counts c)
counts_snoc (b ∷ cs) c = ap (λ l. cell_counts b ++ l) (counts_snoc cs c) ∙ sym (append_assoc (cell_counts b) (cells_counts cs) (cell_counts c))

pub sizes_snoc : (cs : List Cell) (c : Cell) → cells_sizes (cs ++ (c ∷ [])) ≡ cells_sizes cs ++ (length c ∷ [])
unfolding cells_sizes
sizes_snoc [] c = refl
sizes_snoc (b ∷ cs) c = ap (λ l. length b ∷ l) (sizes_snoc cs c)

-- the cell's floats and counts were put behind the list, and its number of faces too
pub lies_more : (room : ℕ) (cs : List Cell) (c : Cell) (d : List Float) (n z : List ℕ) → Lies room cs d n z → Places room d n z → Sound c →
    all_corners 0 cs + corners 0 c ≤ room →
    Lies room (cs ++ (c ∷ [])) (sets d (13 * length (cells_counts cs) + 3 * all_corners 0 cs) (cell_floats c)) (sets n (length (cells_counts cs)) (cell_counts c)) (set z (length cs) (length c))
lies_more room cs c d n z l p s h =
    let w = wide_corners c s.wide in
    let v = sound_corners cs l.sound in
    let u = sound_faces cs l.sound in
    let k = length_cell_counts c in
    let a : 13 * length (cells_counts cs) + 3 * all_corners 0 cs + length (cell_floats c) ≤ length d = omega (arith, length_cell_floats c, p.place) in
    let b : length (cells_counts cs) + length (cell_counts c) ≤ length n = omega (arith, p.slots) in
    let e : length cs + 1 ≤ length z = omega (arith, p.seats) in
    record {
      floats = subst (λ x. Front x (sets d (13 * length (cells_counts cs) + 3 * all_corners 0 cs) (cell_floats c))) (sym (floats_snoc cs c)) (front_more (cells_floats cs) d (cell_floats c) (13 * length (cells_counts cs) + 3 * all_corners 0 cs) (sym (length_cells_floats cs)) a l.floats);
      counts = subst (λ x. Front x (sets n (length (cells_counts cs)) (cell_counts c))) (sym (counts_snoc cs c)) (front_more (cells_counts cs) n (cell_counts c) (length (cells_counts cs)) refl b l.counts);
      sizes = subst (λ x. Front x (set z (length cs) (length c))) (sym (sizes_snoc cs c)) (front_more (cells_sizes cs) z (length c ∷ []) (length cs) (sym (length_cells_sizes cs)) e l.sizes);
      sound = all_snoc Sound cs c l.sound s;
      fit = omega (arith, all_corners_snoc cs c);
    }

-- ---- the same, said of equal things

pub listed_same : (room : ℕ) {o o' : Outcome (List Cell)} {s s' : Stack} {d d' : List Float} {n n' z z' : List ℕ} → o ≡ o' → s ≡ s' → d ≡ d' → n ≡ n' → z ≡ z' →
    Listed room o s d n z → Listed room o' s' d' n' z'
listed_same room {o} {o'} {s} {s'} {d} {d'} {n} {n'} {z} {z'} eo es ed en ez l =
    subst (λ x. Listed room o' s' d' n' x) ez
    (subst (λ x. Listed room o' s' d' x z) en
    (subst (λ x. Listed room o' s' x n z) ed
    (subst (λ x. Listed room o' x d n z) es
    (subst (λ x. Listed room x s d n z) eo l))))

-- ---- a whole cell, added face by face

add_one_face : (room : ℕ) (acc : Cell) (f : Face) → length acc < 128 → (b : Bool) → ltb room (corners 0 acc + length f.points) ≡ b →
    add_face room acc f ≡ unless b 12 (Ok (acc ++ (f ∷ [])))
unfolding add_face is_full
add_one_face room acc f h b e =
    ap (λ x. unless (x || ltb room (corners 0 acc + length f.points)) 12 (Ok (acc ++ (f ∷ [])))) (lt-leb 128 (length acc) h)
    ∙ ap (λ x. unless x 12 (Ok (acc ++ (f ∷ [])))) e

left_turn : (room : ℕ) (acc : Cell) (f : Face) (c : Cell) → length acc + suc (length c) ≤ 128 →
    (length (acc ++ (f ∷ [])) + length c ≤ 128 → corners 0 (acc ++ (f ∷ [])) ≤ room →
    walk (add_face room) (acc ++ (f ∷ [])) c ≡ unless (ltb room (corners 0 (acc ++ (f ∷ [])) + corners 0 c)) 12 (Ok ((acc ++ (f ∷ [])) ++ c))) →
    (b : Bool) → ltb room (corners 0 acc + length f.points) ≡ b →
    then (add_face room acc f) (λ x. walk (add_face room) x c) ≡ unless (ltb room (corners 0 acc + corners 0 (f ∷ c))) 12 (Ok (acc ++ (f ∷ c)))
left_turn room acc f c h rest true e =
    let m : room < corners 0 acc + corners 0 (f ∷ c) = omega (arith, ltb-true room (corners 0 acc + length f.points) e, corners_cons f c) in
    ap (λ o. then o (λ x. walk (add_face room) x c)) (add_one_face room acc f (omega arith) true e) ∙ ap (λ b. unless b 12 (Ok (acc ++ (f ∷ c)))) (sym (lt-ltb room (corners 0 acc + corners 0 (f ∷ c)) m))
left_turn room acc f c h rest false e =
    let m : corners 0 (acc ++ (f ∷ [])) ≤ room = omega (arith, ltb-false room (corners 0 acc + length f.points) e, corners_snoc acc f) in
    let k : length (acc ++ (f ∷ [])) + length c ≤ 128 = omega (arith, length-append acc (f ∷ [])) in
    let q : corners 0 (acc ++ (f ∷ [])) + corners 0 c ≡ corners 0 acc + corners 0 (f ∷ c) = omega (arith, corners_snoc acc f, corners_cons f c) in
    ap (λ o. then o (λ x. walk (add_face room) x c)) (add_one_face room acc f (omega arith) false e)
    ∙ rest k m
    ∙ ap (λ x. unless (ltb room x) 12 (Ok ((acc ++ (f ∷ [])) ++ c))) q
    ∙ ap (λ x. unless (ltb room (corners 0 acc + corners 0 (f ∷ c))) 12 (Ok x)) (append_assoc acc (f ∷ []) c)

-- a cell that has no more than 128 faces is added where its corners fit
left_from : (room : ℕ) (acc c : Cell) → length acc + length c ≤ 128 → corners 0 acc ≤ room →
    walk (add_face room) acc c ≡ unless (ltb room (corners 0 acc + corners 0 c)) 12 (Ok (acc ++ c))
unfolding walk
left_from room acc [] h g =
    ap (λ x. Ok x) (sym (append-nil acc)) ∙ ap (λ b. unless b 12 (Ok (acc ++ []))) (sym (le-ltb room (corners 0 acc + corners 0 []) (omega (arith, corners_none))))
left_from room acc (f ∷ c) h g =
    left_turn room acc f c (omega arith) (λ k m. left_from room (acc ++ (f ∷ [])) c k m) (ltb room (corners 0 acc + length f.points)) refl

pub left_whole : (room : ℕ) (c : Cell) → length c ≤ 128 → left_cell room c ≡ unless (ltb room (corners 0 c)) 12 (Ok c)
unfolding left_cell
left_whole room c h =
    left_from room [] c (omega arith) (omega (arith, corners_none)) ∙ ap (λ x. unless (ltb room x) 12 (Ok c)) (omega (arith, corners_none))

-- ---- a copy from the front

pub record Copied {A : Type 0} (d₀ s : List A) (n : ℕ) (d : List A) (i : ℕ) : Type 0 where
  pub upto : i ≤ n
  pub size : length d ≡ length d₀
  pub is : d ≡ sets d₀ 0 (take i s)

pub copied_start : {A : Type 0} (d s : List A) (n : ℕ) → Copied d s n d 0
copied_start d s n = record { upto = omega arith; size = refl; is = refl }

pub copied_step : {A : Type 0} (d₀ s : List A) (n : ℕ) (d : List A) (i : ℕ) (v : A) → n ≤ length s → i < n → Copied d₀ s n d i → Copied d₀ s n (set d i (get_or s i v)) (i + 1)
copied_step d₀ s n d i v h k c =
    let e : 0 + length (take i s) ≡ i = omega (arith, length-take-le i s (omega arith)) in
    record {
      upto = omega arith;
      size = length-set d i (get_or s i v) ∙ c.size;
      is = ap (λ x. set x i (get_or s i v)) c.is
          ∙ ap (λ k. set (sets d₀ 0 (take i s)) k (get_or s i v)) (sym e)
          ∙ sets_append d₀ 0 (take i s) (get_or s i v ∷ [])
          ∙ ap (sets d₀ 0) (sym (take-suc s i v (omega arith)) ∙ ap (λ k. take k s) (sym (add-one i)));
    }

pub copied_end : {A : Type 0} (d₀ s : List A) (n : ℕ) (d : List A) (i : ℕ) → n ≤ i → Copied d₀ s n d i → d ≡ sets d₀ 0 (take n s)
copied_end d₀ s n d i h c = let e : i ≡ n = omega (arith, c.upto) in c.is ∙ ap (λ k. sets d₀ 0 (take k s)) e

-- ---- slices that are as long as others serve as well

pub places_on : (room : ℕ) (d : List Float) (n z : List ℕ) (d' : List Float) (n' z' : List ℕ) → Places room d n z → length d' ≡ length d → length n' ≡ length n → length z' ≡ length z → Places room d' n' z'
places_on room d n z d' n' z' p a b c = record { place = omega (arith, p.place); slots = omega (arith, p.slots); seats = omega (arith, p.seats) }

pub work_on : (f p a : List Float) (o n : List ℕ) (f' p' a' : List Float) (o' n' : List ℕ) → Work f p a o n →
    length f' ≡ length f → length p' ≡ length p → length a' ≡ length a → length o' ≡ length o → length n' ≡ length n → Work f' p' a' o' n'
work_on f p a o n f' p' a' o' n' w ef ep ea eo en = record {
  face_fits = omega (arith, w.face_fits);
  cap_fits = omega (arith, w.cap_fits);
  hulls = record { flat_fits = omega (arith, w.hulls.flat_fits); order_fits = omega (arith, w.hulls.order_fits); chain_fits = omega (arith, w.hulls.chain_fits) };
}
