-- What holds of every arrangement: each vertex of a facet is one of its points, a facet keeps its corners, and the vertices fit the room.
use Rattle.interval.specs.declared.Interval.{Interval}
use Rattle.std.specs.Prelude.{◌≡◌, refl, not, ℕ, zero, suc, ◌+◌, ◌≤◌, ◌<◌, take, drop, get_or, eqb, ltb, Ok, Err, Some, None, Option}
use Rattle.std.proofs.Common.{sym, ◌∙◌, arith, ltb-false, length-append}
use Rattle.std.proofs.Math.Path.{ap, subst}
use mathlib.Core.List.{List, [], ◌∷◌, ◌++◌, map}
use Rattle.std.proofs.Math.ListN.{length}
use Rattle.std.proofs.lemmas.List.{length-map}
use Rattle.refusal.specs.Outcome.{Outcome, then, unless, walk}
use Rattle.refusal.specs.Laws.{same_ok, never_ok, then_ok, unless_ok}
use Rattle.lists.specs.Walks.{Pair, pairs_to, cyclic, numbered}
use Rattle.lists.specs.Laws.{length_cyclic}
use Rattle.space.specs.declared.Point3.{Point3}
use Rattle.space.specs.declared.Precision.{Precision}
use Rattle.space.specs.Vector.{nowhere}
use Rattle.space.specs.Shapes.{Face, Cell, Solid, corners}
use Rattle.polygon.specs.Members.{All, all_append}
use Rattle.room.specs.Rooms.{cell_counts}
use Rattle.room.specs.Laws.{corners_cons, length_cell_counts, all_none, all_snoc, all_map, all_both}
use Rattle.room.specs.Steps.{walk_keeps}
use Rattle.indexed.specs.declared.Pick.TheVariants.{Only}
use Rattle.indexed.specs.Indexed.{Search, search_by, Places, joined, index_point, index_face, index_faces}
use Rattle.indexed.specs.Stored.{flat}
use Rattle.indexed.proofs.Laws.{flat_snoc, joined_most, flat_corners}
use Rattle.merge.specs.Merge.{merge}
use Rattle.incidence.specs.declared.Line.{Line}
use Rattle.incidence.specs.Incidence.{line_of, is_collapsed}
use Rattle.insertion.specs.Insertion.{Inside, low, rank_in, insert_inside, in_order}
use Rattle.inside.specs.Edges as E
use Rattle.inside.specs.Edges.{inside_one, insides, in_line, certified, inside_edge}
use Rattle.clip.specs.Clips.{Wide}
use Rattle.conform.specs.Conform.{conform_edge, conform}
use Rattle.arrange.specs.Arrange.{fitted, add_cycle, conform_face, conform_all, arrange}
use Rattle.arrange.specs.Merged.{Below, merge_below}

-- ---- every element

all_take : {A : Type 0} (p : A → Type 0) (k : ℕ) (l : List A) → All p l → All p (take k l)
unfolding All
all_take p zero l a = tt
all_take p (suc k) [] a = tt
all_take p (suc k) (x ∷ l) a = (a.0, all_take p k l a.1)

all_drop : {A : Type 0} (p : A → Type 0) (k : ℕ) (l : List A) → All p l → All p (drop k l)
unfolding All
all_drop p zero l a = a
all_drop p (suc k) [] a = tt
all_drop p (suc k) (x ∷ l) a = all_drop p k l a.1

all_mapped : {A B : Type 0} (p : B → Type 0) (f : A → B) (l : List A) → All (λ x. p (f x)) l → All p (map f l)
unfolding All
all_mapped p f [] a = tt
all_mapped p f (x ∷ l) a = (a.0, all_mapped p f l a.1)

-- ---- the vertices inside an edge

abbrev Low : ℕ → List Inside → Type 0
Low n l = All (λ q. q.place < n) l

put_low : (n : ℕ) (q : Inside) (l : List Inside) → q.place < n → Low n l → Low n (insert_inside q l)
unfolding insert_inside All
put_low n q l h a =
    let k = rank_in (low q) (map low l) in
    all_append (λ q. q.place < n) (take k l) (q ∷ drop k l) (all_take (λ q. q.place < n) k l a) (h, all_drop (λ q. q.place < n) k l a)

joined_low : (x : Outcome (Option Interval)) (l l' : List Inside) (k n : ℕ) → E.joined x l k ≡ Ok l' → k < n → Low n l → Low n l'
unfolding E.joined
joined_low (Ok None) l l' k n e h a = subst (Low n) (same_ok e) a
joined_low (Ok (Some w)) l l' k n e h a = subst (Low n) (same_ok e) (put_low n (record { along = w; place = k }) l h a)
joined_low (Err r) l l' k n e h a = never_ok e

numbered_low : (k : ℕ) (ps : List Point3) (n : ℕ) → k + length ps ≤ n → All (λ q. q.place < n) (numbered k ps)
unfolding numbered All
numbered_low k [] n h = tt
numbered_low k (p ∷ ps) n h = (omega arith, numbered_low (suc k) ps n (omega arith))

insides_low : (e : Line) (i j : ℕ) (ps : List Point3) (l : List Inside) → insides e i j ps ≡ Ok l → Low (length ps) l
unfolding insides inside_one
insides_low e i j ps l q =
    walk_keeps (Low (length ps)) (inside_one e i j) (numbered 0 ps) (all_map _ _ (numbered 0 ps) (λ x h s s' g a. joined_low _ s s' x.place (length ps) g h a) (numbered_low 0 ps (length ps) (omega arith))) [] l q (all_none _)

edge_low : (t : Precision) (ps : List Point3) (i j : ℕ) (ks : List ℕ) → inside_edge t ps i j ≡ Ok ks → Below (length ps) ks
unfolding inside_edge in_line
edge_low t ps i j ks e =
    let w = line_of t (get_or ps i nowhere) (get_or ps j nowhere) in
    let z = then_ok (in_line t w i j ps) certified ks e in
    let u = unless_ok (is_collapsed t w) 15 (insides w i j ps) z.0 z.1 in
    let v = unless_ok (not (in_order (map (λ q. q.along) z.0))) 17 (Ok (map (λ q. q.place) z.0)) ks z.2 in
    subst (Below (length ps)) (same_ok v.1) (all_mapped (λ k. k < length ps) (λ q. q.place) z.0 (insides_low w i j ps z.0 u.1))

-- ---- a facet

froms_low : (n o : ℕ) (l : List ℕ) → Below n l → All (λ e. e.from < n) (pairs_to o l)
unfolding pairs_to All
froms_low n o [] a = tt
froms_low n o (x ∷ l) a = (a.0, froms_low n o l a.1)

cyclic_low : (n : ℕ) (l : List ℕ) → Below n l → All (λ e. e.from < n) (cyclic l)
unfolding cyclic All
cyclic_low n [] a = tt
cyclic_low n (x ∷ l) a = froms_low n x (x ∷ l) a

-- an edge adds its start and the vertices inside it
edge_added : (t : Precision) (ps : List Point3) (out out' : List ℕ) (e : Pair ℕ) → conform_edge t ps out e ≡ Ok out' →
    (ks : List ℕ) × (inside_edge t ps e.from e.to ≡ Ok ks) × (out ++ (e.from ∷ ks) ≡ out')
unfolding conform_edge
edge_added t ps out out' e q =
    let z = then_ok (inside_edge t ps e.from e.to) _ out' q in
    (z.0, z.1, same_ok z.2)

conform_low : (t : Precision) (ps : List Point3) (f g : List ℕ) → conform t ps f ≡ Ok g → Below (length ps) f → Below (length ps) g
unfolding conform All
conform_low t ps f g e a =
    walk_keeps (Below (length ps)) (conform_edge t ps) (cyclic f)
    (all_map _ _ (cyclic f) (λ x h s s' q b. let z = edge_added t ps s s' x q in subst (Below (length ps)) z.2 (all_append (λ k. k < length ps) s (x.from ∷ z.0) b (h, edge_low t ps x.from x.to z.0 z.1))) (cyclic_low (length ps) f a))
    [] g e (all_none (λ k. k < length ps))

edges_long : (t : Precision) (ps : List Point3) (l : List (Pair ℕ)) (out g : List ℕ) → walk (conform_edge t ps) out l ≡ Ok g → length out + length l ≤ length g
unfolding walk
edges_long t ps [] out g e = omega (arith, ap length (same_ok e))
edges_long t ps (x ∷ l) out g e =
    let z = then_ok (conform_edge t ps out x) _ g e in
    let y = edge_added t ps out z.0 x z.1 in
    omega (arith, edges_long t ps l z.0 g z.2, ap length y.2, length-append out (x.from ∷ y.0))

conform_long : (t : Precision) (ps : List Point3) (f g : List ℕ) → conform t ps f ≡ Ok g → length f ≤ length g
unfolding conform
conform_long t ps f g e = omega (arith, edges_long t ps (cyclic f) [] g e, length_cyclic f)

-- ---- all facets

-- cycles of three vertices or more, each one of n points, with no more vertices than the room
pub record Conforms (n room : ℕ) (fs : List (List ℕ)) : Type 0 where
  pub below : All (Below n) fs
  pub wide : All (λ f. 3 ≤ length f) fs
  pub fit : length (flat fs) ≤ room

face_added : (t : Precision) (room : ℕ) (ps : List Point3) (fs fs' : List (List ℕ)) (f : List ℕ) → conform_face t room ps fs f ≡ Ok fs' →
    (g : List ℕ) × (conform t ps f ≡ Ok g) × (fs ++ (g ∷ []) ≡ fs') × (length (flat fs) + length g ≤ room)
unfolding conform_face add_cycle
face_added t room ps fs fs' f e =
    let z = then_ok (conform t ps f) (add_cycle room fs) fs' e in
    let y = then_ok (fitted room (length (flat fs)) (length z.0)) _ fs' z.2 in
    let u = unless_ok (ltb room (length (flat fs) + length z.0)) 12 (Ok (length z.0)) y.0 y.1 in
    (z.0, z.1, same_ok y.2, ltb-false room (length (flat fs) + length z.0) u.0)

face_kept : (t : Precision) (room : ℕ) (ps : List Point3) (f : List ℕ) → Below (length ps) f × (3 ≤ length f) → (fs fs' : List (List ℕ)) → conform_face t room ps fs f ≡ Ok fs' →
    Conforms (length ps) room fs → Conforms (length ps) room fs'
face_kept t room ps f h fs fs' e c =
    let z = face_added t room ps fs fs' f e in
    subst (Conforms (length ps) room) z.2 (record {
      below = all_snoc _ fs z.0 c.below (conform_low t ps f z.0 z.1 h.0);
      wide = all_snoc _ fs z.0 c.wide (omega (arith, h.1, conform_long t ps f z.0 z.1));
      fit = omega (arith, z.3, ap length (flat_snoc fs z.0), length-append (flat fs) z.0);
    })

none_conforms : (n room : ℕ) → Conforms n room []
unfolding flat
none_conforms n room = record { below = all_none _; wide = all_none _; fit = omega arith }

faces_kept : (t : Precision) (room : ℕ) (ps : List Point3) (l fs : List (List ℕ)) → conform_all t room ps l ≡ Ok fs → All (λ f. Below (length ps) f × (3 ≤ length f)) l → Conforms (length ps) room fs
unfolding conform_all
faces_kept t room ps l fs e a = walk_keeps (Conforms (length ps) room) (conform_face t room ps) l (all_map _ _ l (λ f h. face_kept t room ps f h) a) [] fs e (none_conforms (length ps) room)

faces_many : (t : Precision) (room : ℕ) (ps : List Point3) (l st fs : List (List ℕ)) → walk (conform_face t room ps) st l ≡ Ok fs → length fs ≡ length st + length l
unfolding walk
faces_many t room ps [] st fs e = omega (arith, ap length (same_ok e))
faces_many t room ps (f ∷ l) st fs e =
    let z = then_ok (conform_face t room ps st f) _ fs e in
    let y = face_added t room ps st z.0 f z.1 in
    omega (arith, faces_many t room ps l z.0 fs z.2, ap length y.2, length-append st (y.0 ∷ []))

pub conform_many : (t : Precision) (room : ℕ) (ps : List Point3) (l fs : List (List ℕ)) → conform_all t room ps l ≡ Ok fs → length fs ≡ length l
unfolding conform_all
conform_many t room ps l fs e = omega (arith, faces_many t room ps l [] fs e)

-- ---- the arrangement

wide_counts : (c : Cell) → Wide c → All (λ k. 3 ≤ k) (cell_counts c)
unfolding All cell_counts
wide_counts [] a = tt
wide_counts (f ∷ c) a = (a.0, wide_counts c a.1)

wide_faces : (fs : List (List ℕ)) → All (λ k. 3 ≤ k) (map length fs) → All (λ f. 3 ≤ length f) fs
unfolding All
wide_faces [] a = tt
wide_faces (f ∷ fs) a = (a.0, wide_faces fs a.1)

-- a facet for each face
pub arranged_many : (t : Precision) (room : ℕ) (c : Cell) (s : Solid) → arrange t room c ≡ Ok s → length s.faces ≡ length c
unfolding arrange
arranged_many t room c s e =
    let z = then_ok (merge t c) _ s e in
    let y = then_ok (conform_all t room z.0.points z.0.faces) _ s z.2 in
    let b = merge_below t c z.0 z.1 in
    let g : length y.0 ≡ length s.faces = ap (λ x. length x.faces) (same_ok y.2) in
    omega (arith, g, conform_many t room z.0.points z.0.faces y.0 y.1, ap length b.1, length-map z.0.faces length, length_cell_counts c)

pub arranged : (t : Precision) (room : ℕ) (c : Cell) (s : Solid) → arrange t room c ≡ Ok s → Wide c → Conforms (length s.points) room s.faces × (length s.faces ≡ length c) × (length s.points ≤ 4096)
unfolding arrange
arranged t room c s e a =
    let z = then_ok (merge t c) _ s e in
    let m = z.0 in
    let y = then_ok (conform_all t room m.points m.faces) _ s z.2 in
    let b = merge_below t c z.0 z.1 in
    let w = wide_faces m.faces (subst (All (λ k. 3 ≤ k)) (sym b.1) (wide_counts c a)) in
    let q = subst (λ x. Conforms (length x.points) room x.faces × (length x.points ≤ 4096)) (same_ok y.2) (faces_kept t room m.points m.faces y.0 y.1 (all_both _ _ _ m.faces (λ f p q. (p, q)) b.0 w), b.2) in
    (q.0, arranged_many t room c s e, q.1)

-- ---- no more points than corners

module _ (find : Search) where
  point_most : (s s' : Places) (q : Point3) → index_point find s q ≡ Ok s' → length s'.points ≤ length s.points + 1
  unfolding index_point
  point_most s s' q e =
      let z = then_ok (find q s.points) _ s' e in
      subst (λ x. length x.points ≤ length s.points + 1) (same_ok z.2) (joined_most s.points q (eqb z.0 (length s.points)))

  points_most : (l : List Point3) (s s' : Places) → walk (index_point find) s l ≡ Ok s' → length s'.points ≤ length s.points + length l
  unfolding walk
  points_most [] s s' e = omega (arith, ap (λ x. length x.points) (same_ok e))
  points_most (q ∷ l) s s' e =
      let z = then_ok (index_point find s q) _ s' e in
      omega (arith, points_most l z.0 s' z.2, point_most s z.0 q z.1)

  face_most : (s s' : Solid) (f : Face) → index_face find s f ≡ Ok s' → length s'.points ≤ length s.points + length f.points
  unfolding index_face
  face_most s s' f e =
      let z = then_ok (walk (index_point find) (record { points = s.points; places = [] }) f.points) _ s' e in
      omega (arith, ap (λ x. length x.points) (same_ok z.2), points_most f.points (record { points = s.points; places = [] }) z.0 z.1)

  faces_most : (c : Cell) (s s' : Solid) → walk (index_face find) s c ≡ Ok s' → length s'.points ≤ length s.points + corners 0 c
  unfolding walk
  faces_most [] s s' e = omega (arith, ap (λ x. length x.points) (same_ok e))
  faces_most (f ∷ c) s s' e =
      let z = then_ok (index_face find s f) _ s' e in
      omega (arith, faces_most c z.0 s' z.2, face_most s z.0 f z.1, corners_cons f c)

pub merge_most : (t : Precision) (c : Cell) (s : Solid) → merge t c ≡ Ok s → length s.points ≤ corners 0 c
unfolding merge
merge_most t c s e =
    let z = then_ok (index_faces (search_by Only t) c) _ s e in
    let y = then_ok (unless (ltb 4096 (length z.0.points)) 14 (Ok (length z.0.points))) _ s z.2 in
    omega (arith, ap (λ x. length x.points) (same_ok y.2), faces_most (search_by Only t) c (record { points = []; faces = [] }) z.0 z.1)

pub merge_corners : (t : Precision) (c : Cell) (s : Solid) → merge t c ≡ Ok s → length (flat s.faces) ≡ corners 0 c
merge_corners t c s e = flat_corners s.faces c (merge_below t c s e).1
