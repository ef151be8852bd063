-- What fusing takes for granted of an arrangement: of the definition, and of the slices that it was laid in.
use Rattle.std.specs.Prelude.{◌≡◌, refl, List, [], ◌∷◌, ◌++◌, ℕ, zero, suc, ◌+◌, ◌*◌, ◌≤◌, ◌<◌, length, take, drop, get_or, replicate, Float, Ok}
use Rattle.std.proofs.Common.{sym, ◌∙◌, subst, append-nil, arith, length-append, get_or-take}
use Rattle.std.proofs.Math.Path.{ap}
use Rattle.std.proofs.lemmas.List.Edits.{sets-eq}
use Rattle.std.proofs.Math.Seq.{length-sets, drop-nil}
use Rattle.refusal.specs.Outcome.{Outcome}
use Rattle.refusal.specs.Laws.{same_ok, then_ok}
use Rattle.lists.specs.Laws.{front_stored}
use Rattle.space.specs.declared.Precision.{Precision}
use Rattle.space.specs.Shapes.{Cell}
use Rattle.polygon.specs.Memory.{floats_of}
use Rattle.polygon.specs.Members.{All, all_append}
use Rattle.room.specs.Laws.{length_floats_of, all_get}
use Rattle.indexed.specs.Stored.{flat}
use Rattle.stack.specs.Stacks.{cells_sizes, Sound}
use Rattle.merge.specs.Merge.{owners_from}
use Rattle.arrange.specs.Arrange.{arrange}
use Rattle.arrange.specs.Merged.{Below}
use Rattle.groups.specs.Groups.{joined, bounds, Grouped, length_bounds}
use Rattle.arrangement.specs.declared.Layout.{Layout}
use Rattle.arrangement.specs.Arrangements.{faces_of, Arrangement, arrange_cells, laid_of, Laid}
use Rattle.arrangement.specs.Conforming.{Conforms, arranged_many, arranged}
use Rattle.arrangement.specs.Laws.{faces_wide, owners_many}

-- ---- of the definition

all_same : (p : ℕ → Type 0) (n x : ℕ) → p x → All p (replicate n x)
unfolding All
all_same p zero x h = tt
all_same p (suc n) x h = (h, all_same p n x h)

owners_low : (i : ℕ) (cs : List Cell) (n : ℕ) → i + length cs ≤ n → All (λ x. x < n) (owners_from i (cells_sizes cs))
unfolding owners_from cells_sizes All
owners_low i [] n h = tt
owners_low i (c ∷ cs) n h = all_append (λ x. x < n) (replicate (length c) i) (owners_from (suc i) (cells_sizes cs)) (all_same (λ x. x < n) (length c) i (omega arith)) (owners_low (suc i) cs n (omega arith))

wide_flat : (fs : List (List ℕ)) → All (λ f. 3 ≤ length f) fs → 3 * length fs ≤ length (flat fs)
unfolding All flat
wide_flat [] a = omega arith
wide_flat (f ∷ fs) a = omega (arith, a.0, wide_flat fs a.1, length-append f (flat fs))

-- each vertex is one of the points, each cycle has three or more, all of them fit the room, and each facet is one of k cells'
pub record Facets (a : Arrangement) (room k : ℕ) : Type 0 where
  pub conforms : Conforms (length a.points) room a.cycles
  pub few : length a.points ≤ 4096
  pub many : length a.cycles ≤ room
  pub owned : length a.owners ≡ length a.cycles
  pub owners : All (λ i. i < k) a.owners

-- each facet is of one of the cells
pub arrangement_owned : (t : Precision) (room : ℕ) (cs : List Cell) (a : Arrangement) → arrange_cells t room cs ≡ Ok a → (length a.owners ≡ length a.cycles) × All (λ i. i < length cs) a.owners
unfolding arrange_cells
arrangement_owned t room cs a e =
    let z = then_ok (arrange t room (faces_of cs)) _ a e in
    let m = arranged_many t room (faces_of cs) z.0 z.1 in
    subst (λ x. (length x.owners ≡ length x.cycles) × All (λ i. i < length cs) x.owners) (same_ok z.2) (omega (arith, owners_many 0 cs, m), owners_low 0 cs (length cs) (omega arith))

pub arrangement_facets : (t : Precision) (room : ℕ) (cs : List Cell) (a : Arrangement) → arrange_cells t room cs ≡ Ok a → All Sound cs → Facets a room (length cs)
unfolding arrange_cells
arrangement_facets t room cs a e sound =
    let z = then_ok (arrange t room (faces_of cs)) _ a e in
    let y = arranged t room (faces_of cs) z.0 z.1 (faces_wide cs sound) in
    let n : length z.0.faces ≤ room = omega (arith, wide_flat z.0.faces y.0.wide, y.0.fit) in
    let q = subst (λ x. Conforms (length x.points) room x.cycles × (length x.points ≤ 4096) × (length x.cycles ≤ room)) (same_ok z.2) (y.0, y.2, n) in
    let o = arrangement_owned t room cs a e in
    record { conforms = q.0; few = q.1; many = q.2; owned = o.0; owners = o.1 }

-- ---- of the slices

all_flat : (p : ℕ → Type 0) (fs : List (List ℕ)) → All (All p) fs → All p (flat fs)
unfolding All flat
all_flat p [] a = tt
all_flat p (f ∷ fs) a = all_append p f (flat fs) a.0 (all_flat p fs a.1)

joined_flat : (fs : List (List ℕ)) → joined fs ≡ flat fs
unfolding joined flat
joined_flat [] = refl
joined_flat (f ∷ fs) = ap (λ l. f ++ l) (joined_flat fs)

module _ {o : Outcome Arrangement} {p₀ : List Float} {c₀ s₀ w₀ : List ℕ} {p : List Float} {c s w : List ℕ} {r : Layout} (L : Laid o p₀ c₀ s₀ w₀ p c s w (Ok r))
    {a : Arrangement} (e : o ≡ Ok a) {room k : ℕ} (G : Facets a room k) (cycles : room ≤ length c₀) (starts : room < length s₀) where
  pub vertices_many : r.vertices ≡ length (flat a.cycles)
  unfolding laid_of
  vertices_many = ap (λ x. x.vertices) (same_ok (L.is ∙ ap laid_of e))

  pub facets_many : r.facets ≡ length a.cycles
  unfolding laid_of
  facets_many = ap (λ x. x.facets) (same_ok (L.is ∙ ap laid_of e))

  -- the vertices of all cycles, one behind another
  pub vertices_are : take r.vertices c ≡ flat a.cycles
  vertices_are = ap (take r.vertices) (L.cycles a e) ∙ front_stored (flat a.cycles) c₀ r.vertices vertices_many (omega (arith, G.conforms.fit))

  -- they are rows, as fusing takes them
  pub cycles_grouped : Grouped a.cycles [] s₀ (take r.vertices c) s r.facets
  cycles_grouped =
      let b : length (bounds 0 a.cycles) ≡ r.facets + 1 = omega (arith, length_bounds 0 a.cycles, facets_many) in
      let q : 0 + length (bounds 0 a.cycles) ≡ r.facets + 1 = omega arith in
      let h : 0 + length (bounds 0 a.cycles) ≤ length s₀ = omega (arith, facets_many, G.many) in
      record {
        many = facets_many;
        nodes = vertices_are ∙ sym (joined_flat a.cycles) ∙ sym (append-nil (joined a.cycles)) ∙ ap (λ l. joined a.cycles ++ l) (sym (drop-nil (length (joined a.cycles))));
        cuts = L.starts a e ∙ sets-eq (bounds 0 a.cycles) s₀ 0 h ∙ ap (λ i. bounds 0 a.cycles ++ drop i s₀) q;
      }

  -- each of them has three vertices or more
  pub cycles_wide : (i : ℕ) → i < r.facets → 3 ≤ length (get_or a.cycles i [])
  cycles_wide i h = all_get (λ f. 3 ≤ length f) a.cycles i [] G.conforms.wide (omega (arith, facets_many))

  -- each vertex is a point in the slice
  pub vertices_points : 3 * length a.points ≤ length p₀ → (i : ℕ) → i < length (take r.vertices c) → 3 * get_or (take r.vertices c) i 0 + 3 ≤ length p
  vertices_points h i q =
      let b : get_or (take r.vertices c) i 0 < length a.points = all_get (λ x. x < length a.points) (take r.vertices c) i 0 (subst (Below (length a.points)) (sym vertices_are) (all_flat (λ x. x < length a.points) a.cycles G.conforms.below)) q in
      omega (arith, b, h, ap length (L.points a e), length-sets p₀ 0 (floats_of a.points))

  -- each facet's cell is one of k
  pub owners_cells : room ≤ length w₀ → (i : ℕ) → i < r.facets → get_or w i 0 < k
  owners_cells h i q =
      let m : r.facets ≡ length a.owners = facets_many ∙ sym G.owned in
      let u : take r.facets w ≡ a.owners = ap (take r.facets) (L.owners a e) ∙ front_stored a.owners w₀ r.facets m (omega (arith, G.owned, G.many)) in
      subst (λ x. x < k) (ap (λ l. get_or l i 0) (sym u) ∙ get_or-take r.facets w i 0 q) (all_get (λ x. x < k) a.owners i 0 G.owners (omega (arith, m)))
