-- Laws of the facets of an arrangement, in the words of the code.
use Rattle.std.proofs.Math.Path.{◌≡◌, refl, sym, ap, subst}
use Rattle.std.proofs.Common.{◌∙◌, arith, length-append}
use Rattle.std.specs.Prelude.{Bool, true, ℕ, ◌+◌, ◌-◌, ◌≤◌, ◌<◌, drop, set, get_or, Float, Ok, Err}
use Rattle.std.proofs.Math.Bool.{false}
use mathlib.Core.List.{List, [], ◌∷◌, ◌++◌, map}
use borrow.Author.Tests.{ltb-false, lt-ltb, le-ltb}
use Rattle.std.proofs.Math.ListN.{length}
use Rattle.std.proofs.lemmas.List.{length-map}
use Rattle.std.proofs.lemmas.List.Edits.{sets}
use Rattle.std.proofs.Math.Seq.{length-sets}
use Rattle.std.proofs.Math.Dec.{ltb}
use Rattle.refusal.specs.declared.Refusal.{Refusal}
use Rattle.refusal.specs.Outcome.{Outcome, refusal_of, then, unless, walk}
use Rattle.refusal.specs.Laws.{stop, go, walk_go, walk_stop, walk_end}
use Rattle.space.specs.declared.Point3.{Point3}
use Rattle.space.specs.declared.Precision.{Precision}
use Rattle.polygon.specs.Memory.{points_at}
use Rattle.room.specs.Rooms.{counts_at}
use Rattle.room.specs.Laws.{sets_append, next_count, counts_done}
use Rattle.indexed.specs.Stored.{flat}
use Rattle.indexed.proofs.Laws.{flat_snoc, place_more}
use Rattle.solids.specs.Frames.{faces_at}
use Rattle.inside.specs.Slices.{Same, Roomy}
use Rattle.conform.specs.Conform.{conform}
use Rattle.conform.specs.Cycles.{Among, Conformed}
use Rattle.conform.specs.Laws.{same_more, conformed_same}
use Rattle.arrange.specs.Arrange.{fitted, add_cycle, conform_face, conform_all}
use Rattle.arrange.specs.Facets.{Cycles, Given, Arranged}

-- ---- the room that is left

fitted_over : (limit q m : ℕ) (y : Refusal) → q ≤ limit → limit - q < m → y ≡ refusal_of 12 → Err y ≡ fitted limit q m
fitted_over limit q m y h g e = (let u : ltb limit (q + m) ≡ true = lt-ltb limit (q + m) (omega arith) in ap Err e ∙ ap (λ b. unless b 12 (Ok m)) (sym u))

fitted_in : (limit q m : ℕ) → q ≤ limit → m ≤ limit - q → Ok m ≡ fitted limit q m
fitted_in limit q m h g = (let u : ltb limit (q + m) ≡ false = le-ltb limit (q + m) (omega arith) in ap (λ b. unless b 12 (Ok m)) (sym u))

pub through_refused : (r : Outcome ℕ) (x : Refusal) (g : ℕ → Outcome ℕ) → r ≡ Err x → r ≡ then (r) g
through_refused r x g e = rw e refl

pub through_over : (r : Outcome ℕ) (limit q m : ℕ) (y : Refusal) → r ≡ Ok m → q ≤ limit → limit - q < m → y ≡ refusal_of 12 → Err y ≡ then (r) (fitted limit q)
through_over r limit q m y e h g f = fitted_over limit q m y h g f ∙ ap (λ z. then (z) (fitted limit q)) (sym e)

pub through_in : (r : Outcome ℕ) (limit q m : ℕ) → r ≡ Ok m → q ≤ limit → m ≤ limit - q → Ok m ≡ then (r) (fitted limit q)
through_in r limit q m e h g = fitted_in limit q m h g ∙ ap (λ z. then (z) (fitted limit q)) (sym e)

-- what an answer says of the test
fine : (b : Bool) (k m : ℕ) → unless b 12 (Ok k) ≡ Ok m → (b ≡ false) × (k ≡ m)
fine true k m e = absurd (let z : ◌≡◌ {A = ℕ} 0 1 = cc in omega arith)
fine false k m e = (refl, cc)

over : (b : Bool) (k : ℕ) (y : Refusal) → unless b 12 (Ok k) ≡ Err y → {A : Type 0} (x : A) → then (unless b 12 (Ok k)) (λ _. Ok x) ≡ Err y
over true k y e x = cc
over false k y e x = absurd (let z : ◌≡◌ {A = ℕ} 0 1 = cc in omega arith)

pub map_snoc : (l : List (List ℕ)) (f : List ℕ) → map length (l ++ (f ∷ [])) ≡ map length l ++ (length f ∷ [])
map_snoc [] f = refl
map_snoc (g ∷ l) f = ap (λ z. length g ∷ z) (map_snoc l f)

-- ---- one facet

module _ (t : Precision) (room : ℕ) (ps : List Point3) (fs : List (List ℕ)) (g : List ℕ) (q : ℕ) (a₀ b₀ : List Float) (k₀ o₀ : List ℕ) (a b : List Float) (k o : List ℕ) (made step : Outcome ℕ) where
  -- a facet more
  added : (x : Outcome (List ℕ)) (m : ℕ) → conform t ps g ≡ x → q ≡ length (flat fs) → Conformed x q a₀ b₀ k₀ o₀ a b k o made → step ≡ then (made) (fitted room q) → step ≡ Ok m →
      (f : List ℕ) × (conform_face t room ps fs g ≡ Ok (fs ++ (f ∷ []))) × (m ≡ length f) × (q + m ≤ room) × (o ≡ sets o₀ q f) × Same a₀ b₀ k₀ a b k
  unfolding Conformed conform_face add_cycle
  added (Ok f) m e n h s w =
      let u : unless (ltb room (q + length f)) 12 (Ok (length f)) ≡ Ok m = ap (λ z. then (z) (fitted room q)) (sym h.0) ∙ sym s ∙ w in
      let v = fine (ltb room (q + length f)) (length f) m u in
      let y : ltb room (length (flat fs) + length f) ≡ false = ap (λ z. ltb room (z + length f)) (sym n) ∙ v.0 in
      (f, go (conform t ps g) _ f e ∙ ap (λ c. then (unless c 12 (Ok (length f))) (λ _. Ok (fs ++ (f ∷ [])))) y, sym v.1, omega (arith, ltb-false room (q + length f) v.0, v.1), h.2, h.3)
  added (Err y) m e n h s w = absurd (let u : Err y ≡ Ok m = ap (λ z. then (z) (fitted room q)) (sym h.0) ∙ sym s ∙ w in let z : ◌≡◌ {A = ℕ} 0 1 = cc in omega arith)

  not_added : (x : Outcome (List ℕ)) (y : Refusal) → conform t ps g ≡ x → q ≡ length (flat fs) → Conformed x q a₀ b₀ k₀ o₀ a b k o made → step ≡ then (made) (fitted room q) → step ≡ Err y →
      conform_face t room ps fs g ≡ Err y
  unfolding Conformed conform_face add_cycle
  not_added (Ok f) y e n h s w =
      let u : unless (ltb room (q + length f)) 12 (Ok (length f)) ≡ Err y = ap (λ z. then (z) (fitted room q)) (sym h.0) ∙ sym s ∙ w in
      go (conform t ps g) _ f e ∙ ap (λ z. then (unless (ltb room (z + length f)) 12 (Ok (length f))) (λ _. Ok (fs ++ (f ∷ [])))) (sym n) ∙ over (ltb room (q + length f)) (length f) y u (fs ++ (f ∷ []))
  not_added (Err z) y e n h s w =
      let u : Err z ≡ Err y = ap (λ v. then (v) (fitted room q)) (sym h.0) ∙ sym s ∙ w in
      stop (conform t ps g) _ z e ∙ (let v : z ≡ y = cc in ap Err v)

-- ---- all facets

-- of the faces, j are done, with q vertices; the next one's corners begin at `first`
pub record Arranging (t : Precision) (limit : ℕ) (s : List Float) (n : ℕ) (l counts : List ℕ) (faces : ℕ) (a₀ b₀ : List Float) (k₀ o₀ z₀ : List ℕ) (a b : List Float) (k o z : List ℕ) (q first j : ℕ) : Type 0 where
  pub state : List (List ℕ)
  pub upto : j ≤ faces
  pub count : q ≡ length (flat state)
  pub low : q ≤ limit
  pub long : length state ≡ j
  pub out : o ≡ sets o₀ 0 (flat state)
  pub sizes : z ≡ sets z₀ 0 (map length state)
  pub same : Same a₀ b₀ k₀ a b k
  pub left : Cycles n l first (drop j (counts_at counts 0 faces))
  pub rest : walk (conform_face t limit (points_at s 0 n)) state (faces_at l first (drop j (counts_at counts 0 faces))) ≡ conform_all t limit (points_at s 0 n) (faces_at l 0 (counts_at counts 0 faces))

pub arranging_start : (t : Precision) (limit : ℕ) (s : List Float) (n : ℕ) (l counts : List ℕ) (faces : ℕ) (a b : List Float) (k o z : List ℕ) → Given limit s n l counts faces a b k z →
    Arranging t limit s n l counts faces a b k o z a b k o z 0 0 0
unfolding conform_all flat
arranging_start t limit s n l counts faces a b k o z G = record {
  state = [];
  upto = omega arith;
  count = refl;
  low = omega arith;
  long = refl;
  out = refl;
  sizes = refl;
  same = record { lows = refl; highs = refl; places = refl };
  left = G.cycles;
  rest = refl;
}

module _ {t : Precision} {limit : ℕ} {s : List Float} {n : ℕ} {l counts : List ℕ} {faces : ℕ} {a₀ b₀ : List Float} {k₀ o₀ z₀ : List ℕ} {a b : List Float} {k o z : List ℕ} {q first j : ℕ}
    (I : Arranging t limit s n l counts faces a₀ b₀ k₀ o₀ z₀ a b k o z q first j) (G : Given limit s n l counts faces a₀ b₀ k₀ z₀) where
  pub arranging_out : length o ≡ length o₀
  arranging_out = ap length I.out ∙ length-sets o₀ 0 (flat I.state)

  pub arranging_sizes : length z ≡ length z₀
  arranging_sizes = ap length I.sizes ∙ length-sets z₀ 0 (map length I.state)

  opens : j < faces → drop j (counts_at counts 0 faces) ≡ get_or counts j 0 ∷ drop (j + 1) (counts_at counts 0 faces)
  opens h = next_count counts 0 faces j h (omega (arith, G.faces_in)) ∙ ap (λ x. get_or counts x 0 ∷ drop (j + 1) (counts_at counts 0 faces)) (omega arith)

  nexts : j < faces → Among n l first (get_or counts j 0) × Cycles n l (first + get_or counts j 0) (drop (j + 1) (counts_at counts 0 faces))
  unfolding Cycles
  nexts h = rw (opens h) at I.left

  pub arranging_among : j < faces → Among n l first (get_or counts j 0)
  arranging_among h = (nexts h).0

  pub arranging_room : Roomy n a b k
  arranging_room = record { lows = omega (arith, G.lent.lows, I.same.lows); highs = omega (arith, G.lent.highs, I.same.highs); places = omega (arith, G.lent.places, I.same.places) }

  turn : j < faces → walk (conform_face t limit (points_at s 0 n)) I.state (counts_at l first (get_or counts j 0) ∷ faces_at l (first + get_or counts j 0) (drop (j + 1) (counts_at counts 0 faces)))
      ≡ conform_all t limit (points_at s 0 n) (faces_at l 0 (counts_at counts 0 faces))
  unfolding faces_at
  turn h = ap (λ ns. walk (conform_face t limit (points_at s 0 n)) I.state (faces_at l first ns)) (sym (opens h)) ∙ I.rest

  module _ (a' b' : List Float) (k' o' : List ℕ) (made step : Outcome ℕ) (h : j < faces)
      (w : Conformed (conform t (points_at s 0 n) (counts_at l first (get_or counts j 0))) q a b k o a' b' k' o' made) (f : step ≡ then (made) (fitted limit q)) where
    pub arranging_count : (m : ℕ) → step ≡ Ok m → q + m ≤ limit
    arranging_count m g = (added t limit (points_at s 0 n) I.state (counts_at l first (get_or counts j 0)) q a b k o a' b' k' o' made step _ m refl I.count w f g).3

    pub arranging_step : (m : ℕ) → step ≡ Ok m → Arranging t limit s n l counts faces a₀ b₀ k₀ o₀ z₀ a' b' k' o' (set z j m) (q + m) (first + get_or counts j 0) (j + 1)
    arranging_step m g =
        let S = I.state in
        let x = added t limit (points_at s 0 n) I.state (counts_at l first (get_or counts j 0)) q a b k o a' b' k' o' made step _ m refl I.count w f g in
        let y = x.0 in
        let e : length (flat (I.state ++ (x.0 ∷ []))) ≡ length (flat I.state) + length x.0 = ap length (flat_snoc I.state x.0) ∙ length-append (flat I.state) x.0 in
        let p : set (sets z₀ 0 (map length I.state)) (0 + j) (length x.0) ≡ sets z₀ 0 (map length I.state ++ (length x.0 ∷ [])) = place_more z₀ 0 (map length I.state) j (length x.0) (length-map I.state length ∙ I.long) in
        record {
          state = S ++ (y ∷ []);
          upto = omega arith;
          count = omega (arith, I.count, x.2, e);
          low = x.3;
          long = omega (arith, length-append I.state (x.0 ∷ []), I.long);
          out = x.4 ∙ ap (λ v. sets v q y) I.out ∙ ap (λ v. sets (sets o₀ 0 (flat S)) v y) (I.count ∙ omega arith) ∙ sets_append o₀ 0 (flat S) y ∙ ap (sets o₀ 0) (sym (flat_snoc S y));
          sizes = ap (λ v. set v j m) I.sizes ∙ ap (λ v. set (sets z₀ 0 (map length S)) j v) x.2 ∙ ap (λ v. set (sets z₀ 0 (map length S)) v (length y)) (omega arith) ∙ p ∙ ap (sets z₀ 0) (sym (map_snoc S y));
          same = same_more I.same x.5;
          left = (nexts h).1;
          rest = sym (walk_go (conform_face t limit (points_at s 0 n)) S _ _ (S ++ (y ∷ [])) x.1) ∙ turn h;
        }

    pub arranging_stop : (y : Refusal) (r : Outcome ℕ) → step ≡ Err y → r ≡ Err y → Arranged (conform_all t limit (points_at s 0 n) (faces_at l 0 (counts_at counts 0 faces))) a₀ b₀ k₀ o₀ z₀ a' b' k' o' z r
    unfolding Arranged
    arranging_stop y r g e =
        let x = not_added t limit (points_at s 0 n) I.state (counts_at l first (get_or counts j 0)) q a b k o a' b' k' o' made step _ y refl I.count w f g in
        let c = conformed_same _ q a b k o a' b' k' o' made w in
        let u : conform_all t limit (points_at s 0 n) (faces_at l 0 (counts_at counts 0 faces)) ≡ Err y = sym (turn h) ∙ walk_stop (conform_face t limit (points_at s 0 n)) I.state _ _ y x in
        subst (λ v. Arranged v a₀ b₀ k₀ o₀ z₀ a' b' k' o' z r) (sym u) (e, c.1 ∙ arranging_out, arranging_sizes, same_more I.same c.0)

  pub arranging_end : (r : Outcome ℕ) → faces ≤ j → r ≡ Ok q → Arranged (conform_all t limit (points_at s 0 n) (faces_at l 0 (counts_at counts 0 faces))) a₀ b₀ k₀ o₀ z₀ a b k o z r
  unfolding Arranged faces_at
  arranging_end r h g =
      let d : faces_at l first (drop j (counts_at counts 0 faces)) ≡ [] = ap (faces_at l first) (counts_done counts 0 faces j h) in
      let u : conform_all t limit (points_at s 0 n) (faces_at l 0 (counts_at counts 0 faces)) ≡ Ok I.state
      = sym I.rest ∙ ap (walk (conform_face t limit (points_at s 0 n)) I.state) d ∙ walk_end (conform_face t limit (points_at s 0 n)) I.state in
      subst (λ v. Arranged v a₀ b₀ k₀ o₀ z₀ a b k o z r) (sym u) (g ∙ ap Ok I.count, I.out, I.sizes, I.same)

pub arranged_same : (x : Outcome (List (List ℕ))) (a₀ b₀ : List Float) (k₀ o₀ z₀ : List ℕ) (a b : List Float) (k o z : List ℕ) (r : Outcome ℕ) → Arranged x a₀ b₀ k₀ o₀ z₀ a b k o z r →
    Same a₀ b₀ k₀ a b k × (length o ≡ length o₀) × (length z ≡ length z₀)
unfolding Arranged
arranged_same (Ok fs) a₀ b₀ k₀ o₀ z₀ a b k o z r h = (h.3, ap length h.1 ∙ length-sets o₀ 0 (flat fs), ap length h.2 ∙ length-sets z₀ 0 (map length fs))
arranged_same (Err y) a₀ b₀ k₀ o₀ z₀ a b k o z r h = (h.3, h.1, h.2)
