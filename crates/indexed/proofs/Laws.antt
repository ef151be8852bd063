-- Laws of `indexed`: one turn of each of its loops, in the words of the code.
use Rattle.std.specs.Prelude.{◌≡◌, Bool, true, false, ℕ, zero, suc, ◌+◌, ◌*◌, ◌≤◌, ◌<◌, drop, Float, Ok, Err}
use Rattle.std.proofs.Math.Path.{refl, sym, ap, subst}
use Rattle.std.proofs.Common.{◌∙◌, add-one}
use mathlib.Core.List.{List, [], ◌∷◌, ◌++◌, append-nil, append_assoc, map}
use native.Mathlib.Omega.{arith}
use Rattle.std.proofs.Math.Numerals.{add-two}
use Rattle.std.proofs.Math.Decide.{dec_lt}
use Rattle.std.proofs.Math.ListN.{length, set, get_or, length-append}
use Rattle.std.proofs.Math.Seq.{sets, length-sets}
use Rattle.std.proofs.lemmas.List.{set-get_or}
use Rattle.std.proofs.Math.Dec.{eqb}
use Rattle.std.proofs.lemmas.Bool.{eqb-false}
use Rattle.std.specs.Float.{nan}
use Rattle.refusal.specs.declared.Refusal.{Refusal}
use Rattle.refusal.specs.Outcome.{Outcome, walk}
use Rattle.refusal.specs.Laws.{stop, go, walk_go, walk_stop, walk_end}
use Rattle.space.specs.declared.Point3.{Point3}
use Rattle.space.specs.declared.Precision.{Precision}
use Rattle.space.specs.declared.Closeness.{Closeness}
use Rattle.space.specs.declared.Closeness.TheVariants.{Near, Apart}
use Rattle.space.specs.Near.{near_of}
use Rattle.space.specs.Far.{reach_of}
use Rattle.space.specs.Shapes.{Cell, Solid, corners}
use Rattle.polygon.specs.Memory.{floats, floats_of, point_at, points_at, far_at}
use Rattle.polygon.specs.MemoryLaws.{length_points_at, pass_over}
use Rattle.room.specs.Rooms.{Within, cell_at, face_at, counts_at, cell_counts}
use Rattle.lists.specs.Walks.{numbered, Stops}
use Rattle.room.specs.Numbered.{next_numbered, numbered_done}
use Rattle.room.specs.Stores.{sets_over}
use Rattle.room.specs.Laws.{sets_append, sets_point, points_more, points_stored, next_point, points_done, next_count, counts_done, cell_next, cell_none, within_rest, within_le, corners_cons, length_floats_of, corners_none}
use Rattle.indexed.specs.declared.Pick.{Pick}
use Rattle.indexed.specs.declared.Pick.TheVariants.{First, Only}
use Rattle.indexed.specs.Indexed.{Search, place_in, met, only_in, search_by, Places, joined, placed, index_point, index_points, with_face, index_face, index_faces}
use Rattle.indexed.specs.Stored.{flat, joined_at, more, Pointed, Placed, Stored, Fits}
use Rattle.indexed.specs.Laws.{Searched, meet, Meeting, Taking, Walking, Asked}

-- what is known of an answer that says so
pub counted_made : (r : Outcome ℕ) (n : ℕ) → r ≡ Ok n → r ≡ Ok n
counted_made r n e = e

pub counted_refused : (r : Outcome ℕ) (x : Refusal) → r ≡ Err x → r ≡ Err x
counted_refused r x e = e

-- ---- a point that joins the others where it is new
pub joined_most : (l : List Point3) (q : Point3) (b : Bool) → length (joined l q b) ≤ length l + 1
joined_most l q true = omega (arith, length-append l (q ∷ []))
joined_most l q false = omega arith

-- its place is one of them
pub joined_low : (l : List Point3) (q : Point3) (b : Bool) (i : ℕ) → eqb i (length l) ≡ b → i ≤ length l → (length l ≤ length (joined l q b)) × (i < length (joined l q b))
joined_low l q true i e h = (let n = length-append l (q ∷ []) in (omega (arith, n), omega (arith, n)))
joined_low l q false i e h = (omega arith, elim (dec_lt i (length l)) [ yes k ↦ k | no k ↦ absurd (eqb-false i (length l) e (omega arith)) ])

-- ---- how many places there are: as many as corners, where each face has a place for each of its own
pub flat_corners : (fs : List (List ℕ)) (c : Cell) → map length fs ≡ cell_counts c → length (flat fs) ≡ corners 0 c
unfolding flat cell_counts
flat_corners [] [] e = sym corners_none
flat_corners [] (g ∷ c) e = absurd (omega (arith, ap length e))
flat_corners (f ∷ fs) [] e = absurd (omega (arith, ap length e))
flat_corners (f ∷ fs) (g ∷ c) e =
    omega (arith, flat_corners fs c (ap (drop 1) e), ap (λ l. get_or l 0 0) e, length-append f (flat fs), corners_cons g c)

-- ---- one point of a search
module _ (t : Precision) (q : Point3) (i : ℕ) (r : Point3) (l : List Point3) where
  pub place_near : near_of t q r ≡ Ok Near → place_in t q i (r ∷ l) ≡ Ok i
  unfolding place_in
  place_near e = rw (e, place_in) refl

  pub place_apart : near_of t q r ≡ Ok Apart → place_in t q i (r ∷ l) ≡ place_in t q (i + 1) l
  unfolding place_in
  place_apart e = rw (e, place_in) (ap (λ j. place_in t q j l) (sym (add-one i)))

  pub place_refused : (x : Refusal) → near_of t q r ≡ Err x → place_in t q i (r ∷ l) ≡ Err x
  unfolding place_in
  place_refused x e = rw (e, place_in) refl

pub searched_start : {t : Precision} {q : Point3} {s : List Float} {m : ℕ} → Searched t q s m 0
searched_start = record { upto = omega arith; rest = refl }

module _ {t : Precision} {q : Point3} {s : List Float} {m i : ℕ} (I : Searched t q s m i) where
  onward : i < m → place_in t q i (point_at s (0 + 3 * i) ∷ drop (i + 1) (points_at s 0 m)) ≡ place_in t q 0 (points_at s 0 m)
  onward h = rw (next_point s 0 m i h) at I.rest

  here : {p : Point3} → p ≡ point_at s (3 * i) → point_at s (0 + 3 * i) ≡ p
  here e = ap (point_at s) (omega arith) ∙ sym e

  pub searched_near : {p : Point3} → i < m → p ≡ point_at s (3 * i) → near_of t q p ≡ Ok Near → place_in t q 0 (points_at s 0 m) ≡ Ok i
  searched_near {p} h e n = sym (onward h) ∙ place_near t q i _ _ (ap (near_of t q) (here e) ∙ n)

  pub searched_refused : {p : Point3} {x : Refusal} → i < m → p ≡ point_at s (3 * i) → near_of t q p ≡ Err x → place_in t q 0 (points_at s 0 m) ≡ Err x
  searched_refused {p} {x} h e n = sym (onward h) ∙ place_refused t q i _ _ x (ap (near_of t q) (here e) ∙ n)

  pub searched_apart : {p : Point3} → i < m → p ≡ point_at s (3 * i) → near_of t q p ≡ Ok Apart → Searched t q s m (i + 1)
  searched_apart {p} h e n = record { upto = omega arith; rest = sym (place_apart t q i _ _ (ap (near_of t q) (here e) ∙ n)) ∙ onward h }

  pub searched_end : m ≤ i → place_in t q 0 (points_at s 0 m) ≡ Ok i
  unfolding place_in
  searched_end h = sym (rw (points_done s 0 m i h) at I.rest)

-- those that differ by enough are apart, so nothing is found among them
pub searched_pass : {t : Precision} {q : Point3} {s : List Float} {m i : ℕ} → Searched t q s m i → (g : Float) → g ≡ reach_of t → {r : ℕ} → Stops (far_at g q s) m i r → Searched t q s m r
searched_pass {t} {q} {s} {m} I g e S = pass_over (Searched t q s m) t g q s S e (λ x h a J. searched_apart J h refl a) I

pub meeting_start : (t : Precision) (q : Point3) (s : List Float) (m : ℕ) → Meeting t q s m m 0
unfolding only_in
meeting_start t q s m = record { upto = omega arith; rest = ap (λ n. walk (meet t q n) n (numbered 0 (points_at s 0 m))) (sym (length_points_at s 0 m)) }

module _ {t : Precision} {q : Point3} {s : List Float} {m h i : ℕ} (I : Meeting t q s m h i) where
  turning : i < m → walk (meet t q m) h (record { place = i; it = point_at s (3 * i) } ∷ drop (i + 1) (numbered 0 (points_at s 0 m))) ≡ only_in t q (points_at s 0 m)
  turning k = ap (walk (meet t q m) h) (sym (next_numbered s m i k)) ∙ I.rest

  pub meeting_step : (c : Outcome Closeness) (p : Point3) (e : ℕ) → i < m → p ≡ point_at s (3 * i) → c ≡ near_of t q p → met c m h i ≡ Ok e → Meeting t q s m e (i + 1)
  meeting_step c p e k w n g =
      let a : met (near_of t q (point_at s (3 * i))) m h i ≡ Ok e = ap (λ z. met (near_of t q z) m h i) (sym w) ∙ ap (λ z. met z m h i) (sym n) ∙ g in
      record { upto = omega arith; rest = sym (walk_go (meet t q m) h _ _ e a) ∙ turning k }

  pub meeting_stop : (c : Outcome Closeness) (p : Point3) (x : Refusal) → i < m → p ≡ point_at s (3 * i) → c ≡ near_of t q p → met c m h i ≡ Err x → only_in t q (points_at s 0 m) ≡ Err x
  meeting_stop c p x k w n g =
      let a : met (near_of t q (point_at s (3 * i))) m h i ≡ Err x = ap (λ z. met (near_of t q z) m h i) (sym w) ∙ ap (λ z. met z m h i) (sym n) ∙ g in
      sym (turning k) ∙ walk_stop (meet t q m) h _ _ x a

  pub meeting_end : m ≤ i → only_in t q (points_at s 0 m) ≡ Ok h
  meeting_end k = sym I.rest ∙ ap (walk (meet t q m) h) (numbered_done s m i k) ∙ walk_end (meet t q m) h

pub meeting_pass : {t : Precision} {q : Point3} {s : List Float} {m h i : ℕ} → Meeting t q s m h i → (g : Float) → g ≡ reach_of t → {r : ℕ} → Stops (far_at g q s) m i r → Meeting t q s m h r
unfolding met
meeting_pass {t} {q} {s} {m} {h} I g e S = pass_over (Meeting t q s m h) t g q s S e (λ x k a J. meeting_step J (Ok Apart) (point_at s (3 * x)) h k refl (sym a) refl) I

-- the search that was asked for
pub search_first : (k : Pick) (t : Precision) (q : Point3) (l : List Point3) → k ≡ First → place_in t q 0 l ≡ search_by k t q l
unfolding search_by
search_first k t q l e = rw e refl

pub search_only : (k : Pick) (t : Precision) (q : Point3) (l : List Point3) → k ≡ Only → only_in t q l ≡ search_by k t q l
unfolding search_by
search_only k t q l e = rw e refl

-- ---- one corner
pub pointed_ok : (o : Outcome ℕ) (m k : ℕ) (q : Point3) (p₀ : List Float) (i₀ : List ℕ) (p : List Float) (i : List ℕ) (r : Outcome ℕ) (j : ℕ) →
    o ≡ Ok j → r ≡ Ok (more m (eqb j m)) → p ≡ joined_at p₀ m q (eqb j m) → i ≡ set i₀ k j → Pointed o m k q p₀ i₀ p i r
unfolding Pointed
pointed_ok o m k q p₀ i₀ p i r j e a b c = subst (λ o. Pointed o m k q p₀ i₀ p i r) (sym e) (a, b, c)

pub pointed_refused : (o : Outcome ℕ) (m k : ℕ) (q : Point3) (p₀ : List Float) (i₀ : List ℕ) (p : List Float) (i : List ℕ) (r : Outcome ℕ) (x : Refusal) →
    o ≡ Err x → r ≡ Err x → length p ≡ length p₀ → length i ≡ length i₀ → Pointed o m k q p₀ i₀ p i r
unfolding Pointed
pointed_refused o m k q p₀ i₀ p i r x e a b c = subst (λ o. Pointed o m k q p₀ i₀ p i r) (sym e) (a, b, c)

-- what an answer says of the steps that led to it
pub pointed_made : (o : Outcome ℕ) (m k : ℕ) (q : Point3) (p₀ : List Float) (i₀ : List ℕ) (p : List Float) (i : List ℕ) (r : Outcome ℕ) (e : ℕ) → Pointed o m k q p₀ i₀ p i r → r ≡ Ok e →
    (j : ℕ) × (o ≡ Ok j) × (e ≡ more m (eqb j m)) × (p ≡ joined_at p₀ m q (eqb j m)) × (i ≡ set i₀ k j)
unfolding Pointed
pointed_made (Ok j) m k q p₀ i₀ p i r e h g = (j, refl, (let a = h.0 in cc), h.1, h.2)
pointed_made (Err x) m k q p₀ i₀ p i r e h g = absurd (let a = h.0 in let z : ◌≡◌ {A = ℕ} 0 1 = cc in omega arith)

pub pointed_not : (o : Outcome ℕ) (m k : ℕ) (q : Point3) (p₀ : List Float) (i₀ : List ℕ) (p : List Float) (i : List ℕ) (r : Outcome ℕ) (x : Refusal) → Pointed o m k q p₀ i₀ p i r → r ≡ Err x →
    (o ≡ Err x) × (length p ≡ length p₀) × (length i ≡ length i₀)
unfolding Pointed
pointed_not (Ok j) m k q p₀ i₀ p i r x h g = absurd (let a = h.0 in let z : ◌≡◌ {A = ℕ} 0 1 = cc in omega arith)
pointed_not (Err y) m k q p₀ i₀ p i r x h g = (let a = h.0 in let b : y ≡ x = cc in ap Err b, h.1, h.2)

-- ---- the corners of a face
-- points that stand in a slice already
pub points_kept : (s : List Float) (i n : ℕ) → sets s i (floats_of (points_at s i n)) ≡ s
unfolding points_at
points_kept s i zero = refl
points_kept s i (suc n) =
    let a : sets s i (floats (point_at s i)) ≡ s = rw (add-one, add-two, set-get_or s i nan, set-get_or s (suc i) nan) (set-get_or s (suc (suc i)) nan) in
    sets_point s i (point_at s i) (points_at s (i + 3) n) ∙ ap (λ z. sets z (i + 3) (floats_of (points_at s (i + 3) n))) a ∙ points_kept s (i + 3) n

pub place_more : (i : List ℕ) (k : ℕ) (l : List ℕ) (j x : ℕ) → length l ≡ j → set (sets i k l) (k + j) x ≡ sets i k (l ++ (x ∷ []))
place_more i k l j x e = ap (λ n. set (sets i k l) (k + n) x) (sym e) ∙ sets_append i k l (x ∷ [])

joined_floats : (p : List Float) (l : List Point3) (q : Point3) (b : Bool) (m : ℕ) → m ≡ length l →
    joined_at (sets p 0 (floats_of l)) m q b ≡ sets p 0 (floats_of (joined l q b))
joined_floats p l q true m e = points_more p l q m e
joined_floats p l q false m e = refl

joined_count : (l : List Point3) (q : Point3) (b : Bool) (m : ℕ) → m ≡ length l → more m b ≡ length (joined l q b)
joined_count l q true m e = omega (arith, length-append l (q ∷ []))
joined_count l q false m e = e

more_le : (m : ℕ) (b : Bool) → more m b ≤ m + 1
more_le m true = omega arith
more_le m false = omega arith

more_ge : (m : ℕ) (b : Bool) → m ≤ more m b
more_ge m true = omega arith
more_ge m false = omega arith

pub taking_start : (find : Search) (s : List Float) (at n m₀ k : ℕ) (p₀ : List Float) (i₀ : List ℕ) → Taking find s at n m₀ k p₀ i₀ p₀ i₀ m₀ 0
taking_start find s at n m₀ k p₀ i₀ = record {
  state = record { points = points_at p₀ 0 m₀; places = [] };
  upto = omega arith;
  count = sym (length_points_at p₀ 0 m₀);
  grown = omega arith;
  few = omega arith;
  points = sym (points_kept p₀ 0 m₀);
  places = refl;
  long = refl;
  rest = refl;
}

module _ {find : Search} {s : List Float} {at n m₀ k : ℕ} {p₀ : List Float} {i₀ : List ℕ} {p : List Float} {i : List ℕ} {m j : ℕ}
    (I : Taking find s at n m₀ k p₀ i₀ p i m j) (room : 3 * m₀ + 3 * n ≤ length p₀) where
  pub taking_points : length p ≡ length p₀
  taking_points = ap length I.points ∙ length-sets p₀ 0 (floats_of I.state.points)

  pub taking_places : length i ≡ length i₀
  taking_places = ap length I.places ∙ length-sets i₀ k I.state.places

  held : points_at p 0 m ≡ I.state.points
  held =
      let h : 3 * length I.state.points ≤ length p₀ = omega (arith, I.count, I.few, I.upto) in
      ap (λ z. points_at z 0 m) I.points ∙ ap (points_at (sets p₀ 0 (floats_of I.state.points)) 0) I.count ∙ points_stored p₀ I.state.points h

  turn : j < n → walk (index_point find) I.state (point_at s (at + 3 * j) ∷ drop (j + 1) (points_at s at n)) ≡ index_points find (points_at p₀ 0 m₀) (points_at s at n)
  turn h = rw (next_point s at n j h) at I.rest

  found : {q : Point3} {o : Outcome ℕ} → q ≡ point_at s (at + 3 * j) → find q (points_at p 0 m) ≡ o → find (point_at s (at + 3 * j)) I.state.points ≡ o
  found {q} {o} e h = ap (λ z. find z I.state.points) (sym e) ∙ ap (find q) (sym held) ∙ h

  pub taking_step : (q : Point3) (p' : List Float) (i' : List ℕ) (e : ℕ) (r : Outcome ℕ) → j < n → q ≡ point_at s (at + 3 * j) → r ≡ Ok e →
      Pointed (find q (points_at p 0 m)) m (k + j) q p i p' i' r → Taking find s at n m₀ k p₀ i₀ p' i' e (j + 1)
  unfolding index_point
  taking_step q p' i' e r h w g f =
      let z = pointed_made (find q (points_at p 0 m)) m (k + j) q p i p' i' r e f g in
      let x = z.0 in
      let S = I.state in
      let b : eqb x m ≡ eqb x (length S.points) = ap (eqb x) I.count in
      let a : index_point find S (point_at s (at + 3 * j)) ≡ Ok (placed S (point_at s (at + 3 * j)) x) = go (find (point_at s (at + 3 * j)) S.points) _ x (found w z.1) in
      record {
        state = placed S (point_at s (at + 3 * j)) x;
        upto = omega arith;
        count = z.2 ∙ ap (more m) b ∙ joined_count S.points (point_at s (at + 3 * j)) (eqb x (length S.points)) m I.count;
        grown = omega (arith, z.2, more_ge m (eqb x m), I.grown);
        few = omega (arith, z.2, more_le m (eqb x m), I.few);
        points = z.3 ∙ ap (λ y. joined_at p m q y) b ∙ ap (λ y. joined_at p m y (eqb x (length S.points))) w ∙ ap (λ y. joined_at y m (point_at s (at + 3 * j)) (eqb x (length S.points))) I.points
            ∙ joined_floats p₀ S.points (point_at s (at + 3 * j)) (eqb x (length S.points)) m I.count;
        places = z.4 ∙ ap (λ y. set y (k + j) x) I.places ∙ place_more i₀ k S.places j x I.long;
        long = length-append S.places (x ∷ []) ∙ omega (arith, I.long);
        rest = sym (walk_go (index_point find) S _ _ _ a) ∙ turn h;
      }

  pub taking_stop : (q : Point3) (p' : List Float) (i' : List ℕ) (x : Refusal) (r r' : Outcome ℕ) → j < n → q ≡ point_at s (at + 3 * j) → r ≡ Err x → r' ≡ Err x →
      Pointed (find q (points_at p 0 m)) m (k + j) q p i p' i' r → Placed (index_points find (points_at p₀ 0 m₀) (points_at s at n)) m₀ n k p₀ i₀ p' i' r'
  unfolding index_point Placed
  taking_stop q p' i' x r r' h w g g' f =
      let z = pointed_not (find q (points_at p 0 m)) m (k + j) q p i p' i' r x f g in
      let a : index_point find I.state (point_at s (at + 3 * j)) ≡ Err x = stop (find (point_at s (at + 3 * j)) I.state.points) _ x (found w z.0) in
      let o : index_points find (points_at p₀ 0 m₀) (points_at s at n) ≡ Err x = sym (turn h) ∙ walk_stop (index_point find) I.state _ _ x a in
      subst (λ y. Placed y m₀ n k p₀ i₀ p' i' r') (sym o) (g', z.1 ∙ taking_points, z.2 ∙ taking_places)

  pub taking_end : (r : Outcome ℕ) → n ≤ j → r ≡ Ok m → Placed (index_points find (points_at p₀ 0 m₀) (points_at s at n)) m₀ n k p₀ i₀ p i r
  unfolding Placed
  taking_end r h g =
      let e : walk (index_point find) I.state [] ≡ index_points find (points_at p₀ 0 m₀) (points_at s at n) = rw (points_done s at n j h) at I.rest in
      let o : index_points find (points_at p₀ 0 m₀) (points_at s at n) ≡ Ok I.state = sym e ∙ walk_end (index_point find) I.state in
      subst (λ y. Placed y m₀ n k p₀ i₀ p i r) (sym o) (g ∙ ap Ok I.count, omega (arith, I.count, I.grown), omega (arith, I.count, I.few, I.upto), I.long ∙ omega (arith, I.upto), I.points, I.places)

-- ---- the faces of a cell
pub placed_made : (o : Outcome Places) (m n k : ℕ) (p₀ : List Float) (i₀ : List ℕ) (p : List Float) (i : List ℕ) (r : Outcome ℕ) (e : ℕ) → Placed o m n k p₀ i₀ p i r → r ≡ Ok e →
    (s : Places) × (o ≡ Ok s) × (e ≡ length s.points) × (m ≤ e) × (e ≤ m + n) × (length s.places ≡ n) × (p ≡ sets p₀ 0 (floats_of s.points)) × (i ≡ sets i₀ k s.places)
unfolding Placed
placed_made (Ok s) m n k p₀ i₀ p i r e h g =
    let c : e ≡ length s.points = (let a = h.0 in cc) in
    (s, refl, c, omega (arith, h.1), omega (arith, h.2), h.3, h.4, h.5)
placed_made (Err x) m n k p₀ i₀ p i r e h g = absurd (let a = h.0 in let z : ◌≡◌ {A = ℕ} 0 1 = cc in omega arith)

pub placed_not : (o : Outcome Places) (m n k : ℕ) (p₀ : List Float) (i₀ : List ℕ) (p : List Float) (i : List ℕ) (r : Outcome ℕ) (x : Refusal) → Placed o m n k p₀ i₀ p i r → r ≡ Err x →
    (o ≡ Err x) × (length p ≡ length p₀) × (length i ≡ length i₀)
unfolding Placed
placed_not (Ok s) m n k p₀ i₀ p i r x h g = absurd (let a = h.0 in let z : ◌≡◌ {A = ℕ} 0 1 = cc in omega arith)
placed_not (Err y) m n k p₀ i₀ p i r x h g = (let a = h.0 in let b : y ≡ x = cc in ap Err b, h.1, h.2)

pub flat_snoc : (l : List (List ℕ)) (f : List ℕ) → flat (l ++ (f ∷ [])) ≡ flat l ++ f
unfolding flat
flat_snoc [] f = append-nil f
flat_snoc (g ∷ l) f = ap (λ z. g ++ z) (flat_snoc l f) ∙ sym (append_assoc g (flat l) f)

pub walking_start : (find : Search) (s : List Float) (at : ℕ) (counts : List ℕ) (first n : ℕ) (p₀ : List Float) (i₀ : List ℕ) → Fits s counts at first n p₀ i₀ →
    Walking find s at counts first n p₀ i₀ p₀ i₀ 0 0 at 0
unfolding flat
walking_start find s at counts first n p₀ i₀ f = record {
  state = record { points = []; faces = [] };
  upto = omega arith;
  count = refl;
  few = omega arith;
  low = omega arith;
  left = omega arith;
  within = f.floats;
  points = refl;
  places = refl;
  long = refl;
  rest = refl;
}

module _ {find : Search} {s : List Float} {at : ℕ} {counts : List ℕ} {first n : ℕ} {p₀ : List Float} {i₀ : List ℕ} {p : List Float} {i : List ℕ} {m k o j : ℕ}
    (I : Walking find s at counts first n p₀ i₀ p i m k o j) (fits : Fits s counts at first n p₀ i₀) where
  pub walking_points : length p ≡ length p₀
  walking_points = ap length I.points ∙ length-sets p₀ 0 (floats_of I.state.points)

  pub walking_places : length i ≡ length i₀
  walking_places = ap length I.places ∙ length-sets i₀ 0 (flat I.state.faces)

  opens : j < n → drop j (counts_at counts first n) ≡ get_or counts (first + j) 0 ∷ drop (j + 1) (counts_at counts first n)
  opens h = next_count counts first n j h fits.faces

  face : j < n → cell_at s o (drop j (counts_at counts first n)) ≡ face_at s o (get_or counts (first + j) 0) ∷ cell_at s (o + 13 + 3 * get_or counts (first + j) 0) (drop (j + 1) (counts_at counts first n))
  face h = ap (cell_at s o) (opens h) ∙ cell_next s o (get_or counts (first + j) 0) (drop (j + 1) (counts_at counts first n))

  onwards : j < n → Within (drop (j + 1) (counts_at counts first n)) (o + 13 + 3 * get_or counts (first + j) 0) (length s)
  onwards h = within_rest (get_or counts (first + j) 0) (drop (j + 1) (counts_at counts first n)) o (length s) (rw (opens h) at I.within)

  lefts : j < n → k + (get_or counts (first + j) 0 + corners 0 (cell_at s (o + 13 + 3 * get_or counts (first + j) 0) (drop (j + 1) (counts_at counts first n)))) ≡ corners 0 (cell_at s at (counts_at counts first n))
  lefts h =
      let c = get_or counts (first + j) 0 in
      let f = face_at s o c in
      let r = cell_at s (o + 13 + 3 * c) (drop (j + 1) (counts_at counts first n)) in
      let a : corners 0 (cell_at s o (drop j (counts_at counts first n))) ≡ length (points_at s (o + 13) c) + corners 0 r = ap (corners 0) (face h) ∙ corners_cons f r in
      omega (arith, I.left, length_points_at s (o + 13) c)

  pub walking_asks : j < n → Asked s p i m k o (get_or counts (first + j) 0)
  walking_asks h =
      let a = lefts h in
      let b = within_le (drop (j + 1) (counts_at counts first n)) _ (length s) (onwards h) in
      record { floats = b; points = omega (arith, I.few, fits.points, walking_points); places = omega (arith, fits.places, walking_places); all = omega (arith, I.low) }

  held' : points_at p 0 m ≡ I.state.points
  held' =
      let h : 3 * length I.state.points ≤ length p₀ = omega (arith, I.count, I.few, I.left, fits.points) in
      ap (λ z. points_at z 0 m) I.points ∙ ap (points_at (sets p₀ 0 (floats_of I.state.points)) 0) I.count ∙ points_stored p₀ I.state.points h

  turn' : j < n → walk (index_face find) I.state (face_at s o (get_or counts (first + j) 0) ∷ cell_at s (o + 13 + 3 * get_or counts (first + j) 0) (drop (j + 1) (counts_at counts first n))) ≡ index_faces find (cell_at s at (counts_at counts first n))
  turn' h = ap (walk (index_face find) I.state) (sym (face h)) ∙ I.rest

  faced : {z : Outcome Places} (c : ℕ) → index_points find (points_at p 0 m) (points_at s (o + 13) c) ≡ z → index_points find I.state.points (points_at s (o + 13) c) ≡ z
  faced c e = ap (λ l. index_points find l (points_at s (o + 13) c)) (sym held') ∙ e

  pub walking_step : (p' : List Float) (i' : List ℕ) (e : ℕ) (r : Outcome ℕ) → j < n → r ≡ Ok e →
      Placed (index_points find (points_at p 0 m) (points_at s (o + 13) (get_or counts (first + j) 0))) m (get_or counts (first + j) 0) k p i p' i' r →
      Walking find s at counts first n p₀ i₀ p' i' e (k + get_or counts (first + j) 0) (o + (13 + 3 * get_or counts (first + j) 0)) (j + 1)
  unfolding index_face
  walking_step p' i' e r h g f =
      let c = get_or counts (first + j) 0 in
      let z = placed_made (index_points find (points_at p 0 m) (points_at s (o + 13) c)) m c k p i p' i' r e f g in
      let S = I.state in
      let P = z.0 in
      let a : index_face find S (face_at s o c) ≡ Ok (with_face S P) = go (index_points find S.points (points_at s (o + 13) c)) _ P (faced c z.1) in
      let u : o + 13 + 3 * c ≡ o + (13 + 3 * c) = omega arith in
      let q : length (floats_of S.points) ≤ length (floats_of P.points) = omega (arith, length_floats_of S.points, length_floats_of P.points, I.count, z.2, z.3) in
      let lf = lefts h in
      record {
        state = with_face S P;
        upto = omega arith;
        count = z.2;
        few = omega (arith, I.few, z.4);
        low = omega (arith, I.low);
        left = ap (λ y. k + c + corners 0 (cell_at s y (drop (j + 1) (counts_at counts first n)))) (sym u) ∙ omega (arith, lf);
        within = subst (λ y. Within (drop (j + 1) (counts_at counts first n)) y (length s)) u (onwards h);
        points = z.6 ∙ ap (λ y. sets y 0 (floats_of P.points)) I.points ∙ sets_over p₀ 0 (floats_of S.points) (floats_of P.points) q;
        places = z.7 ∙ ap (λ y. sets y k P.places) I.places ∙ ap (λ y. sets (sets i₀ 0 (flat S.faces)) y P.places) (sym I.long ∙ omega arith)
            ∙ sets_append i₀ 0 (flat S.faces) P.places ∙ ap (sets i₀ 0) (sym (flat_snoc S.faces P.places));
        long = ap length (flat_snoc S.faces P.places) ∙ length-append (flat S.faces) P.places ∙ omega (arith, I.long, z.5);
        rest = ap (λ y. walk (index_face find) (with_face S P) (cell_at s y (drop (j + 1) (counts_at counts first n)))) (sym u) ∙ sym (walk_go (index_face find) S _ _ _ a) ∙ turn' h;
      }

  pub walking_stop : (p' : List Float) (i' : List ℕ) (x : Refusal) (r r' : Outcome ℕ) → j < n → r ≡ Err x → r' ≡ Err x →
      Placed (index_points find (points_at p 0 m) (points_at s (o + 13) (get_or counts (first + j) 0))) m (get_or counts (first + j) 0) k p i p' i' r →
      Stored (index_faces find (cell_at s at (counts_at counts first n))) p₀ i₀ p' i' r'
  unfolding index_face Stored
  walking_stop p' i' x r r' h g g' f =
      let c = get_or counts (first + j) 0 in
      let z = placed_not (index_points find (points_at p 0 m) (points_at s (o + 13) c)) m c k p i p' i' r x f g in
      let a : index_face find I.state (face_at s o c) ≡ Err x = stop (index_points find I.state.points (points_at s (o + 13) c)) _ x (faced c z.0) in
      let y : index_faces find (cell_at s at (counts_at counts first n)) ≡ Err x = sym (turn' h) ∙ walk_stop (index_face find) I.state _ _ x a in
      subst (λ w. Stored w p₀ i₀ p' i' r') (sym y) (g', z.1 ∙ walking_points, z.2 ∙ walking_places)

  pub walking_end : (r : Outcome ℕ) → n ≤ j → r ≡ Ok m → Stored (index_faces find (cell_at s at (counts_at counts first n))) p₀ i₀ p i r
  unfolding Stored
  walking_end r h g =
      let d : cell_at s o (drop j (counts_at counts first n)) ≡ [] = ap (cell_at s o) (counts_done counts first n j h) ∙ cell_none s o in
      let y : index_faces find (cell_at s at (counts_at counts first n)) ≡ Ok I.state = sym I.rest ∙ ap (walk (index_face find) I.state) d ∙ walk_end (index_face find) I.state in
      subst (λ w. Stored w p₀ i₀ p i r) (sym y) (g ∙ ap Ok I.count, I.points, I.places)

-- the lengths stay
pub stored_points : (o : Outcome Solid) (p₀ : List Float) (i₀ : List ℕ) (p : List Float) (i : List ℕ) (r : Outcome ℕ) → Stored o p₀ i₀ p i r → length p ≡ length p₀
unfolding Stored
stored_points (Ok s) p₀ i₀ p i r h = ap length h.1 ∙ length-sets p₀ 0 (floats_of s.points)
stored_points (Err x) p₀ i₀ p i r h = h.1

pub stored_places : (o : Outcome Solid) (p₀ : List Float) (i₀ : List ℕ) (p : List Float) (i : List ℕ) (r : Outcome ℕ) → Stored o p₀ i₀ p i r → length i ≡ length i₀
unfolding Stored
stored_places (Ok s) p₀ i₀ p i r h = ap length h.2 ∙ length-sets i₀ 0 (flat s.faces)
stored_places (Err x) p₀ i₀ p i r h = h.2
