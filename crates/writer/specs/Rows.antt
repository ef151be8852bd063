-- A row of records of one width, written one after another: one law for the points, the corners, the counts.
use Rattle.std.specs.Prelude.{◌≡◌, refl, List, [], ◌∷◌, ◌++◌, ℕ, suc, ◌+◌, ◌*◌, ◌≤◌, ◌<◌, length, drop, get_or, Float}
use Rattle.std.proofs.Common.{sym, ◌∙◌, arith, mul-add, mul-one, mul-zero, add-zero, length-append}
use Rattle.std.proofs.Math.Path.{ap, subst}
use Rattle.std.proofs.lemmas.List.Edits.{sets}
use Rattle.std.proofs.Math.Seq.{length-sets}
use Rattle.space.specs.declared.Point3.{Point3}
use Rattle.polygon.specs.Memory.{point_at, points_at}
use Rattle.room.specs.Rooms.{counts_at}
use Rattle.room.specs.Laws.{sets_append, next_point, points_done, next_count, counts_done}
use Rattle.solids.specs.Frames.{faces_at, Placing}
use Rattle.solids.specs.Faces.{length_face, placing_le}

-- the bytes of all elements, one after another
unfoldable pub row : {A : Type 0} → (A → List ℕ) → List A → List ℕ
row e [] = []
row e (x ∷ l) = e x ++ row e l

-- what is written so far, and the rest, give the whole row
pub record Rowing {A : Type 0} (e : A → List ℕ) (w : ℕ) (l : List A) (out₀ : List ℕ) (at : ℕ) (out : List ℕ) (i : ℕ) : Type 0 where
  pub same : length out ≡ length out₀
  pub whole : sets out (at + w * i) (row e (drop i l)) ≡ sets out₀ at (row e l)

pub rowing_start : {A : Type 0} (e : A → List ℕ) (w : ℕ) (l : List A) (out : List ℕ) (at : ℕ) → Rowing e w l out at out 0
rowing_start e w l out at = record { same = refl; whole = ap (λ k. sets out k (row e l)) (ap (λ k. at + k) (mul-zero w) ∙ add-zero at) }

pub rowing_turn : {A : Type 0} (e : A → List ℕ) (w : ℕ) (l : List A) (out₀ : List ℕ) (at : ℕ) (out : List ℕ) (i : ℕ) (x : A) (out' : List ℕ) → Rowing e w l out₀ at out i →
    drop i l ≡ x ∷ drop (i + 1) l → length (e x) ≡ w → out' ≡ sets out (at + w * i) (e x) → Rowing e w l out₀ at out' (i + 1)
unfolding row
rowing_turn e w l out₀ at out i x out' v d n q =
    let m : w * (i + 1) ≡ w * i + w = mul-add w i 1 ∙ ap (λ k. w * i + k) (mul-one w) in
    let k : at + w * (i + 1) ≡ at + w * i + length (e x) = omega (arith, m, n) in
    record {
      same = ap length q ∙ length-sets out (at + w * i) (e x) ∙ v.same;
      whole = ap (λ y. sets y (at + w * (i + 1)) (row e (drop (i + 1) l))) q ∙ ap (λ y. sets (sets out (at + w * i) (e x)) y (row e (drop (i + 1) l))) k
          ∙ sets_append out (at + w * i) (e x) (row e (drop (i + 1) l)) ∙ ap (λ y. sets out (at + w * i) (row e y)) (sym d) ∙ v.whole;
    }

pub rowing_end : {A : Type 0} (e : A → List ℕ) (w : ℕ) (l : List A) (out₀ : List ℕ) (at : ℕ) (out : List ℕ) (i : ℕ) → Rowing e w l out₀ at out i → drop i l ≡ [] → out ≡ sets out₀ at (row e l)
unfolding row
rowing_end e w l out₀ at out i v d = sym (ap (λ y. sets out (at + w * i) (row e y)) d) ∙ v.whole

pub length_row : {A : Type 0} (e : A → List ℕ) (w : ℕ) → ((x : A) → length (e x) ≡ w) → (l : List A) → length (row e l) ≡ w * length l
unfolding row
length_row e w h [] = sym (mul-zero w)
length_row e w h (x ∷ l) =
    let m : w * (1 + length l) ≡ w + w * length l = mul-add w 1 (length l) ∙ ap (λ k. k + w * length l) (mul-one w) in
    let s : w * suc (length l) ≡ w * (1 + length l) = ap (λ k. w * k) (omega arith) in
    omega (arith, length-append (e x) (row e l), h x, length_row e w h l, m, s)

-- ---- the points in a slice

pub record PointRow (e : Point3 → List ℕ) (w : ℕ) (s : List Float) (from m : ℕ) (out₀ : List ℕ) (at : ℕ) (out : List ℕ) (i : ℕ) : Type 0 where
  pub within : i ≤ m
  pub rowing : Rowing e w (points_at s from m) out₀ at out i

pub points_start : (e : Point3 → List ℕ) (w : ℕ) (s : List Float) (from m : ℕ) (out : List ℕ) (at : ℕ) → PointRow e w s from m out at out 0
points_start e w s from m out at = record { within = omega arith; rowing = rowing_start e w (points_at s from m) out at }

pub points_turn : (e : Point3 → List ℕ) (w : ℕ) (h : (p : Point3) → length (e p) ≡ w) {s : List Float} {from m : ℕ} {out₀ : List ℕ} {at : ℕ} {out : List ℕ} {i : ℕ} (q : Point3) (out' : List ℕ) →
    PointRow e w s from m out₀ at out i → i < m → q ≡ point_at s (from + 3 * i) → out' ≡ sets out (at + w * i) (e q) → PointRow e w s from m out₀ at out' (i + 1)
points_turn e w h {s} {from} {m} {out₀} {at} {out} {i} q out' v b p g =
    record {
      within = omega arith;
      rowing = rowing_turn e w (points_at s from m) out₀ at out i q out' v.rowing (next_point s from m i b ∙ ap (λ x. x ∷ drop (i + 1) (points_at s from m)) (sym p)) (h q) g;
    }

-- points from the front of the slice on
pub front_turn : (e : Point3 → List ℕ) (w : ℕ) (h : (p : Point3) → length (e p) ≡ w) {s : List Float} {m : ℕ} {out₀ : List ℕ} {at : ℕ} {out : List ℕ} {i : ℕ} (q : Point3) (out' : List ℕ) →
    PointRow e w s 0 m out₀ at out i → i < m → q ≡ point_at s (3 * i) → out' ≡ sets out (at + w * i) (e q) → PointRow e w s 0 m out₀ at out' (i + 1)
front_turn e w h {s} {m} {out₀} {at} {out} {i} q out' v b p g = points_turn e w h q out' v b (p ∙ ap (point_at s) (omega arith)) g

pub points_end : (e : Point3 → List ℕ) (w : ℕ) {s : List Float} {from m : ℕ} {out₀ : List ℕ} {at : ℕ} {out : List ℕ} {i : ℕ} → PointRow e w s from m out₀ at out i → m ≤ i → out ≡ sets out₀ at (row e (points_at s from m))
points_end e w {s} {from} {m} {out₀} {at} {out} {i} v b = rowing_end e w (points_at s from m) out₀ at out i v.rowing (points_done s from m i b)

-- ---- the numbers in a slice

pub record NumberRow (e : ℕ → List ℕ) (w : ℕ) (l : List ℕ) (k n : ℕ) (out₀ : List ℕ) (at : ℕ) (out : List ℕ) (i : ℕ) : Type 0 where
  pub within : i ≤ n
  pub rowing : Rowing e w (counts_at l k n) out₀ at out i

pub numbers_start : (e : ℕ → List ℕ) (w : ℕ) (l : List ℕ) (k n : ℕ) (out : List ℕ) (at : ℕ) → NumberRow e w l k n out at out 0
numbers_start e w l k n out at = record { within = omega arith; rowing = rowing_start e w (counts_at l k n) out at }

pub numbers_turn : (e : ℕ → List ℕ) (w : ℕ) (h : (x : ℕ) → length (e x) ≡ w) {l : List ℕ} {k n : ℕ} {out₀ : List ℕ} {at : ℕ} {out : List ℕ} {i : ℕ} (out' : List ℕ) →
    NumberRow e w l k n out₀ at out i → i < n → k + n ≤ length l → out' ≡ sets out (at + w * i) (e (get_or l (k + i) 0)) → NumberRow e w l k n out₀ at out' (i + 1)
numbers_turn e w h {l} {k} {n} {out₀} {at} {out} {i} out' v b c g =
    record {
      within = omega arith;
      rowing = rowing_turn e w (counts_at l k n) out₀ at out i (get_or l (k + i) 0) out' v.rowing (next_count l k n i b c) (h (get_or l (k + i) 0)) g;
    }

pub numbers_end : (e : ℕ → List ℕ) (w : ℕ) {l : List ℕ} {k n : ℕ} {out₀ : List ℕ} {at : ℕ} {out : List ℕ} {i : ℕ} → NumberRow e w l k n out₀ at out i → n ≤ i → out ≡ sets out₀ at (row e (counts_at l k n))
numbers_end e w {l} {k} {n} {out₀} {at} {out} {i} v b = rowing_end e w (counts_at l k n) out₀ at out i v.rowing (counts_done l k n i b)

-- ---- the faces of a solid, each of its own width: a + b for each corner

pub record FaceRow (e : List ℕ → List ℕ) (places counts : List ℕ) (n : ℕ) (out₀ : List ℕ) (at : ℕ) (out : List ℕ) (k o j : ℕ) : Type 0 where
  pub within : j ≤ n
  pub same : length out ≡ length out₀
  pub left : Placing (drop j (counts_at counts 0 n)) k (length places)
  pub place : o + length (row e (faces_at places k (drop j (counts_at counts 0 n)))) ≡ at + length (row e (faces_at places 0 (counts_at counts 0 n)))
  pub whole : sets out o (row e (faces_at places k (drop j (counts_at counts 0 n)))) ≡ sets out₀ at (row e (faces_at places 0 (counts_at counts 0 n)))

pub faces_start : (e : List ℕ → List ℕ) (places counts : List ℕ) (n : ℕ) (out : List ℕ) (at : ℕ) → Placing (counts_at counts 0 n) 0 (length places) → FaceRow e places counts n out at out 0 at 0
faces_start e places counts n out at l = record { within = omega arith; same = refl; left = l; place = refl; whole = refl }

-- the face at hand, and those behind it
module _ {e : List ℕ → List ℕ} {places counts : List ℕ} {n : ℕ} {out₀ : List ℕ} {at : ℕ} {out : List ℕ} {k o j : ℕ} (v : FaceRow e places counts n out₀ at out k o j) (h : j < n) (few : n ≤ length counts) where
  abbrev rest : List (List ℕ)
  rest = faces_at places (k + get_or counts j 0) (drop (j + 1) (counts_at counts 0 n))

  abbrev face : List ℕ
  face = e (counts_at places k (get_or counts j 0))

  sizes : drop j (counts_at counts 0 n) ≡ get_or counts j 0 ∷ drop (j + 1) (counts_at counts 0 n)
  sizes = next_count counts 0 n j h (omega arith) ∙ ap (λ i. get_or counts i 0 ∷ drop (j + 1) (counts_at counts 0 n)) (omega arith)

  left_after : Placing (drop (j + 1) (counts_at counts 0 n)) (k + get_or counts j 0) (length places)
  unfolding Placing
  left_after = subst (λ ns. Placing ns k (length places)) sizes v.left

  pub face_fits : k + get_or counts j 0 ≤ length places
  face_fits = placing_le _ _ _ left_after

  pub face_corners : length (counts_at places k (get_or counts j 0)) ≡ get_or counts j 0
  face_corners = length_face places k (get_or counts j 0) face_fits

  bytes : row e (faces_at places k (drop j (counts_at counts 0 n))) ≡ face ++ row e rest
  unfolding row faces_at
  bytes = ap (λ ns. row e (faces_at places k ns)) sizes

  pub face_inside : at + length (row e (faces_at places 0 (counts_at counts 0 n))) ≤ length out₀ → o + length face ≤ length out
  face_inside b = omega (arith, b, v.place, v.same, ap length bytes, length-append face (row e rest))

  pub faces_turn : (out' : List ℕ) (o' : ℕ) → out' ≡ sets out o face → o' ≡ o + length face → FaceRow e places counts n out₀ at out' (k + get_or counts j 0) o' (j + 1)
  faces_turn out' o' w g =
      record {
        within = omega arith;
        same = ap length w ∙ length-sets out o face ∙ v.same;
        left = left_after;
        place = omega (arith, g, v.place, ap length bytes, length-append face (row e rest));
        whole = ap (λ x. sets x o' (row e rest)) w ∙ ap (λ i. sets (sets out o face) i (row e rest)) g ∙ sets_append out o face (row e rest) ∙ ap (sets out o) (sym bytes) ∙ v.whole;
      }

pub faces_end : {e : List ℕ → List ℕ} {places counts : List ℕ} {n : ℕ} {out₀ : List ℕ} {at : ℕ} {out : List ℕ} {k o j : ℕ} → FaceRow e places counts n out₀ at out k o j → n ≤ j →
    (o ≡ at + length (row e (faces_at places 0 (counts_at counts 0 n)))) × (out ≡ sets out₀ at (row e (faces_at places 0 (counts_at counts 0 n))))
unfolding row faces_at
faces_end {e} {places} {counts} {n} {out₀} {at} {out} {k} {o} {j} v h =
    let d : row e (faces_at places k (drop j (counts_at counts 0 n))) ≡ [] = ap (λ ns. row e (faces_at places k ns)) (counts_done counts 0 n j h) in
    (omega (arith, v.place, ap length d), sym (ap (sets out o) d) ∙ v.whole)
