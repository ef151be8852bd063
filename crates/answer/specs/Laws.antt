-- Laws of the writers of answers, in the words of the code.
use Rattle.std.specs.Prelude.{◌≡◌, refl, List, [], ◌∷◌, ◌++◌, ℕ, ◌+◌, ◌*◌, ◌≤◌, ◌<◌, length, drop, get_or, set, Float}
use Rattle.std.proofs.Math.Path.{sym, ap}
use Rattle.std.proofs.Common.{◌∙◌, subst, append_assoc, arith, add-one, length-append}
use Rattle.std.proofs.lemmas.List.Edits.{sets}
use Rattle.std.proofs.Math.Seq.{length-sets}
use Rattle.space.specs.declared.Point3.{Point3}
use Rattle.space.specs.declared.Plane.{Plane}
use Rattle.space.specs.Shapes.{Face, Cell, Solid}
use Rattle.words.specs.Little.{digits, float_bytes}
use Rattle.words.specs.Laws.{length_digits, length_float}
use Rattle.polygon.specs.Memory.{points_at}
use Rattle.polygon.specs.MemoryLaws.{length_points_at}
use Rattle.room.specs.Rooms.{counts_at, plane_at, face_at, cell_at, Within}
use Rattle.room.specs.Laws.{sets_append, next_count, counts_done, cell_next, cell_none, within_rest, within_le, cell_faces}
use Rattle.job.specs.Written.{point_bytes, length_point}
use Rattle.solids.specs.Frames.{faces_at}
use Rattle.solids.specs.Faces.{length_face, length_faces_at}
use Rattle.indexed.specs.Stored.{flat}
use Rattle.writer.specs.Rows.{row, length_row}
use Rattle.writer.specs.Writing.{solid_in}
use Rattle.answer.specs.Answers.{face_answer, solid_answer, plane_bytes, facet_answer, shell_answer}

-- two stores, one behind the other
pub then_sets : (out a b : List ℕ) (at i : ℕ) (x y : List ℕ) → a ≡ sets out at x → b ≡ sets a i y → i ≡ at + length x → b ≡ sets out at (x ++ y)
then_sets out a b at i x y p q e = q ∙ ap (λ z. sets z i y) p ∙ ap (λ k. sets (sets out at x) k y) e ∙ sets_append out at x y

pub length_count : (x : ℕ) → length (digits 4 x) ≡ 4
length_count x = length_digits 4 x

-- ---- faces by their places

pub length_face_answer : (f : List ℕ) → length (face_answer f) ≡ 4 + 4 * length f
unfolding face_answer
length_face_answer f = omega (arith, length-append (digits 4 (length f)) (row (digits 4) f), length_count (length f), length_row (digits 4) 4 length_count f)

pub face_stored : (out a b : List ℕ) (at : ℕ) (l : List ℕ) (k n : ℕ) → k + n ≤ length l → a ≡ sets out at (digits 4 n) → b ≡ sets a (at + 4) (row (digits 4) (counts_at l k n)) → b ≡ sets out at (face_answer (counts_at l k n))
unfolding face_answer
face_stored out a b at l k n h p q =
    let e : n ≡ length (counts_at l k n) = sym (length_face l k n h) in
    then_sets out a b at (at + 4) (digits 4 (length (counts_at l k n))) (row (digits 4) (counts_at l k n)) (p ∙ ap (λ m. sets out at (digits 4 m)) e) q (ap (λ m. at + m) (sym (length_count (length (counts_at l k n)))))

-- ---- points

pub point_stored : (out a b c : List ℕ) (at : ℕ) (p : Point3) → a ≡ sets out at (float_bytes p.x) → b ≡ sets a (at + 8) (float_bytes p.y) → c ≡ sets b (at + 16) (float_bytes p.z) → c ≡ sets out at (point_bytes p)
unfolding point_bytes
point_stored out a b c at p x y z =
    let i : at + 8 ≡ at + length (float_bytes p.x) = omega (arith, length_float p.x) in
    let j : at + 16 ≡ at + length (float_bytes p.x ++ float_bytes p.y) = omega (arith, length-append (float_bytes p.x) (float_bytes p.y), length_float p.x, length_float p.y) in
    then_sets out b c at (at + 16) (float_bytes p.x ++ float_bytes p.y) (float_bytes p.z) (then_sets out a b at (at + 8) (float_bytes p.x) (float_bytes p.y) x y i) z j
    ∙ ap (sets out at) (append_assoc (float_bytes p.x) (float_bytes p.y) (float_bytes p.z))

length_points : (l : List Point3) → length (row point_bytes l) ≡ 24 * length l
length_points l = length_row point_bytes 24 length_point l

-- ---- solids

module _ (points : List Float) (m : ℕ) (places counts : List ℕ) (n : ℕ) where
  abbrev dots : List ℕ
  dots = row point_bytes (points_at points 0 m)

  abbrev faces : List ℕ
  faces = row face_answer (faces_at places 0 (counts_at counts 0 n))

  solid_parts : n ≡ length (faces_at places 0 (counts_at counts 0 n)) → solid_answer (solid_in points m places counts n) ≡ ((digits 4 m ++ dots) ++ digits 4 n) ++ faces
  unfolding solid_answer
  solid_parts e =
      ap (λ x. digits 4 x ++ (dots ++ (digits 4 (length (faces_at places 0 (counts_at counts 0 n))) ++ faces))) (length_points_at points 0 m)
      ∙ ap (λ x. digits 4 m ++ (dots ++ (digits 4 x ++ faces))) (sym e)
      ∙ sym (append_assoc (digits 4 m) dots (digits 4 n ++ faces))
      ∙ sym (append_assoc (digits 4 m ++ dots) (digits 4 n) faces)

  size_solid : n ≡ length (faces_at places 0 (counts_at counts 0 n)) → length (solid_answer (solid_in points m places counts n)) ≡ 8 + 24 * m + length faces
  size_solid e =
      omega (
        arith,
        ap length (solid_parts e),
        length-append ((digits 4 m ++ dots) ++ digits 4 n) faces,
        length-append (digits 4 m ++ dots) (digits 4 n),
        length-append (digits 4 m) dots,
        length_count m,
        length_count n,
        length_points (points_at points 0 m),
        length_points_at points 0 m,
      )

  pub solid_room : (at k : ℕ) → n ≡ length (faces_at places 0 (counts_at counts 0 n)) → at + length (solid_answer (solid_in points m places counts n)) ≤ k → at + 8 + 24 * m + length faces ≤ k
  solid_room at k e h = omega (arith, h, size_solid e)

  pub solid_end : (at r : ℕ) → n ≡ length (faces_at places 0 (counts_at counts 0 n)) → r ≡ at + 8 + 24 * m + length faces → r ≡ at + length (solid_answer (solid_in points m places counts n))
  solid_end at r e h = omega (arith, h, size_solid e)

  pub solid_stored : (out a b c d : List ℕ) (at : ℕ) → n ≡ length (faces_at places 0 (counts_at counts 0 n)) → a ≡ sets out at (digits 4 m) → b ≡ sets a (at + 4) dots → c ≡ sets b (at + 4 + 24 * m) (digits 4 n) →
      d ≡ sets c (at + 8 + 24 * m) faces → d ≡ sets out at (solid_answer (solid_in points m places counts n))
  solid_stored out a b c d at e p q r s =
      let i : at + 4 ≡ at + length (digits 4 m) = omega (arith, length_count m) in
      let k : length (digits 4 m ++ dots) ≡ 4 + 24 * m = omega (arith, length-append (digits 4 m) dots, length_count m, length_points (points_at points 0 m), length_points_at points 0 m) in
      let j : at + 4 + 24 * m ≡ at + length (digits 4 m ++ dots) = omega (arith, k) in
      let l : at + 8 + 24 * m ≡ at + length ((digits 4 m ++ dots) ++ digits 4 n) = omega (arith, k, length-append (digits 4 m ++ dots) (digits 4 n), length_count n) in
      let x = then_sets out a b at (at + 4) (digits 4 m) dots p q i in
      let y = then_sets out b c at (at + 4 + 24 * m) (digits 4 m ++ dots) (digits 4 n) x r j in
      then_sets out c d at (at + 8 + 24 * m) ((digits 4 m ++ dots) ++ digits 4 n) faces y s l ∙ ap (sets out at) (sym (solid_parts e))

-- how many faces there are
pub faces_number : (places counts : List ℕ) (n : ℕ) → n ≤ length counts → n ≡ length (faces_at places 0 (counts_at counts 0 n))
faces_number places counts n h = sym (length_faces_at places 0 (counts_at counts 0 n) ∙ length_face counts 0 n (omega arith))

-- ---- how many bytes a solid has

faces_size : (fs : List (List ℕ)) → length (row face_answer fs) ≡ 4 * length fs + 4 * length (flat fs)
unfolding row flat
faces_size [] = refl
faces_size (f ∷ fs) = omega (arith, length-append (face_answer f) (row face_answer fs), length_face_answer f, faces_size fs, length-append f (flat fs))

pub solid_size : (s : Solid) → length (solid_answer s) ≡ 8 + 24 * length s.points + 4 * length s.faces + 4 * length (flat s.faces)
unfolding solid_answer
solid_size s =
    let a = row point_bytes s.points in
    let b = row face_answer s.faces in
    omega (
      arith,
      length-append (digits 4 (length s.points)) (a ++ (digits 4 (length s.faces) ++ b)),
      length-append a (digits 4 (length s.faces) ++ b),
      length-append (digits 4 (length s.faces)) b,
      length_count (length s.points),
      length_count (length s.faces),
      length_row point_bytes 24 length_point s.points,
      faces_size s.faces,
    )

-- ---- facets in a room

pub length_plane : (w : Plane) → length (plane_bytes w) ≡ 96
unfolding plane_bytes
length_plane w =
    let f = w.frame in
    omega (
      arith,
      length-append (point_bytes f.origin) (point_bytes f.x ++ (point_bytes f.y ++ point_bytes f.z)),
      length-append (point_bytes f.x) (point_bytes f.y ++ point_bytes f.z),
      length-append (point_bytes f.y) (point_bytes f.z),
      length_point f.origin,
      length_point f.x,
      length_point f.y,
      length_point f.z,
    )

pub plane_stored : (out a b c d : List ℕ) (at : ℕ) (w : Plane) → a ≡ sets out at (point_bytes w.frame.origin) → b ≡ sets a (at + 24) (point_bytes w.frame.x) →
    c ≡ sets b (at + 48) (point_bytes w.frame.y) → d ≡ sets c (at + 72) (point_bytes w.frame.z) → d ≡ sets out at (plane_bytes w)
unfolding plane_bytes
plane_stored out a b c d at w p q r s =
    let f = w.frame in
    let o = point_bytes f.origin in
    let x = point_bytes f.x in
    let y = point_bytes f.y in
    let z = point_bytes f.z in
    let i : at + 24 ≡ at + length o = omega (arith, length_point f.origin) in
    let k : length (o ++ x) ≡ 48 = omega (arith, length-append o x, length_point f.origin, length_point f.x) in
    let m : length ((o ++ x) ++ y) ≡ 72 = omega (arith, length-append (o ++ x) y, k, length_point f.y) in
    let e1 = then_sets out a b at (at + 24) o x p q i in
    let e2 = then_sets out b c at (at + 48) (o ++ x) y e1 r (omega (arith, k)) in
    then_sets out c d at (at + 72) ((o ++ x) ++ y) z e2 s (omega (arith, m)) ∙ ap (sets out at) (append_assoc (o ++ x) y z ∙ append_assoc o x (y ++ z))

pub length_facet : (f : Face) → length (facet_answer f) ≡ 100 + 24 * length f.points
unfolding facet_answer
length_facet f =
    omega (
      arith,
      length-append (plane_bytes f.plane) (digits 4 (length f.points) ++ row point_bytes f.points),
      length-append (digits 4 (length f.points)) (row point_bytes f.points),
      length_plane f.plane,
      length_count (length f.points),
      length_points f.points,
    )

pub facet_stored : (out a b c : List ℕ) (at : ℕ) (s : List Float) (from n : ℕ) (w : Plane) → w ≡ plane_at s from → a ≡ sets out at (plane_bytes w) → b ≡ sets a (at + 96) (digits 4 n) →
    c ≡ sets b (at + 100) (row point_bytes (points_at s (from + 13) n)) → c ≡ sets out at (facet_answer (face_at s from n))
unfolding facet_answer
facet_stored out a b c at s from n w e p q r =
    let l = points_at s (from + 13) n in
    let k : length (plane_bytes (plane_at s from) ++ digits 4 n) ≡ 100 = omega (arith, length-append (plane_bytes (plane_at s from)) (digits 4 n), length_plane (plane_at s from), length_count n) in
    let x = then_sets out a b at (at + 96) (plane_bytes (plane_at s from)) (digits 4 n) (p ∙ ap (λ v. sets out at (plane_bytes v)) e) q (omega (arith, length_plane (plane_at s from))) in
    then_sets out b c at (at + 100) (plane_bytes (plane_at s from) ++ digits 4 n) (row point_bytes l) x r (omega (arith, k))
    ∙ ap (sets out at) (append_assoc (plane_bytes (plane_at s from)) (digits 4 n) (row point_bytes l) ∙ ap (λ m. plane_bytes (plane_at s from) ++ (digits 4 m ++ row point_bytes l)) (sym (length_points_at s (from + 13) n)))

-- ---- all facets of a room

pub record FacetRow (s : List Float) (from : ℕ) (sizes : List ℕ) (j faces : ℕ) (out₀ : List ℕ) (at : ℕ) (out : List ℕ) (o p i : ℕ) : Type 0 where
  pub within : i ≤ faces
  pub same : length out ≡ length out₀
  pub left : Within (drop i (counts_at sizes j faces)) o (length s)
  pub place : p + length (row facet_answer (cell_at s o (drop i (counts_at sizes j faces)))) ≡ at + length (row facet_answer (cell_at s from (counts_at sizes j faces)))
  pub whole : sets out p (row facet_answer (cell_at s o (drop i (counts_at sizes j faces)))) ≡ sets out₀ at (row facet_answer (cell_at s from (counts_at sizes j faces)))

pub facets_start : (s : List Float) (from : ℕ) (sizes : List ℕ) (j faces : ℕ) (out : List ℕ) (at : ℕ) → Within (counts_at sizes j faces) from (length s) → FacetRow s from sizes j faces out at out from at 0
facets_start s from sizes j faces out at l = record { within = omega arith; same = refl; left = l; place = refl; whole = refl }

module _ {s : List Float} {from : ℕ} {sizes : List ℕ} {j faces : ℕ} {out₀ : List ℕ} {at : ℕ} {out : List ℕ} {o p i : ℕ} (v : FacetRow s from sizes j faces out₀ at out o p i) (h : i < faces) (few : j + faces ≤ length sizes) where
  abbrev size : ℕ
  size = get_or sizes (j + i) 0

  abbrev rest : Cell
  rest = cell_at s (o + 13 + 3 * get_or sizes (j + i) 0) (drop (i + 1) (counts_at sizes j faces))

  abbrev facet : List ℕ
  facet = facet_answer (face_at s o (get_or sizes (j + i) 0))

  ahead : drop i (counts_at sizes j faces) ≡ get_or sizes (j + i) 0 ∷ drop (i + 1) (counts_at sizes j faces)
  ahead = next_count sizes j faces i h few

  left_after : Within (drop (i + 1) (counts_at sizes j faces)) (o + 13 + 3 * get_or sizes (j + i) 0) (length s)
  left_after = within_rest _ _ _ _ (subst (λ ns. Within ns o (length s)) ahead v.left)

  pub facet_fits : o + 13 + 3 * get_or sizes (j + i) 0 ≤ length s
  facet_fits = within_le _ _ _ left_after

  bytes : row facet_answer (cell_at s o (drop i (counts_at sizes j faces))) ≡ facet ++ row facet_answer rest
  unfolding row
  bytes = ap (λ ns. row facet_answer (cell_at s o ns)) ahead ∙ ap (row facet_answer) (cell_next s o (get_or sizes (j + i) 0) (drop (i + 1) (counts_at sizes j faces)))

  facet_length : length facet ≡ 100 + 24 * get_or sizes (j + i) 0
  facet_length = length_facet (face_at s o (get_or sizes (j + i) 0)) ∙ ap (λ m. 100 + 24 * m) (length_points_at s (o + 13) (get_or sizes (j + i) 0))

  pub facet_inside : at + length (row facet_answer (cell_at s from (counts_at sizes j faces))) ≤ length out₀ → p + 100 + 24 * get_or sizes (j + i) 0 ≤ length out
  facet_inside b = omega (arith, b, v.place, v.same, ap length bytes, length-append facet (row facet_answer rest), facet_length)

  pub facets_turn : (out' : List ℕ) → out' ≡ sets out p facet → FacetRow s from sizes j faces out₀ at out' (o + (13 + 3 * get_or sizes (j + i) 0)) (p + (100 + 24 * get_or sizes (j + i) 0)) (i + 1)
  facets_turn out' w =
      let e : o + (13 + 3 * get_or sizes (j + i) 0) ≡ o + 13 + 3 * get_or sizes (j + i) 0 = omega arith in
      let g : p + (100 + 24 * get_or sizes (j + i) 0) ≡ p + length facet = omega (arith, facet_length) in
      let r : cell_at s (o + (13 + 3 * get_or sizes (j + i) 0)) (drop (i + 1) (counts_at sizes j faces)) ≡ rest = ap (λ x. cell_at s x (drop (i + 1) (counts_at sizes j faces))) e in
      record {
        within = omega arith;
        same = ap length w ∙ length-sets out p facet ∙ v.same;
        left = subst (λ x. Within (drop (i + 1) (counts_at sizes j faces)) x (length s)) (sym e) left_after;
        place = omega (arith, g, v.place, ap length bytes, length-append facet (row facet_answer rest), ap (λ c. length (row facet_answer c)) r);
        whole = ap (λ c. sets out' (p + (100 + 24 * get_or sizes (j + i) 0)) (row facet_answer c)) r ∙ ap (λ x. sets x (p + (100 + 24 * get_or sizes (j + i) 0)) (row facet_answer rest)) w
            ∙ ap (λ x. sets (sets out p facet) x (row facet_answer rest)) g ∙ sets_append out p facet (row facet_answer rest) ∙ ap (sets out p) (sym bytes) ∙ v.whole;
      }

pub facets_end : {s : List Float} {from : ℕ} {sizes : List ℕ} {j faces : ℕ} {out₀ : List ℕ} {at : ℕ} {out : List ℕ} {o p i : ℕ} → FacetRow s from sizes j faces out₀ at out o p i → faces ≤ i →
    (p ≡ at + length (row facet_answer (cell_at s from (counts_at sizes j faces)))) × (out ≡ sets out₀ at (row facet_answer (cell_at s from (counts_at sizes j faces))))
unfolding row
facets_end {s} {from} {sizes} {j} {faces} {out₀} {at} {out} {o} {p} {i} v h =
    let d : row facet_answer (cell_at s o (drop i (counts_at sizes j faces))) ≡ [] = ap (λ ns. row facet_answer (cell_at s o ns)) (counts_done sizes j faces i h) ∙ ap (row facet_answer) (cell_none s o) in
    (omega (arith, v.place, ap length d), sym (ap (sets out p) d) ∙ v.whole)

-- ---- a shell

module _ (sense : ℕ) (s : List Float) (from : ℕ) (sizes : List ℕ) (j faces : ℕ) (few : j + faces ≤ length sizes) where
  abbrev facets : List ℕ
  facets = row facet_answer (cell_at s from (counts_at sizes j faces))

  number : length (cell_at s from (counts_at sizes j faces)) ≡ faces
  number = cell_faces s from sizes j faces few

  shell_parts : shell_answer sense (cell_at s from (counts_at sizes j faces)) ≡ (sense ∷ digits 4 faces) ++ facets
  unfolding shell_answer
  shell_parts = ap (λ m. sense ∷ digits 4 m ++ facets) number

  size_shell : length (shell_answer sense (cell_at s from (counts_at sizes j faces))) ≡ 5 + length facets
  size_shell = omega (arith, ap length shell_parts, length-append (sense ∷ digits 4 faces) facets, length_count faces)

  pub shell_room : (at k : ℕ) → at + length (shell_answer sense (cell_at s from (counts_at sizes j faces))) ≤ k → at + 5 + length facets ≤ k
  shell_room at k h = omega (arith, h, size_shell)

  pub shell_end : (at r : ℕ) → r ≡ at + 5 + length facets → r ≡ at + length (shell_answer sense (cell_at s from (counts_at sizes j faces)))
  shell_end at r h = omega (arith, h, size_shell)

  pub shell_stored : (out a b c : List ℕ) (at : ℕ) → a ≡ set out at sense → b ≡ sets a (at + 1) (digits 4 faces) → c ≡ sets b (at + 5) facets → c ≡ sets out at (shell_answer sense (cell_at s from (counts_at sizes j faces)))
  shell_stored out a b c at p q r =
      let x : b ≡ sets out at (sense ∷ digits 4 faces) = q ∙ ap (λ x. sets x (at + 1) (digits 4 faces)) p ∙ ap (λ k. sets (set out at sense) k (digits 4 faces)) (add-one at) in
      then_sets out b c at (at + 5) (sense ∷ digits 4 faces) facets x r (omega (arith, length_count faces)) ∙ ap (sets out at) (sym shell_parts)
