-- Laws of the writer of fused bodies, in the words of the code.
use Rattle.std.specs.Prelude.{◌≡◌, refl, ℕ, ◌+◌, ◌-◌, ◌*◌, ◌≤◌, ◌<◌, Float, get_or, set}
use Rattle.std.proofs.Math.Path.{sym, ap, ap₂}
use Rattle.std.proofs.Common.{◌∙◌, arith}
use mathlib.Core.List.{List, [], ◌∷◌, ◌++◌, map, append_assoc}
use Rattle.std.proofs.Math.ListN.{length, length-append}
use Rattle.std.proofs.lemmas.List.{length-map}
use Rattle.std.proofs.Math.Seq.{sets, length-slice}
use Rattle.space.specs.declared.Point3.{Point3}
use Rattle.space.specs.declared.Plane.{Plane}
use Rattle.words.specs.Little.{digits}
use Rattle.polygon.specs.Memory.{point_at}
use Rattle.room.specs.Rooms.{counts_at, plane_at}
use Rattle.job.specs.Written.{point_bytes, length_point}
use Rattle.writer.specs.Rows.{row, NumberRow, numbers_turn, length_row}
use Rattle.keys.specs.Rows as K
use Rattle.cavities.specs.Steps.{part_slice}
use Rattle.answer.specs.Answers.{plane_bytes, facet_answer, shell_answer}
use Rattle.answer.specs.Laws.{then_sets, length_count, length_facet}
use Rattle.fused_answer.specs.Fused.{corner_bytes, facet_of, Drawn, facet_bytes, shell_bytes}

pub length_corner : (ps : List Float) (k : ℕ) → length (corner_bytes ps k) ≡ 24
unfolding corner_bytes
length_corner ps k = length_point (point_at ps (3 * k))

pub corner_turn : (ps : List Float) {v : List ℕ} {a n : ℕ} {out₀ : List ℕ} {at : ℕ} {out : List ℕ} {i : ℕ} (q : Point3) (out' : List ℕ) →
    NumberRow (corner_bytes ps) 24 v a n out₀ at out i → i < n → a + n ≤ length v → q ≡ point_at ps (3 * get_or v (a + i) 0) → out' ≡ sets out (at + 24 * i) (point_bytes q) → NumberRow (corner_bytes ps) 24 v a n out₀ at out' (i + 1)
unfolding corner_bytes
corner_turn ps {v} {a} {n} {out₀} {at} {out} {i} q out' w h l e g = numbers_turn (corner_bytes ps) 24 (length_corner ps) out' w h l (g ∙ ap (λ p. sets out (at + 24 * i) (point_bytes p)) e)

row_map : {A B : Type 0} (e : B → List ℕ) (g : A → B) (l : List A) → row e (map g l) ≡ row (λ x. e (g x)) l
unfolding row
row_map e g [] = refl
row_map e g (x ∷ l) = ap (λ r. e (g x) ++ r) (row_map e g l)

-- ---- one facet

module _ (s : List Float) (spots : List ℕ) (ps : List Float) (v starts : List ℕ) (f : ℕ) (w : Drawn s spots ps v starts f) (i : ℕ) (h : i < f) where
  abbrev pub from : ℕ
  from = get_or starts i 0

  abbrev pub many : ℕ
  many = get_or starts (i + 1) 0 - get_or starts i 0

  corners : row (corner_bytes ps) (counts_at v from many) ≡ row point_bytes (map (λ k. point_at ps (3 * k)) (K.row v starts i))
  unfolding corner_bytes
  corners = ap (row (corner_bytes ps)) (part_slice (get_or starts i 0) (get_or starts (i + 1) 0) v (w.fine.up i h) (w.fine.inn i h)) ∙ sym (row_map point_bytes (λ k. point_at ps (3 * k)) (K.row v starts i))

  count : length (map (λ k. point_at ps (3 * k)) (K.row v starts i)) ≡ many
  count = length-map (K.row v starts i) (λ k. point_at ps (3 * k)) ∙ length-slice (get_or starts i 0) (get_or starts (i + 1) 0) v (w.fine.inn i h)

  pub facet_size : length (facet_bytes s spots ps v starts i) ≡ 100 + 24 * many
  unfolding facet_bytes facet_of
  facet_size = length_facet (facet_of s spots ps v starts i) ∙ ap (λ n. 100 + 24 * n) count

  pub facet_within : from + many ≤ length v
  facet_within = omega (arith, w.fine.up i h, w.fine.inn i h)

  pub facet_up : get_or starts i 0 ≤ get_or starts (i + 1) 0
  facet_up = w.fine.up i h

  pub facet_room : (at n : ℕ) → at + length (facet_bytes s spots ps v starts i) ≤ n → at + 100 + 24 * many ≤ n
  facet_room at n l = omega (arith, l, facet_size)

  pub facet_end : (at : ℕ) → at + 100 + 24 * many ≡ at + length (facet_bytes s spots ps v starts i)
  facet_end at = omega (arith, facet_size)

  length_planes : (p : Plane) → length (plane_bytes p) ≡ 96
  unfolding facet_answer
  length_planes p = omega (arith, length_facet (record { plane = p; points = [] }), length-append (plane_bytes p) (digits 4 0 ++ row point_bytes []), length-append (digits 4 0) (row point_bytes []), length_count 0, length_row point_bytes 24 length_point [])

  pub facet_put : (out a b c : List ℕ) (at : ℕ) (p : Plane) → p ≡ plane_at s (get_or spots i 0) → a ≡ sets out at (plane_bytes p) → b ≡ sets a (at + 96) (digits 4 many) → c ≡ sets b (at + 100) (row (corner_bytes ps) (counts_at v from many)) → c ≡ sets out at (facet_bytes s spots ps v starts i)
  unfolding facet_bytes facet_of facet_answer
  facet_put out a b c at p e q r t =
      let P = plane_at s (get_or spots i 0) in
      let l = row point_bytes (map (λ k. point_at ps (3 * k)) (K.row v starts i)) in
      let k : length (plane_bytes P ++ digits 4 many) ≡ 100 = omega (arith, length-append (plane_bytes P) (digits 4 many), length_planes P, length_count many) in
      let x = then_sets out a b at (at + 96) (plane_bytes P) (digits 4 many) (q ∙ ap (λ y. sets out at (plane_bytes y)) e) r (omega (arith, length_planes P)) in
      then_sets out b c at (at + 100) (plane_bytes P ++ digits 4 many) l x (t ∙ ap (sets b (at + 100)) corners) (omega (arith, k))
      ∙ ap (sets out at) (append_assoc (plane_bytes P) (digits 4 many) l ∙ ap (λ m. plane_bytes P ++ (digits 4 m ++ l)) (sym count))

-- ---- a shell

module _ (s : List Float) (spots : List ℕ) (ps : List Float) (v starts : List ℕ) (sense : ℕ) (g : List ℕ) where
  abbrev pub facets : List ℕ
  facets = row (facet_bytes s spots ps v starts) g

  shell_parts : shell_bytes s spots ps v starts sense g ≡ (sense ∷ digits 4 (length g)) ++ facets
  unfolding shell_bytes shell_answer facet_bytes
  shell_parts = ap₂ (λ n l. sense ∷ digits 4 n ++ l) (length-map g (facet_of s spots ps v starts)) (row_map facet_answer (facet_of s spots ps v starts) g)

  pub shell_size : length (shell_bytes s spots ps v starts sense g) ≡ 5 + length facets
  shell_size = omega (arith, ap length shell_parts, length-append (sense ∷ digits 4 (length g)) facets, length_count (length g))

  pub shell_room : (at n : ℕ) → at + length (shell_bytes s spots ps v starts sense g) ≤ n → at + 5 + length facets ≤ n
  shell_room at n l = omega (arith, l, shell_size)

  pub shell_put : (out a b c : List ℕ) (at r : ℕ) → at + length (shell_bytes s spots ps v starts sense g) ≤ length out → a ≡ set out at sense → b ≡ sets a (at + 1) (digits 4 (length g)) → r ≡ at + 5 + length facets → c ≡ sets b (at + 5) facets →
      (r ≡ at + length (shell_bytes s spots ps v starts sense g)) × (c ≡ sets out at (shell_bytes s spots ps v starts sense g))
  shell_put out a b c at r l p q e t =
      let x : b ≡ sets out at ((sense ∷ []) ++ digits 4 (length g)) = then_sets out a b at (at + 1) (sense ∷ []) (digits 4 (length g)) p q refl in
      (omega (arith, e, shell_size), then_sets out b c at (at + 5) (sense ∷ digits 4 (length g)) facets x t (omega (arith, length_count (length g))) ∙ ap (sets out at) (sym shell_parts))
