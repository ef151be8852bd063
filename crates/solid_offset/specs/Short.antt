-- No answer has more than 65,536 bytes: a checked cell has at most 64 faces and 384 corners, and so has the moved one.
use Rattle.std.specs.Prelude.{◌≡◌, refl, Bool, true, false, List, [], map, ◌++◌, ℕ, ◌+◌, ◌*◌, ◌≤◌, length, ltb, Float, Ok, Err}
use Rattle.std.proofs.Common.{sym, ap, ◌∙◌, subst, arith, length-append}
use Rattle.std.proofs.lemmas.List.{length-map}
use Rattle.std.specs.Float.Ieee.{neg}
use Rattle.refusal.specs.Outcome.{Outcome, unless, each}
use Rattle.refusal.specs.Laws.{same_ok, then_ok, unless_ok}
use Rattle.space.specs.declared.Precision.{Precision}
use Rattle.space.specs.Shapes.{Cell, Solid, corners}
use Rattle.room.specs.Rooms.{cell_counts}
use Rattle.room.specs.Laws.{length_cell_counts}
use Rattle.indexed.specs.Stored.{flat}
use Rattle.indexed.proofs.Laws.{flat_corners}
use Rattle.words.specs.Little.{digits}
use Rattle.offset.specs.Offsets.{offset_cell}
use Rattle.offset.specs.Indexes.{corners_same, indexed_few, indexed_counts}
use Rattle.offset.specs.Theorem.{offset_counts}
use Rattle.hollow.specs.Hollows.{hollow_in}
use Rattle.solid_check.specs.Check.{cell_of}
use Rattle.solid_check.proofs.Laws.{check_passed, check_counted}
use Rattle.built.specs.Built.{built}
use Rattle.answer.specs.Answers.{solid_answer, shell_answer}
use Rattle.answer.specs.Laws.{length_count, solid_size}
use Rattle.ended.specs.declared.Ended.{Ended}
use Rattle.ended.specs.Ends.{fitted, Handed}
use Rattle.offset_answer.specs.Calls.{offset_answer, built_answer, offset_call}
use Rattle.offset_answer.specs.Laws.{built_indexed}
use Rattle.hollow_answer.specs.Calls.{built_cell, hollow_answer, answer_of, wall_call, shell_call, hollow_call}
use Rattle.hollow_answer.specs.Laws.{shell_size, hollow_parts, reversed_counts}

-- an end whose answer is short
pub record Brief (o : Outcome (List ℕ)) (a₀ a : List ℕ) (r : Ended) : Type 0 where
  pub handed : Handed o a₀ a r
  pub few : r.bytes ≤ 65536

fits_few : (b : Bool) (l a₀ a : List ℕ) (r : Ended) → Handed (unless b 12 (Ok l)) a₀ a r → length l ≤ 65536 → r.bytes ≤ 65536
unfolding Handed
fits_few true l a₀ a r h n = omega (arith, ap (λ e. e.bytes) h.0)
fits_few false l a₀ a r h n = omega (arith, ap (λ e. e.bytes) h.0, n)

pub handed_brief : (k : ℕ) (o : Outcome (List ℕ)) (a₀ a : List ℕ) (r : Ended) → Handed (fitted k o) a₀ a r → ((l : List ℕ) → o ≡ Ok l → length l ≤ 65536) → Brief (fitted k o) a₀ a r
unfolding fitted Handed
handed_brief k (Ok l) a₀ a r h n = record { handed = h; few = fits_few (ltb k (length l)) l a₀ a r h (n l refl) }
handed_brief k (Err x) a₀ a r h n = record { handed = h; few = omega (arith, ap (λ e. e.bytes) h.0) }

same_many : (a b : Cell) → cell_counts a ≡ cell_counts b → length a ≡ length b
same_many a b e = sym (length_cell_counts a) ∙ ap length e ∙ length_cell_counts b

-- ---- the offset

pub offset_short : (t : Precision) (room : ℕ) (d : Float) (c : Cell) → length c ≤ 64 → corners 0 c ≤ 384 → (l : List ℕ) → offset_call t room d c ≡ Ok l → length l ≤ 65536
unfolding offset_call built_answer offset_answer
offset_short t room d c n k l e =
    let m = then_ok (offset_cell t d c) (built_answer t room) l e in
    let s = then_ok (built t m.0) (offset_answer room) l m.2 in
    let a = unless_ok (ltb room (length (flat s.0.faces))) 12 (Ok (solid_answer s.0)) l s.2 in
    let i = (built_indexed t m.0 s.0 s.1).0 in
    let q = indexed_counts t m.0 s.0 i in
    let g = offset_counts t d c m.0 m.1 in
    let f : length s.0.faces ≡ length c = sym (length-map s.0.faces length) ∙ ap length (q ∙ g) ∙ length_cell_counts c in
    omega (arith, ap length (same_ok a.1), solid_size s.0, indexed_few t m.0 s.0 i, flat_corners s.0.faces m.0 q, corners_same m.0 c g, f, n, k)

-- ---- the hollow

pub hollow_short : (t : Precision) (room : ℕ) (w : Float) (c : Cell) → length c ≤ 64 → corners 0 c ≤ 384 → (l : List ℕ) → hollow_call t room w c ≡ Ok l → length l ≤ 65536
unfolding hollow_call shell_call wall_call built_cell hollow_answer cell_counts
hollow_short t room w c n k l e =
    let m = then_ok (offset_cell t (neg w) c) (shell_call t room c) l e in
    let b = then_ok (built_cell t m.0) (wall_call t room c m.0) l m.2 in
    let h = then_ok (hollow_in t room c m.0 b.0) answer_of l b.2 in
    let s = then_ok (built t m.0) (cell_of t) b.0 b.1 in
    let i = built_indexed t m.0 s.0 s.1 in
    let p : i.1.0 ≡ b.0 = same_ok (sym (check_passed false t s.0 i.1.0 i.1.1).1 ∙ s.2) in
    let z = hollow_parts t room c m.0 b.0 h.0 h.1 in
    let q : cell_counts h.0.inner ≡ cell_counts c =
    reversed_counts t b.0 [] h.0.inner z.1 ∙ ap cell_counts (sym p) ∙ check_counted false t s.0 i.1.0 i.1.1 ∙ indexed_counts t m.0 s.0 i.0 ∙ offset_counts t (neg w) c m.0 m.1 in
    let first = shell_answer 1 h.0.outer in
    let second = shell_answer 0 h.0.inner in
    omega (
      arith,
      ap length (same_ok h.2),
      length-append (digits 4 2) (first ++ second),
      length-append first second,
      length_count 2,
      shell_size 1 h.0.outer,
      shell_size 0 h.0.inner,
      ap length z.0,
      ap (corners 0) z.0,
      same_many h.0.inner c q,
      corners_same h.0.inner c q,
      n,
      k,
    )
