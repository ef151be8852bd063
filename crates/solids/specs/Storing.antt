-- Laws of the storing of a face's corners, in the words of the code.
use Rattle.std.specs.Prelude.{◌≡◌, refl, List, ◌∷◌, map, ℕ, ◌+◌, ◌*◌, ◌≤◌, ◌<◌, length, drop, get_or, Float}
use Rattle.std.proofs.Common.{sym, ap, ◌∙◌, arith}
use Rattle.std.proofs.lemmas.List.Edits.{sets}
use Rattle.std.proofs.Math.Seq.{length-sets}
use Rattle.space.specs.declared.Point3.{Point3}
use Rattle.polygon.specs.Memory.{floats, floats_of}
use Rattle.room.specs.Rooms.{counts_at}
use Rattle.room.specs.Laws.{sets_point, next_count, counts_done}
use Rattle.solids.specs.Frames.{point_of}

-- of n corners from a place on, i are stored from o on
pub record Dotting (ps : List Point3) (l : List ℕ) (at n o : ℕ) (s₀ s : List Float) (i : ℕ) : Type 0 where
  pub size : length s ≡ length s₀
  pub rest : sets s (o + 3 * i) (floats_of (map (point_of ps) (drop i (counts_at l at n)))) ≡ sets s₀ o (floats_of (map (point_of ps) (counts_at l at n)))

pub dotting_start : (ps : List Point3) (l : List ℕ) (at n o : ℕ) (s : List Float) → Dotting ps l at n o s s 0
dotting_start ps l at n o s = record { size = refl; rest = ap (λ k. sets s k (floats_of (map (point_of ps) (counts_at l at n)))) (omega arith) }

module _ {ps : List Point3} {l : List ℕ} {at n o : ℕ} {s₀ s : List Float} {i : ℕ} (I : Dotting ps l at n o s₀ s i) where
  pub dotting_next : (q : Point3) {s' : List Float} → i < n → at + n ≤ length l → q ≡ point_of ps (get_or l (at + i) 0) → s' ≡ sets s (o + 3 * i) (floats q) → Dotting ps l at n o s₀ s' (i + 1)
  dotting_next q {s'} h k e g = record {
    size = ap length g ∙ length-sets s (o + 3 * i) (floats q) ∙ I.size;
    rest =
        let z : o + 3 * (i + 1) ≡ (o + 3 * i) + 3 = omega arith in
        ap (λ j. sets s' j (floats_of (map (point_of ps) (drop (i + 1) (counts_at l at n))))) z
        ∙ ap (λ z. sets z ((o + 3 * i) + 3) (floats_of (map (point_of ps) (drop (i + 1) (counts_at l at n))))) g
        ∙ sym (sets_point s (o + 3 * i) q (map (point_of ps) (drop (i + 1) (counts_at l at n))))
        ∙ ap (λ z. sets s (o + 3 * i) (floats_of (z ∷ map (point_of ps) (drop (i + 1) (counts_at l at n))))) e
        ∙ ap (λ z. sets s (o + 3 * i) (floats_of (map (point_of ps) z))) (sym (next_count l at n i h k)) ∙ I.rest;
  }

  pub dotting_end : n ≤ i → s ≡ sets s₀ o (floats_of (map (point_of ps) (counts_at l at n)))
  dotting_end h = ap (λ z. sets s (o + 3 * i) (floats_of (map (point_of ps) z))) (sym (counts_done l at n i h)) ∙ I.rest
