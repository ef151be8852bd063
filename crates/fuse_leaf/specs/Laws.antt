-- Laws of the call from outside, in the words of the code.
use Rattle.std.specs.Prelude.{◌≡◌, Bool, false, not, ◌&&◌, List, ℕ, ◌*◌, ◌/◌, ◌≤◌, ◌<◌, length, leb, Float, Ok, Err}
use Rattle.std.proofs.Math.Path.{refl, sym, ap, subst}
use Rattle.std.proofs.Common.{◌∙◌, arith, le-leb}
use Rattle.std.proofs.Math.Bool.{true}
use Rattle.std.proofs.lemmas.List.Edits.{sets}
use Rattle.std.proofs.lemmas.Bool.{lt-leb}
use Rattle.refusal.specs.Outcome.{Outcome, then, unless, number_of}
use Rattle.refusal.specs.Laws.{same_ok, never_ok}
use Rattle.space.specs.declared.Precision.{Precision}
use Rattle.lent.specs.Lent.{number_by}
use Rattle.stack.specs.declared.Stack.{Stack}
use Rattle.stack.specs.Stacks.{list_at, Listed}
use Rattle.stack.specs.Laws.{listed_is}
use Rattle.arrangement.specs.Arrangements.{Lent}
use Rattle.fuse_list.specs.Lists.{Tools}
use Rattle.fused.specs.Bodies.{fuse_cells}
use Rattle.ended.specs.declared.Ended.{Ended}
use Rattle.ended.specs.Ends.{ended_of, written}
use Rattle.fused_bytes.specs.Bytes.{answer_of}
use Rattle.list_lent.specs.Lent.{list_in}
use Rattle.fuse_leaf.specs.Fusing.{fuse_lent, Told}

pub answer_fits : (room a : ℕ) → room ≤ a / 64 → 64 * room ≤ a
answer_fits room a h = omega arith

module _ (t : Precision) (room k : ℕ) (d : List Float) (n z a₀ : List ℕ) where
  abbrev tests : Bool
  tests = leb room 4608 && (leb room (length a₀ / 64) && leb room (length z))

  none : tests ≡ false → (r : ℕ) → r ≡ 64 → Told (fuse_lent t room k d n z (length a₀)) a₀ a₀ r
  unfolding fuse_lent number_of
  none e r h = subst (λ o. Told o a₀ a₀ r) (sym (ap (λ b. unless (not b) 64 (answer_of (then (list_in room k d n z) (fuse_cells t room)))) e)) (record { number = h; bytes = λ l g. never_ok g; same = λ x g. refl })

  pub told_large : 4608 < room → Told (fuse_lent t room k d n z (length a₀)) a₀ a₀ 64
  told_large h = none (ap (λ b. b && (leb room (length a₀ / 64) && leb room (length z))) (lt-leb room 4608 h)) 64 refl

  module _ (low : room ≤ 4608) where
    below : (b : Bool) → (leb room (length a₀ / 64) && leb room (length z)) ≡ b → tests ≡ b
    below b e = ap (λ c. c && (leb room (length a₀ / 64) && leb room (length z))) (le-leb room 4608 low) ∙ e

    pub told_short : length a₀ / 64 < room → Told (fuse_lent t room k d n z (length a₀)) a₀ a₀ 64
    told_short h = none (below false (ap (λ b. b && leb room (length z)) (lt-leb room (length a₀ / 64) h))) 64 refl

    module _ (fits : room ≤ length a₀ / 64) where
      fitting : (b : Bool) → leb room (length z) ≡ b → tests ≡ b
      fitting b e = below b (ap (λ c. c && leb room (length z)) (le-leb room (length a₀ / 64) fits) ∙ e)

      pub told_few : length z < room → Told (fuse_lent t room k d n z (length a₀)) a₀ a₀ 64
      told_few h = none (fitting false (lt-leb room (length z) h)) 64 refl

      module _ (many : room ≤ length z) where
        by : (o : Outcome (List ℕ)) (a : List ℕ) (e : Ended) (r : ℕ) → e ≡ ended_of o → a ≡ written o a₀ → r ≡ number_by e.verdict → Told o a₀ a r
        unfolding number_of number_by ended_of written
        by (Ok l) a e r w g h = record { number = h ∙ ap (λ x. number_by x.verdict) w; bytes = λ m q. g ∙ ap (sets a₀ 0) (same_ok q); same = λ x q. never_ok (sym q) }
        by (Err x) a e r w g h = record { number = h ∙ ap (λ x. number_by x.verdict) w; bytes = λ m q. never_ok q; same = λ y q. g }

        pub told_all : (s : Stack) (a : List ℕ) (e : Ended) (r : ℕ) → Listed room (list_in room k d n z) s d n z → (e ≡ ended_of (answer_of (then (list_at s d n z) (fuse_cells t room)))) × (a ≡ written (answer_of (then (list_at s d n z) (fuse_cells t room))) a₀) →
            r ≡ number_by e.verdict → Told (fuse_lent t room k d n z (length a₀)) a₀ a r
        unfolding fuse_lent
        told_all s a e r L w h =
            subst (λ o. Told o a₀ a r)
            (ap (λ o. answer_of (then o (fuse_cells t room))) (listed_is room (list_in room k d n z) s d n z L) ∙ sym (ap (λ b. unless (not b) 64 (answer_of (then (list_in room k d n z) (fuse_cells t room)))) (fitting true (le-leb room (length z) many))))
            (by (answer_of (then (list_at s d n z) (fuse_cells t room))) a e r w.0 w.1 h)

-- the call's own memory is enough
module _ (room : ℕ) (h : room ≤ 4608) where
  pub arranging : (p : List Float) (co cy le st ow : List ℕ) → length p ≡ 13824 → length co ≡ 4608 → length cy ≡ 4608 → length le ≡ 4608 →
      length st ≡ 4609 → length ow ≡ 4608 → Lent room p co cy le st ow
  arranging p co cy le st ow hp hco hcy hle hst how = record {
    low = omega arith;
    points = omega arith;
    corners = omega arith;
    cycles = omega arith;
    lengths = omega arith;
    starts = omega arith;
    owners = omega arith;
  }

  pub tooled : (co ce cu le ru k s od en z ma ou my sh : List ℕ) → length co ≡ 4608 → length ce ≡ 4608 → length cu ≡ 4609 → length le ≡ 4608 → length ru ≡ 13824 → length k ≡ 9216 → length s ≡ 4609 → length od ≡ 4608 → length en ≡ 4608 →
      room ≤ length z → length ma ≡ 4609 → length ou ≡ 4608 → length my ≡ 4608 → length sh ≡ 4608 → Tools room co ce cu le ru k s od en z ma ou my sh
  tooled co ce cu le ru k s od en z ma ou my sh hco hce hcu hle hru hk hs hod hen hz hma hou hmy hsh = record {
    low = omega arith;
    ext = omega arith;
    cells = omega arith;
    cuts = omega arith;
    faces = omega arith;
    runs = omega arith;
    keys = omega arith;
    begins = omega arith;
    order = omega arith;
    ends = omega arith;
    links = omega arith;
    nodes = hz;
    marks = omega arith;
    out = omega arith;
    sizes = omega arith;
    shells = omega arith;
  }
