-- Laws of the tests on the slices, in the words of the code.
use Rattle.std.specs.Prelude.{◌≡◌, Bool, not, ◌&&◌, List, ◌∷◌, ℕ, ◌+◌, ◌-◌, ◌*◌, ◌≤◌, ◌<◌, length, take, drop, get_or, Float, Ok, Err}
use Rattle.std.proofs.Math.Path.{refl, sym, ap, subst}
use Rattle.std.proofs.Common.{◌∙◌}
use Rattle.std.proofs.Math.Bool.{true, false, cond, and-false}
use native.Mathlib.Omega.{arith}
use Rattle.std.proofs.Math.Dec.{leb}
use borrow.Author.Tests.{leb-true, le-leb, lt-leb}
use Rattle.refusal.specs.Outcome.{refusal_of, unless}
use Rattle.refusal.specs.Laws.{same_ok}
use Rattle.refusal.specs.Tests.{and_true}
use Rattle.lists.specs.Laws.{next, done}
use Rattle.stack.specs.declared.Stack.{Stack}
use Rattle.stack.specs.Stacks.{cells_at, stack_of, Lies, Listed}
use Rattle.stack.specs.Laws.{listed_refused}
use Rattle.list_lent.specs.Lent.{among, all_among, total, sums, total_by, faces_stand, stands, list_in}
use Rattle.list_lent.specs.Lying.{lying, list_told}

-- ---- a sum of numbers

-- the sum behind a part of it
unfoldable pub sums_from : ℕ → ℕ → ℕ → ℕ → List ℕ → ℕ
sums_from low high most a l = cond (all_among low high l && leb (a + total l) most) (a + total l) (most + 1)

pub record Adding (low high most : ℕ) (s : List ℕ) (n sum i : ℕ) : Type 0 where
  pub upto : i ≤ n
  pub fits : sum ≤ most
  pub rest : sums_from low high most sum (drop i (take n s)) ≡ total_by low high most (take n s)

pub adding_start : (low high most : ℕ) (s : List ℕ) (n : ℕ) → Adding low high most s n 0 0
unfolding sums_from total_by sums
adding_start low high most s n =
    let e : 0 + total (take n s) ≡ total (take n s) = omega arith in
    record { upto = omega arith; fits = omega arith; rest = ap (λ k. cond (all_among low high (take n s) && leb k most) k (most + 1)) e }

module _ (low high most : ℕ) (s : List ℕ) (n sum i : ℕ) (more : i < n) (listed : n ≤ length s) (I : Adding low high most s n sum i) where
  abbrev x : ℕ
  x = get_or s i 0

  abbrev after : List ℕ
  after = drop (i + 1) (take n s)

  opened : sums_from low high most sum (x ∷ after) ≡ total_by low high most (take n s)
  opened = ap (sums_from low high most sum) (sym (next s n i 0 more listed)) ∙ I.rest

  turn : (b c d : Bool) → leb low x ≡ b → leb x high ≡ c → leb (sum + (x + total after)) most ≡ d →
      cond (((b && c) && all_among low high after) && d) (sum + (x + total after)) (most + 1) ≡ total_by low high most (take n s)
  unfolding sums_from all_among among total
  turn b c d e f g =
      sym (ap (λ z. cond (((z && leb x high) && all_among low high after) && leb (sum + (x + total after)) most) (sum + (x + total after)) (most + 1)) e
      ∙ ap (λ z. cond (((b && z) && all_among low high after) && leb (sum + (x + total after)) most) (sum + (x + total after)) (most + 1)) f
      ∙ ap (λ z. cond (((b && c) && all_among low high after) && z) (sum + (x + total after)) (most + 1)) g) ∙ opened

  pub adding_low : x < low → most + 1 ≡ total_by low high most (take n s)
  adding_low h = turn false (leb x high) (leb (sum + (x + total after)) most) (lt-leb low x h) refl refl

  pub adding_high : low ≤ x → high < x → most + 1 ≡ total_by low high most (take n s)
  adding_high h g = turn true false (leb (sum + (x + total after)) most) (le-leb low x h) (lt-leb x high g) refl

  pub adding_over : low ≤ x → x ≤ high → most - sum < x → most + 1 ≡ total_by low high most (take n s)
  adding_over h g k =
      sym (ap (λ b. cond b (sum + (x + total after)) (most + 1)) (and-false (all_among low high after)))
      ∙ turn true true false (le-leb low x h) (le-leb x high g) (lt-leb (sum + (x + total after)) most (omega (arith, I.fits)))

  pub adding_step : low ≤ x → x ≤ high → x ≤ most - sum → Adding low high most s n (sum + x) (i + 1)
  unfolding sums_from
  adding_step h g k =
      let e : sum + x + total after ≡ sum + (x + total after) = omega arith in
      record {
        upto = omega arith;
        fits = omega (arith, I.fits);
        rest = ap (λ j. cond (all_among low high after && leb j most) j (most + 1)) e ∙ turn true true (leb (sum + (x + total after)) most) (le-leb low x h) (le-leb x high g) refl;
      }

pub adding_end : (low high most : ℕ) (s : List ℕ) (n sum i : ℕ) → n ≤ i → Adding low high most s n sum i → sum ≡ total_by low high most (take n s)
unfolding sums_from all_among total
adding_end low high most s n sum i h I =
    let e : sum + 0 ≡ sum = omega arith in
    sym (ap (λ k. cond (true && leb k most) k (most + 1)) e ∙ ap (λ b. cond b sum (most + 1)) (le-leb sum most I.fits))
    ∙ ap (sums_from low high most sum) (sym (done s n i h)) ∙ I.rest

-- what a sum says of the numbers
module _ (low high most : ℕ) (l : List ℕ) (f : ℕ) where
  over_by : (b : Bool) → sums low high most l ≡ b → f ≡ cond b (total l) (most + 1) → most < f → sums low high most l ≡ false
  unfolding sums
  over_by true e g h = absurd (omega (arith, leb-true (total l) most (and_true (all_among low high l) (leb (total l) most) e).1, g))
  over_by false e g h = e

  total_over : f ≡ total_by low high most l → most < f → sums low high most l ≡ false
  unfolding total_by
  total_over g h = over_by (sums low high most l) refl g h

  fits_by : (b : Bool) → sums low high most l ≡ b → f ≡ cond b (total l) (most + 1) → f ≤ most → (sums low high most l ≡ true) × (total l ≡ f)
  fits_by true e g h = (e, sym g)
  fits_by false e g h = absurd (omega (arith, g))

  total_fits : f ≡ total_by low high most l → f ≤ most → (sums low high most l ≡ true) × (total l ≡ f)
  unfolding total_by
  total_fits g h = fits_by (sums low high most l) refl g h

-- ---- the list

module _ (room k : ℕ) (d : List Float) (n z : List ℕ) (r : Stack) where
  none : stands room k d n z ≡ false → r ≡ stack_of (Err (refusal_of 64)) → Listed room (list_in room k d n z) r d n z
  unfolding list_in
  none e h = subst (λ o. Listed room o r d n z) (sym (ap (λ b. unless (not b) 64 (Ok (cells_at d 0 n (take k z)))) e)) (listed_refused room (refusal_of 64) r d n z h)

  pub lent_large : 4294967296 < room → r ≡ stack_of (Err (refusal_of 64)) → Listed room (list_in room k d n z) r d n z
  unfolding stands
  lent_large a h = none (ap (λ b. b && (leb k (length z) && (sums 1 128 room (take k z) && faces_stand room (total (take k z)) d n))) (lt-leb room 4294967296 a)) h

  module _ (low : room ≤ 4294967296) where
    from_cells : (b : Bool) → (leb k (length z) && (sums 1 128 room (take k z) && faces_stand room (total (take k z)) d n)) ≡ b → stands room k d n z ≡ b
    unfolding stands
    from_cells b e = ap (λ b. b && (leb k (length z) && (sums 1 128 room (take k z) && faces_stand room (total (take k z)) d n))) (le-leb room 4294967296 low) ∙ e

    pub lent_short : length z < k → r ≡ stack_of (Err (refusal_of 64)) → Listed room (list_in room k d n z) r d n z
    lent_short a h = none (from_cells false (ap (λ b. b && (sums 1 128 room (take k z) && faces_stand room (total (take k z)) d n)) (lt-leb k (length z) a))) h

    module _ (many : k ≤ length z) (f : ℕ) (is : f ≡ total_by 1 128 room (take k z)) where
      from_sizes : (b : Bool) → (sums 1 128 room (take k z) && faces_stand room (total (take k z)) d n) ≡ b → stands room k d n z ≡ b
      from_sizes b e = from_cells b (ap (λ b. b && (sums 1 128 room (take k z) && faces_stand room (total (take k z)) d n)) (le-leb k (length z) many) ∙ e)

      pub lent_sizes : room < f → r ≡ stack_of (Err (refusal_of 64)) → Listed room (list_in room k d n z) r d n z
      lent_sizes a h = none (from_sizes false (ap (λ b. b && faces_stand room (total (take k z)) d n) (total_over 1 128 room (take k z) f is a))) h

      module _ (few : f ≤ room) where
        from_faces : (b : Bool) → faces_stand room f d n ≡ b → stands room k d n z ≡ b
        from_faces b e =
            let t = total_fits 1 128 room (take k z) f is few in
            from_sizes b (ap (λ b. b && faces_stand room (total (take k z)) d n) t.0 ∙ ap (λ j. faces_stand room j d n) t.1 ∙ e)

        pub lent_counts : length n < f → r ≡ stack_of (Err (refusal_of 64)) → Listed room (list_in room k d n z) r d n z
        unfolding faces_stand
        lent_counts a h = none (from_faces false (ap (λ b. b && (sums 3 128 room (take f n) && leb (13 * f + 3 * total (take f n)) (length d))) (lt-leb f (length n) a))) h

        module _ (within : f ≤ length n) (c : ℕ) (sum : c ≡ total_by 3 128 room (take f n)) where
          from_counts : (b : Bool) → (sums 3 128 room (take f n) && leb (13 * f + 3 * total (take f n)) (length d)) ≡ b → stands room k d n z ≡ b
          unfolding faces_stand
          from_counts b e = from_faces b (ap (λ b. b && (sums 3 128 room (take f n) && leb (13 * f + 3 * total (take f n)) (length d))) (le-leb f (length n) within) ∙ e)

          pub lent_corners : room < c → r ≡ stack_of (Err (refusal_of 64)) → Listed room (list_in room k d n z) r d n z
          lent_corners a h = none (from_counts false (ap (λ b. b && leb (13 * f + 3 * total (take f n)) (length d)) (total_over 3 128 room (take f n) c sum a))) h

          module _ (fit : c ≤ room) where
            from_floats : (b : Bool) → leb (13 * f + 3 * c) (length d) ≡ b → stands room k d n z ≡ b
            from_floats b e =
                let t = total_fits 3 128 room (take f n) c sum fit in
                from_counts b (ap (λ b. b && leb (13 * f + 3 * total (take f n)) (length d)) t.0 ∙ ap (λ j. leb (13 * f + 3 * j) (length d)) t.1 ∙ e)

            pub lent_floats : length d < 13 * f + 3 * c → r ≡ stack_of (Err (refusal_of 64)) → Listed room (list_in room k d n z) r d n z
            lent_floats a h = none (from_floats false (lt-leb (13 * f + 3 * c) (length d) a)) h

            pub lent_list : 13 * f + 3 * c ≤ length d → r ≡ record { verdict = Ok tt; cells = k; faces = f; corners = c } → Listed room (list_in room k d n z) r d n z
            unfolding list_in sums
            lent_list a h =
                let s = total_fits 1 128 room (take k z) f is few in
                let t = total_fits 3 128 room (take f n) c sum fit in
                let e : list_in room k d n z ≡ Ok (cells_at d 0 n (take k z)) = ap (λ b. unless (not b) 64 (Ok (cells_at d 0 n (take k z)))) (from_floats true (le-leb (13 * f + 3 * c) (length d) a)) in
                let L : Lies room (cells_at d 0 n (take k z)) d n z =
                lying room d n z k f c many within (and_true (all_among 1 128 (take k z)) (leb (total (take k z)) room) s.0).0 s.1 (and_true (all_among 3 128 (take f n)) (leb (total (take f n)) room) t.0).0 t.1 fit a in
                record { is = h ∙ sym (list_told d n z k f c many within s.1 t.1) ∙ ap stack_of (sym e); lies = λ cs g. subst (λ x. Lies room x d n z) (same_ok (sym e ∙ g)) L }
