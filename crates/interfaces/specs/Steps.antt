-- One run of the order, in the words of the code.
use Rattle.std.specs.Prelude.{◌≡◌, refl, ◌≢◌, Bool, true, false, not, ◌||◌, List, [], ◌∷◌, ℕ, ◌+◌, ◌-◌, ◌*◌, ◌≤◌, ◌<◌, length, set, eqb, Ok, Err}
use Rattle.std.proofs.Common.{sym, ap, ap₂, ◌∙◌, arith}
use Rattle.std.proofs.Math.Path.{subst}
use Rattle.std.proofs.Math.ListN.{get_or}
use Rattle.refusal.specs.declared.Refusal.{Refusal}
use Rattle.refusal.specs.Outcome.{Outcome, refusal_of, unless, heard}
use Rattle.refusal.specs.Laws.{same_ok, never_ok}
use Rattle.sums.specs.Keys.{order}
use Rattle.sums.specs.SizeLaws.{Sized}
use Rattle.keys.specs.Rows.{Starts, row, rows}
use Rattle.keys.specs.Sized.{Ordered, place_at, place_in, many_order}
use Rattle.meet.specs.Cycle.{Rows}
use Rattle.bodies.specs.Fusing.{Facet, cell_of, keys, same_cycle, judge_users}
use Rattle.interfaces.specs.declared.Met.{Met}
use Rattle.interfaces.specs.Facets.{facets_of, cell_at, vertices_at}
use Rattle.interfaces.specs.Meeting.{Part, Standing, Met_all, part_start, standing_part, standing_refused, part_one, part_two, part_refused, part_more, part_end, refused_end}

-- a refusal where a test fails
unfoldable pub stop_if : Bool → ℕ → Outcome Unit
stop_if true n = Err (refusal_of n)
stop_if false n = Ok tt

pub stop_heard : (bad : Bool) (n : ℕ) → heard (stop_if bad n) (tt {0}) ≡ unless bad n (Ok tt)
unfolding stop_if heard
stop_heard true n = refl
stop_heard false n = refl

-- 18, of two that share a key
pub pair_judged : (v starts owners : List ℕ) (f a b : ℕ) (r : Outcome Unit) (turned : Bool) → a < f → b < f →
    turned ≡ same_cycle (row v starts a) (row v starts b) → r ≡ stop_if (eqb (get_or owners a 0) (get_or owners b 0) || not turned) 18 → heard r tt ≡ judge_users (facets_of v starts owners f) (a ∷ b ∷ [])
unfolding judge_users
pair_judged v starts owners f a b r turned ha hb e q = ap (λ r. heard r tt) q ∙ stop_heard (eqb (get_or owners a 0) (get_or owners b 0) || not turned) 18
    ∙ ap₂ (λ c d. unless (eqb c d || not turned) 18 (Ok tt)) (sym (cell_at v starts owners f a ha)) (sym (cell_at v starts owners f b hb))
    ∙ ap (λ t. unless (eqb (cell_of (facets_of v starts owners f) a) (cell_of (facets_of v starts owners f) b) || not t) 18 (Ok tt)) (e ∙ ap₂ same_cycle (sym (vertices_at v starts owners f a ha)) (sym (vertices_at v starts owners f b hb)))

pub pair_rows : (v starts : List ℕ) (f a b : ℕ) → Starts v starts f → a < f → b < f → Rows v (get_or starts a 0) (get_or starts (a + 1) 0) (get_or starts b 0) (get_or starts (b + 1) 0)
pair_rows v starts f a b s ha hb = record { aa = s.up a ha; al = s.inn a ha; bb = s.up b hb; bl = s.inn b hb }

pub pair_stored : (v starts owners d d' : List ℕ) (f a b y : ℕ) → a < f → b < f → d' ≡ set (set d (2 * y) (get_or owners a 0)) (2 * y + 1) (get_or owners b 0) →
    d' ≡ set (set d (2 * y) (cell_of (facets_of v starts owners f) a)) (2 * y + 1) (cell_of (facets_of v starts owners f) b)
pair_stored v starts owners d d' f a b y ha hb e = e ∙ ap₂ (λ c g. set (set d (2 * y) c) (2 * y + 1) g) (sym (cell_at v starts owners f a ha)) (sym (cell_at v starts owners f b hb))

-- One turn: refused, or the walk stands behind where it stood.
pub record Turned (fs : List Facet) (ks : List (List ℕ)) (x d : List ℕ) (p : ℕ) (m : Outcome Met) : Type 0 where
  pub standing : Standing fs ks x d m
  pub on : (n : Met) → m ≡ Ok n → p < n.at

module _ (v starts owners k o : List ℕ) (f : ℕ) (q : Ordered k starts f o) where
  module _ (x d : List ℕ) (p a b : ℕ) (h : p < f) (w : Part (facets_of v starts owners f) (rows k starts f) x d p a b) where
    inn : p < length (order (rows k starts f))
    inn = omega (arith, many_order k starts f)

    pub turn_one : (m : ℕ) → Sized (rows k starts f) p m → m ≡ 1 → Turned (facets_of v starts owners f) (rows k starts f) (set x a (get_or o p 0)) d p (Ok (record { at = p + 1; listed = a + 1; pairs = b }))
    unfolding Standing
    turn_one m s e = record {
      standing = subst (λ i. Part (facets_of v starts owners f) (rows k starts f) (set x a i) d (p + 1) (a + 1) b) (sym (place_at k starts f o q p h))
          (part_one (facets_of v starts owners f) (rows k starts f) x d p a b inn w (subst (Sized (rows k starts f) p) e s));
      on = λ n e. omega (arith, ap (λ n. n.at) (same_ok e));
    }

    pub two_next : (m : ℕ) → Sized (rows k starts f) p m → m ≡ 2 → p + 1 < f
    two_next m s e = omega (arith, s.few (omega arith), s.run.high, many_order k starts f)

    pub two_second : (m : ℕ) → Sized (rows k starts f) p m → m ≡ 2 → get_or o (p + 1) 0 < f
    two_second m s e = place_in k starts f o q (p + 1) (two_next m s e)

    pub two_room : (m : ℕ) → Sized (rows k starts f) p m → m ≡ 2 → 2 * b + 1 < length d
    two_room m s e = omega (arith, two_next m s e, w.judged.half, w.judged.room, many_order k starts f)

    pub two_read : (m : ℕ) → Sized (rows k starts f) p m → m ≡ 2 → p + 1 < length o
    two_read m s e = omega (arith, two_next m s e, q.room)

    module _ (m : ℕ) (r : Outcome Unit) (d' : List ℕ) (s : Sized (rows k starts f) p m) (e : m ≡ 2)
        (j : heard r tt ≡ judge_users (facets_of v starts owners f) (get_or o p 0 ∷ get_or o (p + 1) 0 ∷ []))
        (g : d' ≡ set (set d (2 * b) (cell_of (facets_of v starts owners f) (get_or o p 0))) (2 * b + 1) (cell_of (facets_of v starts owners f) (get_or o (p + 1) 0))) where
      zi : get_or o p 0 ≡ get_or (order (rows k starts f)) p 0
      zi = place_at k starts f o q p h

      zj : get_or o (p + 1) 0 ≡ get_or (order (rows k starts f)) (p + 1) 0
      zj = place_at k starts f o q (p + 1) (two_next m s e)

      s2 : Sized (rows k starts f) p 2
      s2 = subst (Sized (rows k starts f) p) e s

      j2 : heard r tt ≡ judge_users (facets_of v starts owners f) (get_or (order (rows k starts f)) p 0 ∷ get_or (order (rows k starts f)) (p + 1) 0 ∷ [])
      j2 = j ∙ ap₂ (λ i l. judge_users (facets_of v starts owners f) (i ∷ l ∷ [])) zi zj

      g2 : d' ≡ set (set d (2 * b) (cell_of (facets_of v starts owners f) (get_or (order (rows k starts f)) p 0))) (2 * b + 1) (cell_of (facets_of v starts owners f) (get_or (order (rows k starts f)) (p + 1) 0))
      g2 = g ∙ ap₂ (λ i l. set (set d (2 * b) (cell_of (facets_of v starts owners f) i)) (2 * b + 1) (cell_of (facets_of v starts owners f) l)) zi zj

      pub turn_two : r ≡ Ok tt → Turned (facets_of v starts owners f) (rows k starts f) x d' p (Ok (record { at = p + 2; listed = a; pairs = b + 1 }))
      unfolding Standing
      turn_two z = record { standing = part_two (facets_of v starts owners f) (rows k starts f) x d p a b inn w r d' s2 j2 g2 z; on = λ n e. omega (arith, ap (λ n. n.at) (same_ok e)) }

      pub turn_refused : (t : Refusal) (u : Outcome Met) → r ≡ Err t → u ≡ Err t → Turned (facets_of v starts owners f) (rows k starts f) x d' p u
      turn_refused t u z y = subst (Turned (facets_of v starts owners f) (rows k starts f) x d' p) (sym y) (record { standing = part_refused (facets_of v starts owners f) (rows k starts f) x d p a b inn w r d' t s2 j2 z; on = λ n e. never_ok e })

    pub turn_more : (m : ℕ) (r : Refusal) → Sized (rows k starts f) p m → m ≢ 1 → m ≢ 2 → r ≡ refusal_of 19 → Turned (facets_of v starts owners f) (rows k starts f) x d p (Err r)
    turn_more m r s e g u = record {
      standing = subst (λ r. Standing (facets_of v starts owners f) (rows k starts f) x d (Err r)) (sym u) (part_more (facets_of v starts owners f) (rows k starts f) x d p a b inn w d m s (omega (arith, s.low, s.high)));
      on = λ n e. never_ok e;
    }

-- ---- the loop

pub record Walking (v starts owners k : List ℕ) (f : ℕ) (x₀ d₀ x d : List ℕ) (m : Met) : Type 0 where
  pub part : Part (facets_of v starts owners f) (rows k starts f) x d m.at m.listed m.pairs
  pub size : length x ≡ length x₀
  pub size_d : length d ≡ length d₀

module _ (v starts owners k : List ℕ) (f : ℕ) (x₀ d₀ : List ℕ) where
  pub walking_start : f ≤ length x₀ → f ≤ length d₀ → Walking v starts owners k f x₀ d₀ x₀ d₀ (record { at = 0; listed = 0; pairs = 0 })
  walking_start h l = record { part = part_start (facets_of v starts owners f) (rows k starts f) x₀ d₀ (omega (arith, many_order k starts f)) (omega (arith, many_order k starts f)); size = refl; size_d = refl }

  pub walking_step : (x d x' d' : List ℕ) (m : Met) (o : Outcome Met) (n : Met) → Walking v starts owners k f x₀ d₀ x d m → length x' ≡ length x → length d' ≡ length d →
      Turned (facets_of v starts owners f) (rows k starts f) x' d' m.at o → o ≡ Ok n → Walking v starts owners k f x₀ d₀ x' d' n
  walking_step x d x' d' m o n w a b t e = record { part = standing_part (facets_of v starts owners f) (rows k starts f) x' d' o n e t.standing; size = a ∙ w.size; size_d = b ∙ w.size_d }

  pub walking_on : (x' d' : List ℕ) (m : Met) (o : Outcome Met) (n : Met) → m.at < f → Turned (facets_of v starts owners f) (rows k starts f) x' d' m.at o → o ≡ Ok n → f - n.at < f - m.at
  walking_on x' d' m o n h t e = omega (arith, t.on n e)

  pub walking_refused : (x' d' : List ℕ) (p : ℕ) (o u : Outcome Met) (r : Refusal) → rows k starts f ≡ keys (facets_of v starts owners f) →
      Turned (facets_of v starts owners f) (rows k starts f) x' d' p o → o ≡ Err r → u ≡ Err r → Met_all (facets_of v starts owners f) x' d' u
  walking_refused x' d' p o u r q t e y =
      subst (Met_all (facets_of v starts owners f) x' d') (sym y) (refused_end (facets_of v starts owners f) (rows k starts f) q x' d' r (standing_refused (facets_of v starts owners f) (rows k starts f) x' d' o r e t.standing))

  pub walking_end : (x d : List ℕ) (m : Met) → rows k starts f ≡ keys (facets_of v starts owners f) → f ≤ m.at → Walking v starts owners k f x₀ d₀ x d m → Met_all (facets_of v starts owners f) x d (Ok m)
  walking_end x d m q h w = part_end (facets_of v starts owners f) (rows k starts f) q x d m (omega (arith, many_order k starts f)) w.part
