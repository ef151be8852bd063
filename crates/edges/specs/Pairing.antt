-- The edges by their keys, run by run of the order.
use Rattle.std.specs.Prelude.{◌≡◌, refl, ◌≢◌, ◌||◌, List, [], ◌∷◌, map, length, set, take, eqb, Ok, Err}
use Rattle.std.proofs.Common.{sym, ap₂, ◌∙◌, ⊎_elim, arith}
use Rattle.std.proofs.Math.Path.{ap, subst}
use Prim.Native.Nat.{ℕ, zero, suc, ◌+◌, ◌-◌, ◌*◌, ◌≤◌, ◌<◌}
use Rattle.std.proofs.Math.ListN.{get_or}
use Rattle.refusal.specs.declared.Refusal.{Refusal}
use Rattle.refusal.specs.Outcome.{Outcome, refusal_of, unless, walk, heard, verdict_of}
use Rattle.refusal.specs.Laws.{same_ok, never_ok}
use Rattle.sums.specs.Sum.{less, less_cases}
use Rattle.sums.specs.Keys.{order, users, pairs}
use Rattle.sums.specs.SizeLaws.{Sized, at}
use Rattle.sums.proofs.SizeLaws.{one_users, two_users, more_users}
use Rattle.sums.specs.RunLaws.{Run}
use Rattle.keys.specs.Rows.{rows}
use Rattle.keys.specs.Sized.{Ordered, place_at, place_in, many_order}
use Rattle.groups.specs.Ends.{ends_of}
use Rattle.bodies.specs.Fusing as F
use Rattle.interfaces.specs.Runs.{judge, Judged, judged_start, judged_two, judged_stop, judged_told, judged_pairs}
use Rattle.interfaces.specs.Steps.{stop_if, stop_heard}
use Rattle.edges.specs.declared.Paired.{Paired}
use Rattle.edges.specs.Laid.{laid_runs, laid_at}

-- What the walk over the edges leaves: its refusal, or the pairs of facets that run an edge.
pub record Edged (rs : List F.Run) (d : List ℕ) (m : Outcome Paired) : Type 0 where
  pub told : verdict_of m ≡ F.check_edges rs
  pub paired : (n : Paired) → m ≡ Ok n → take (2 * n.pairs) d ≡ ends_of (F.edges rs)
  pub half : (n : Paired) → m ≡ Ok n → 2 * n.pairs ≤ length d

abbrev pub face_of : List F.Run → ℕ → ℕ
face_of rs x = (F.run_at rs x).face

module _ (rs : List F.Run) (ks : List (List ℕ)) where
  abbrev pub Part : List ℕ → ℕ → ℕ → Type 0
  Part d p b = Judged (F.judge_edge rs) (face_of rs) ks d p b

  -- The walk goes on, or it is refused.
  unfoldable pub Standing : List ℕ → Outcome Paired → Type 0
  Standing d (Ok n) = Part d n.at n.pairs
  Standing d (Err r) = walk (judge (F.judge_edge rs) (face_of rs) ks) tt (order ks) ≡ Err r

  pub part_start : (d : List ℕ) → length (order ks) ≤ length d → Part d 0 0
  part_start d h = judged_start (F.judge_edge rs) (face_of rs) ks d h

  pub standing_part : (d : List ℕ) (m : Outcome Paired) (n : Paired) → m ≡ Ok n → Standing d m → Part d n.at n.pairs
  unfolding Standing
  standing_part d m n e s = subst (Standing d) e s

  pub standing_refused : (d : List ℕ) (m : Outcome Paired) (r : Refusal) → m ≡ Err r → Standing d m → walk (judge (F.judge_edge rs) (face_of rs) ks) tt (order ks) ≡ Err r
  unfolding Standing
  standing_refused d m r e s = subst (Standing d) e s

  module _ (d : List ℕ) (p b : ℕ) (h : p < length (order ks)) (w : Part d p b) where
    pub part_two : (v : Outcome Unit) (d' : List ℕ) → Sized ks p 2 → heard v tt ≡ F.judge_edge rs (at ks p ∷ at ks (p + 1) ∷ []) →
        d' ≡ set (set d (2 * b) (face_of rs (at ks p))) (2 * b + 1) (face_of rs (at ks (p + 1))) → v ≡ Ok tt → Part d' (p + 2) (b + 1)
    unfolding heard
    part_two v d' s e q g = judged_two (F.judge_edge rs) (face_of rs) ks d p b w d' (subst (Run ks p) (s.few (omega arith)) s.run) (sym e ∙ ap (λ v. heard v tt) g) q

    pub part_refused : (v : Outcome Unit) (d' : List ℕ) (r : Refusal) → Sized ks p 2 → heard v tt ≡ F.judge_edge rs (at ks p ∷ at ks (p + 1) ∷ []) → v ≡ Err r → Standing d' (Err r)
    unfolding Standing heard
    part_refused v d' r s e g = judged_stop (F.judge_edge rs) (face_of rs) ks d p b w r _ h (two_users ks p (subst (Run ks p) (s.few (omega arith)) s.run)) (sym e ∙ ap (λ v. heard v tt) g)

    -- one, or three or more
    pub part_odd : (d' : List ℕ) (m : ℕ) → Sized ks p m → m ≢ 2 → Standing d' (Err (refusal_of 20))
    unfolding Standing F.judge_edge
    part_odd d' zero s e = absurd (omega (arith, s.low))
    part_odd d' (suc zero) s e = judged_stop (F.judge_edge rs) (face_of rs) ks d p b w (refusal_of 20) _ h (one_users ks p (subst (Run ks p) (s.few (omega arith)) s.run)) refl
    part_odd d' (suc (suc zero)) s e = absurd (e refl)
    part_odd d' (suc (suc (suc m))) s e = judged_stop (F.judge_edge rs) (face_of rs) ks d p b w (refusal_of 20) _ h (more_users ks p s.e s.run (s.many (omega arith))) refl

  module _ (q : ks ≡ F.edge_keys rs) where
    whole : walk (judge (F.judge_edge rs) (face_of rs) ks) tt (order ks) ≡ F.check_edges rs
    whole = unfold F.check_edges in ap (λ ks. walk (λ _ i. F.judge_edge rs (users ks i)) tt (order ks)) q

    pub part_end : (d : List ℕ) (m : Paired) → length (order ks) ≤ m.at → Part d m.at m.pairs → Edged rs d (Ok m)
    part_end d m h w = record {
      told = unfold verdict_of in (judged_told (F.judge_edge rs) (face_of rs) ks d m.at m.pairs w h ∙ whole);
      paired = λ n e. ap (λ n. take (2 * n.pairs) d) (sym (same_ok e)) ∙ judged_pairs (F.judge_edge rs) (face_of rs) ks d m.at m.pairs w h ∙ named;
      half = λ n e. omega (arith, ap (λ n. n.pairs) (same_ok e), w.half, w.upto, w.room);
    }
      where
        named : ends_of (map (λ p. (face_of rs p.0, face_of rs p.1)) (pairs ks)) ≡ ends_of (F.edges rs)
        named = unfold F.edges in ap (λ ks. ends_of (map (λ p. (face_of rs p.0, face_of rs p.1)) (pairs ks))) q

    pub refused_end : (d : List ℕ) (r : Refusal) → walk (judge (F.judge_edge rs) (face_of rs) ks) tt (order ks) ≡ Err r → Edged rs d (Err r)
    refused_end d r w = record { told = unfold verdict_of in (sym w ∙ whole); paired = λ n e. never_ok e; half = λ n e. never_ok e }

-- ---- in the words of the code

pub rises_yes : (x y : ℕ) → x < y → 1 ≡ less x y
rises_yes x y h = ⊎_elim (λ c. sym c.1) (λ c. absurd (omega (arith, c.0))) (less_cases x y)

pub rises_no : (x y : ℕ) → y ≤ x → 0 ≡ less x y
rises_no x y h = ⊎_elim (λ c. absurd (omega (arith, c.0))) (λ c. sym c.1) (less_cases x y)

-- 20, of two that run an edge
pub edge_judged : (rd : List ℕ) (c a b : ℕ) (r : Outcome Unit) (ra rb : ℕ) → a < c → b < c →
    ra ≡ less (get_or rd (3 * a + 1) 0) (get_or rd (3 * a + 2) 0) → rb ≡ less (get_or rd (3 * b + 1) 0) (get_or rd (3 * b + 2) 0) →
    r ≡ stop_if (eqb (get_or rd (3 * a) 0) (get_or rd (3 * b) 0) || eqb ra rb) 20 → heard r tt ≡ F.judge_edge (laid_runs rd c) (a ∷ b ∷ [])
unfolding F.judge_edge
edge_judged rd c a b r ra rb ha hb ea eb q =
    ap (λ r. heard r tt) q ∙ stop_heard (eqb (get_or rd (3 * a) 0) (get_or rd (3 * b) 0) || eqb ra rb) 20
    ∙ ap₂ (λ s t. unless (eqb (get_or rd (3 * a) 0) (get_or rd (3 * b) 0) || eqb s t) 20 (Ok tt)) ea eb
    ∙ ap₂ (λ s t. unless (eqb s.face t.face || eqb (F.rises s) (F.rises t)) 20 (Ok tt)) (sym (laid_at rd c a ha)) (sym (laid_at rd c b hb))

pub edge_stored : (rd d d' : List ℕ) (c a b y : ℕ) → a < c → b < c → d' ≡ set (set d (2 * y) (get_or rd (3 * a) 0)) (2 * y + 1) (get_or rd (3 * b) 0) → d' ≡ set (set d (2 * y) (face_of (laid_runs rd c) a)) (2 * y + 1) (face_of (laid_runs rd c) b)
edge_stored rd d d' c a b y ha hb e = e ∙ ap₂ (λ s t. set (set d (2 * y) s.face) (2 * y + 1) t.face) (sym (laid_at rd c a ha)) (sym (laid_at rd c b hb))

-- One turn: refused, or the walk stands behind where it stood.
pub record Turned (rs : List F.Run) (ks : List (List ℕ)) (d : List ℕ) (p : ℕ) (m : Outcome Paired) : Type 0 where
  pub standing : Standing rs ks d m
  pub on : (n : Paired) → m ≡ Ok n → p < n.at

module _ (rd k starts o : List ℕ) (c : ℕ) (q : Ordered k starts c o) (d : List ℕ) (p b : ℕ) (h : p < c) (w : Part (laid_runs rd c) (rows k starts c) d p b) where
  inn : p < length (order (rows k starts c))
  inn = omega (arith, many_order k starts c)

  pub two_next : (m : ℕ) → Sized (rows k starts c) p m → m ≡ 2 → p + 1 < c
  two_next m s e = omega (arith, s.few (omega arith), s.run.high, many_order k starts c)

  pub two_read : (m : ℕ) → Sized (rows k starts c) p m → m ≡ 2 → p + 1 < length o
  two_read m s e = omega (arith, two_next m s e, q.room)

  pub two_second : (m : ℕ) → Sized (rows k starts c) p m → m ≡ 2 → get_or o (p + 1) 0 < c
  two_second m s e = place_in k starts c o q (p + 1) (two_next m s e)

  pub two_room : (m : ℕ) → Sized (rows k starts c) p m → m ≡ 2 → 2 * b + 1 < length d
  two_room m s e = omega (arith, two_next m s e, w.half, w.room, many_order k starts c)

  module _ (m : ℕ) (r : Outcome Unit) (d' : List ℕ) (s : Sized (rows k starts c) p m) (e : m ≡ 2) (j : heard r tt ≡ F.judge_edge (laid_runs rd c) (get_or o p 0 ∷ get_or o (p + 1) 0 ∷ []))
      (g : d' ≡ set (set d (2 * b) (face_of (laid_runs rd c) (get_or o p 0))) (2 * b + 1) (face_of (laid_runs rd c) (get_or o (p + 1) 0))) where
    zi : get_or o p 0 ≡ get_or (order (rows k starts c)) p 0
    zi = place_at k starts c o q p h

    zj : get_or o (p + 1) 0 ≡ get_or (order (rows k starts c)) (p + 1) 0
    zj = place_at k starts c o q (p + 1) (two_next m s e)

    s2 : Sized (rows k starts c) p 2
    s2 = subst (Sized (rows k starts c) p) e s

    j2 : heard r tt ≡ F.judge_edge (laid_runs rd c) (get_or (order (rows k starts c)) p 0 ∷ get_or (order (rows k starts c)) (p + 1) 0 ∷ [])
    j2 = j ∙ ap₂ (λ i l. F.judge_edge (laid_runs rd c) (i ∷ l ∷ [])) zi zj

    g2 : d' ≡ set (set d (2 * b) (face_of (laid_runs rd c) (get_or (order (rows k starts c)) p 0))) (2 * b + 1) (face_of (laid_runs rd c) (get_or (order (rows k starts c)) (p + 1) 0))
    g2 = g ∙ ap₂ (λ i l. set (set d (2 * b) (face_of (laid_runs rd c) i)) (2 * b + 1) (face_of (laid_runs rd c) l)) zi zj

    pub turn_two : r ≡ Ok tt → Turned (laid_runs rd c) (rows k starts c) d' p (Ok (record { at = p + 2; pairs = b + 1 }))
    unfolding Standing
    turn_two z = record { standing = part_two (laid_runs rd c) (rows k starts c) d p b inn w r d' s2 j2 g2 z; on = λ n e. omega (arith, ap (λ n. n.at) (same_ok e)) }

    pub turn_refused : (t : Refusal) (u : Outcome Paired) → r ≡ Err t → u ≡ Err t → Turned (laid_runs rd c) (rows k starts c) d' p u
    turn_refused t u z y = subst (Turned (laid_runs rd c) (rows k starts c) d' p) (sym y) (record { standing = part_refused (laid_runs rd c) (rows k starts c) d p b inn w r d' t s2 j2 z; on = λ n e. never_ok e })

  pub turn_odd : (m : ℕ) (r : Refusal) → Sized (rows k starts c) p m → m ≢ 2 → r ≡ refusal_of 20 → Turned (laid_runs rd c) (rows k starts c) d p (Err r)
  turn_odd m r s e u = record {
    standing = subst (λ r. Standing (laid_runs rd c) (rows k starts c) d (Err r)) (sym u) (part_odd (laid_runs rd c) (rows k starts c) d p b inn w d m s e);
    on = λ n e. never_ok e;
  }

-- ---- the loop

pub record Walking (rd k starts : List ℕ) (c : ℕ) (d₀ d : List ℕ) (m : Paired) : Type 0 where
  pub part : Part (laid_runs rd c) (rows k starts c) d m.at m.pairs
  pub size : length d ≡ length d₀

module _ (rd k starts : List ℕ) (c : ℕ) (d₀ : List ℕ) where
  pub walking_start : c ≤ length d₀ → Walking rd k starts c d₀ d₀ (record { at = 0; pairs = 0 })
  walking_start h = record { part = part_start (laid_runs rd c) (rows k starts c) d₀ (omega (arith, many_order k starts c)); size = refl }

  module _ (d' : List ℕ) (m : Paired) (o : Outcome Paired) (t : Turned (laid_runs rd c) (rows k starts c) d' m.at o) where
    pub walking_step : (d : List ℕ) (n : Paired) → Walking rd k starts c d₀ d m → length d' ≡ length d → o ≡ Ok n → Walking rd k starts c d₀ d' n
    walking_step d n w b e = record { part = standing_part (laid_runs rd c) (rows k starts c) d' o n e t.standing; size = b ∙ w.size }

    pub walking_on : (n : Paired) → m.at < c → o ≡ Ok n → c - n.at < c - m.at
    walking_on n h e = omega (arith, t.on n e)

    pub walking_refused : (u : Outcome Paired) (r : Refusal) → rows k starts c ≡ F.edge_keys (laid_runs rd c) → o ≡ Err r → u ≡ Err r → Edged (laid_runs rd c) d' u
    walking_refused u r q e y = subst (Edged (laid_runs rd c) d') (sym y) (refused_end (laid_runs rd c) (rows k starts c) q d' r (standing_refused (laid_runs rd c) (rows k starts c) d' o r e t.standing))

  pub walking_end : (d : List ℕ) (m : Paired) → rows k starts c ≡ F.edge_keys (laid_runs rd c) → c ≤ m.at → Walking rd k starts c d₀ d m → Edged (laid_runs rd c) d (Ok m)
  walking_end d m q h w = part_end (laid_runs rd c) (rows k starts c) q d m (omega (arith, many_order k starts c)) w.part
