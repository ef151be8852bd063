-- A walk over the keys that judges each run and stores the pairs: what is left at place p of the order.
use Rattle.std.specs.Prelude.{◌≡◌, refl, ℕ, suc, ◌+◌, ◌*◌, ◌≤◌, ◌<◌, set, Ok, Err}
use Rattle.std.proofs.Math.Path.{sym, ap}
use Rattle.std.proofs.Common.{◌∙◌, arith, add-one, drop_of_length-le, drop-cons, take-suc-set}
use mathlib.Core.List.{List, [], ◌∷◌, ◌++◌, map, append_assoc, append-nil}
use Rattle.std.proofs.Math.ListN.{length, take, drop, length-set}
use Rattle.refusal.specs.declared.Refusal.{Refusal}
use Rattle.refusal.specs.Outcome.{Outcome, walk}
use Rattle.refusal.specs.Laws.{walk_go, walk_stop, walk_end}
use Rattle.sums.specs.Keys.{order, users, led, flat, pairs}
use Rattle.sums.specs.SizeLaws.{Fresh, at, pairs_from}
use Rattle.sums.proofs.SizeLaws.{fresh_start, fresh_next, one_left, one_users, one_pairs, two_left, two_users, two_alike, two_pairs}
use Rattle.sums.specs.RunLaws.{Run}
use Rattle.groups.specs.Ends.{ends_of}

two_stored : (d : List ℕ) (b y z : ℕ) → 2 * b + 1 < length d → take (2 * (b + 1)) (set (set d (2 * b) y) (2 * b + 1) z) ≡ take (2 * b) d ++ (y ∷ z ∷ [])
two_stored d b y z l =
    let e : 2 * (b + 1) ≡ suc (2 * b + 1) = omega arith in
    ap (λ n. take n (set (set d (2 * b) y) (2 * b + 1) z)) e
    ∙ take-suc-set (set d (2 * b) y) (2 * b + 1) z (omega (arith, length-set d (2 * b) y))
    ∙ ap (λ l. l ++ (z ∷ [])) (ap (λ n. take n (set d (2 * b) y)) (add-one (2 * b)) ∙ take-suc-set d (2 * b) y (omega arith))
    ∙ append_assoc (take (2 * b) d) (y ∷ []) (z ∷ [])

-- J judges those that share a key, g names a place of a pair.
module _ (J : List ℕ → Outcome (Unit {0})) (g : ℕ → ℕ) (ks : List (List ℕ)) where
  abbrev pub judge : Unit {0} → ℕ → Outcome (Unit {0})
  judge _ i = J (users ks i)

  abbrev pub named : List (ℕ × ℕ) → List ℕ
  named l = ends_of (map (λ p. (g p.0, g p.1)) l)

  pub record Judged (d : List ℕ) (p b : ℕ) : Type 0 where
    pub upto : p ≤ length (order ks)
    pub fresh : Fresh ks p
    pub left : walk judge tt (drop p (order ks)) ≡ walk judge tt (order ks)
    pub paired : take (2 * b) d ++ named (pairs_from ks p) ≡ named (pairs ks)
    pub half : 2 * b ≤ p
    pub room : length (order ks) ≤ length d

  pub judged_start : (d : List ℕ) → length (order ks) ≤ length d → Judged d 0 0
  unfolding pairs
  judged_start d h = record { upto = omega arith; fresh = fresh_start ks; left = refl; paired = refl; half = omega arith; room = h }

  module _ (d : List ℕ) (p b : ℕ) (w : Judged d p b) where
    pub judged_one : Run ks p (p + 1) → J (at ks p ∷ []) ≡ Ok tt → Judged d (p + 1) b
    judged_one r e = record {
      upto = r.high;
      fresh = fresh_next ks p (p + 1) w.fresh r;
      left = sym (ap (walk judge tt) (one_left ks p r) ∙ walk_go judge tt (at ks p) (drop (p + 1) (order ks)) tt (ap J (one_users ks p r) ∙ e)) ∙ w.left;
      paired = ap (λ l. take (2 * b) d ++ named l) (sym (one_pairs ks p r)) ∙ w.paired;
      half = omega (arith, w.half);
      room = w.room;
    }

    pub judged_two : (d' : List ℕ) → Run ks p (p + 2) → J (at ks p ∷ at ks (p + 1) ∷ []) ≡ Ok tt → d' ≡ set (set d (2 * b) (g (at ks p))) (2 * b + 1) (g (at ks (p + 1))) → Judged d' (p + 2) (b + 1)
    unfolding ends_of
    judged_two d' r e q =
        let i = at ks p in
        let j = at ks (p + 1) in
        let inn : 2 * b + 1 < length d = omega (arith, w.half, w.room, r.high) in
        record {
          upto = r.high;
          fresh = fresh_next ks p (p + 2) w.fresh r;
          left = sym (ap (walk judge tt) (two_left ks p r)
              ∙ walk_go judge tt i (j ∷ drop (p + 2) (order ks)) tt (ap J (two_users ks p r) ∙ e)
              ∙ walk_go judge tt j (drop (p + 2) (order ks)) tt (ap J (two_alike ks p r) ∙ e)) ∙ w.left;
          paired = ap (λ l. l ++ named (pairs_from ks (p + 2))) (ap (take (2 * (b + 1))) q ∙ two_stored d b (g i) (g j) inn)
              ∙ append_assoc (take (2 * b) d) (g i ∷ g j ∷ []) (named (pairs_from ks (p + 2)))
              ∙ ap (λ l. take (2 * b) d ++ named l) (sym (two_pairs ks p r)) ∙ w.paired;
          half = omega (arith, w.half);
          room = omega (arith, w.room, ap length q, length-set (set d (2 * b) (g i)) (2 * b + 1) (g j), length-set d (2 * b) (g i));
        }

    -- a run that is refused
    pub judged_stop : (r : Refusal) (l : List ℕ) → p < length (order ks) → users ks (at ks p) ≡ l → J l ≡ Err r → walk judge tt (order ks) ≡ Err r
    judged_stop r l h u e = sym w.left ∙ ap (walk judge tt) (drop-cons (order ks) p 0 h) ∙ walk_stop judge tt (at ks p) (drop (suc p) (order ks)) r (ap J u ∙ e)

    -- the end
    pub judged_told : length (order ks) ≤ p → Ok tt ≡ walk judge tt (order ks)
    judged_told h = sym (walk_end judge tt) ∙ sym (ap (walk judge tt) (drop_of_length-le (order ks) h)) ∙ w.left

    pub judged_pairs : length (order ks) ≤ p → take (2 * b) d ≡ named (pairs ks)
    unfolding flat ends_of
    judged_pairs h = sym (append-nil (take (2 * b) d)) ∙ ap (λ l. take (2 * b) d ++ l) (sym (ap (λ l. named (flat (λ i. led i (users ks i)) l)) (drop_of_length-le (order ks) h))) ∙ w.paired
