-- The facets by their keys, run by run of the order.
use Rattle.std.specs.Prelude.{◌≡◌, refl, ℕ, ◌+◌, ◌*◌, ◌≤◌, ◌<◌, length, set, Ok, Err}
use Rattle.std.proofs.Common.{sym, ◌∙◌, arith, add-one, drop_of_length-le}
use Rattle.std.proofs.Math.Path.{ap, subst}
use mathlib.Core.List.{List, [], ◌∷◌, ◌++◌, append_assoc, append-nil}
use Rattle.std.proofs.Math.ListN.{take, length-set}
use Rattle.std.proofs.Math.Seq.{take-suc-set}
use Rattle.refusal.specs.declared.Refusal.{Refusal}
use Rattle.refusal.specs.Outcome.{Outcome, refusal_of, walk, heard, verdict_of}
use Rattle.refusal.specs.Laws.{same_ok, never_ok}
use Rattle.sums.specs.Sum.{hit}
use Rattle.sums.specs.Keys.{keep, order, users, lone, pairs}
use Rattle.sums.specs.SizeLaws.{Sized, at, lones_from}
use Rattle.sums.proofs.SizeLaws.{one_lone, two_users, two_lone, more_users}
use Rattle.sums.specs.RunLaws.{Run}
use Rattle.groups.specs.Ends.{ends_of}
use Rattle.bodies.specs.Fusing.{Facet, cell_of, keys, judge_users, check_facets, exterior, interfaces}
use Rattle.interfaces.specs.declared.Met.{Met}
use Rattle.interfaces.specs.Runs.{judge, named, Judged, judged_start, judged_one, judged_two, judged_stop, judged_told, judged_pairs}

-- What the walk over the keys leaves: its refusal, or the facets of one cell in `x` and the pairs of cells that meet in `d`.
pub record Met_all (fs : List Facet) (x d : List ℕ) (m : Outcome Met) : Type 0 where
  pub told : verdict_of m ≡ check_facets fs
  pub listed : (n : Met) → m ≡ Ok n → take n.listed x ≡ exterior fs
  pub paired : (n : Met) → m ≡ Ok n → take (2 * n.pairs) d ≡ ends_of (interfaces fs)
  pub few : (n : Met) → m ≡ Ok n → n.listed ≤ length x
  pub half : (n : Met) → m ≡ Ok n → 2 * n.pairs ≤ length d

module _ (fs : List Facet) (ks : List (List ℕ)) where
  -- Before place p: a facets are listed, b pairs meet.
  pub record Part (x d : List ℕ) (p a b : ℕ) : Type 0 where
    pub judged : Judged (judge_users fs) (cell_of fs) ks d p b
    pub listed : take a x ++ lones_from ks p ≡ lone ks
    pub few : a ≤ p
    pub room : length (order ks) ≤ length x

  -- The walk goes on, or it is refused.
  unfoldable pub Standing : List ℕ → List ℕ → Outcome Met → Type 0
  Standing x d (Ok n) = Part x d n.at n.listed n.pairs
  Standing x d (Err r) = walk (judge (judge_users fs) (cell_of fs) ks) tt (order ks) ≡ Err r

  pub part_start : (x d : List ℕ) → length (order ks) ≤ length x → length (order ks) ≤ length d → Part x d 0 0 0
  unfolding lone
  part_start x d h l = record { judged = judged_start (judge_users fs) (cell_of fs) ks d l; listed = refl; few = omega arith; room = h }

  -- a turn that goes on is a part
  pub standing_part : (x d : List ℕ) (m : Outcome Met) (n : Met) → m ≡ Ok n → Standing x d m → Part x d n.at n.listed n.pairs
  unfolding Standing
  standing_part x d m n e s = subst (Standing x d) e s

  pub standing_refused : (x d : List ℕ) (m : Outcome Met) (r : Refusal) → m ≡ Err r → Standing x d m → walk (judge (judge_users fs) (cell_of fs) ks) tt (order ks) ≡ Err r
  unfolding Standing
  standing_refused x d m r e s = subst (Standing x d) e s

  module _ (x d : List ℕ) (p a b : ℕ) (h : p < length (order ks)) (w : Part x d p a b) where
    pub part_one : Sized ks p 1 → Part (set x a (at ks p)) d (p + 1) (a + 1) b
    unfolding judge_users
    part_one s =
        let r : Run ks p (p + 1) = subst (Run ks p) (s.few (omega arith)) s.run in
        record {
          judged = judged_one (judge_users fs) (cell_of fs) ks d p b w.judged r refl;
          listed = ap (λ l. l ++ lones_from ks (p + 1)) (ap (λ n. take n (set x a (at ks p))) (add-one a) ∙ take-suc-set x a (at ks p) (omega (arith, w.few, w.room)))
              ∙ append_assoc (take a x) (at ks p ∷ []) (lones_from ks (p + 1)) ∙ ap (λ l. take a x ++ l) (sym (one_lone ks p r)) ∙ w.listed;
          few = omega (arith, w.few);
          room = omega (arith, w.room, length-set x a (at ks p));
        }

    -- two that share a key, as they are judged
    pub part_two : (v : Outcome Unit) (d' : List ℕ) → Sized ks p 2 → heard v tt ≡ judge_users fs (at ks p ∷ at ks (p + 1) ∷ []) →
        d' ≡ set (set d (2 * b) (cell_of fs (at ks p))) (2 * b + 1) (cell_of fs (at ks (p + 1))) → v ≡ Ok tt → Part x d' (p + 2) a (b + 1)
    unfolding heard
    part_two v d' s e q g =
        let r : Run ks p (p + 2) = subst (Run ks p) (s.few (omega arith)) s.run in
        record {
          judged = judged_two (judge_users fs) (cell_of fs) ks d p b w.judged d' r (sym e ∙ ap (λ v. heard v tt) g) q;
          listed = ap (λ l. take a x ++ l) (sym (two_lone ks p r)) ∙ w.listed;
          few = omega (arith, w.few);
          room = w.room;
        }

    pub part_refused : (v : Outcome Unit) (d' : List ℕ) (r : Refusal) → Sized ks p 2 → heard v tt ≡ judge_users fs (at ks p ∷ at ks (p + 1) ∷ []) → v ≡ Err r → Standing x d' (Err r)
    unfolding Standing heard
    part_refused v d' r s e g =
        let u : Run ks p (p + 2) = subst (Run ks p) (s.few (omega arith)) s.run in
        judged_stop (judge_users fs) (cell_of fs) ks d p b w.judged r (at ks p ∷ at ks (p + 1) ∷ []) h (two_users ks p u) (sym e ∙ ap (λ v. heard v tt) g)

    -- three or more
    pub part_more : (d' : List ℕ) (m : ℕ) → Sized ks p m → 3 ≤ m → Standing x d' (Err (refusal_of 19))
    unfolding Standing judge_users
    part_more d' m s e = judged_stop (judge_users fs) (cell_of fs) ks d p b w.judged (refusal_of 19) _ h (more_users ks p s.e s.run (s.many e)) refl

  -- the end of the walk
  module _ (q : ks ≡ keys fs) where
    whole : walk (judge (judge_users fs) (cell_of fs) ks) tt (order ks) ≡ check_facets fs
    whole = unfold check_facets in ap (λ ks. walk (λ _ i. judge_users fs (users ks i)) tt (order ks)) q

    pub part_end : (x d : List ℕ) (m : Met) → length (order ks) ≤ m.at → Part x d m.at m.listed m.pairs → Met_all fs x d (Ok m)
    part_end x d m h w = record {
      told = told;
      listed = λ n e. ap (λ n. take n.listed x) (sym (same_ok e)) ∙ sym (append-nil (take m.listed x)) ∙ ap (λ l. take m.listed x ++ l) (sym none) ∙ w.listed ∙ ap lone q;
      paired = λ n e. ap (λ n. take (2 * n.pairs) d) (sym (same_ok e)) ∙ judged_pairs (judge_users fs) (cell_of fs) ks d m.at m.pairs w.judged h ∙ whole_pairs;
      few = λ n e. omega (arith, ap (λ n. n.listed) (same_ok e), w.few, w.judged.upto, w.room);
      half = λ n e. omega (arith, ap (λ n. n.pairs) (same_ok e), w.judged.half, w.judged.upto, w.judged.room);
    }
      where
        told : verdict_of (Ok m) ≡ check_facets fs
        told = unfold verdict_of in (judged_told (judge_users fs) (cell_of fs) ks d m.at m.pairs w.judged h ∙ whole)

        none : lones_from ks m.at ≡ []
        none = unfold keep in ap (keep (λ i. hit 1 (length (users ks i)))) (drop_of_length-le (order ks) h)

        whole_pairs : named (judge_users fs) (cell_of fs) ks (pairs ks) ≡ ends_of (interfaces fs)
        whole_pairs = ap (λ ks. named (judge_users fs) (cell_of fs) ks (pairs ks)) q

    pub refused_end : (x d : List ℕ) (r : Refusal) → walk (judge (judge_users fs) (cell_of fs) ks) tt (order ks) ≡ Err r → Met_all fs x d (Err r)
    refused_end x d r w = record {
      told = unfold verdict_of in (sym w ∙ whole);
      listed = λ n e. never_ok e;
      paired = λ n e. never_ok e;
      few = λ n e. never_ok e;
      half = λ n e. never_ok e;
    }
