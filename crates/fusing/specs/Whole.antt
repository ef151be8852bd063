-- One body: its edges, then its shells.
use Rattle.std.specs.Prelude.{◌≡◌, List, ◌++◌, ℕ, ◌*◌, ◌≤◌, ◌<◌, Float, length, take, drop, Ok, Err}
use Rattle.std.proofs.Math.Path.{sym, ap, subst}
use Rattle.std.proofs.Common.{ap₂, ◌∙◌, arith, length-take-le}
use Rattle.std.proofs.Math.Seq.{length_front}
use Rattle.refusal.specs.declared.Refusal.{Refusal}
use Rattle.refusal.specs.Outcome.{Outcome, verdict_of}
use Rattle.sums.specs.Sum.{Each}
use Rattle.sums.proofs.KeyLaws.{each_get_d}
use Rattle.groups.specs.Groups.{Within}
use Rattle.groups.specs.Ends.{ends_of}
use Rattle.bodies.specs.Fusing as F
use Rattle.interfaces.specs.Facets.{facets_of}
use Rattle.edges.specs.Laid.{row_runs}
use Rattle.shells.specs.Faces.{Owned}
use Rattle.shells.specs.Named.{Spread}
use Rattle.cavities.specs.Steps.{volume_of}
use Rattle.fusing.specs.declared.Made.{Made}
use Rattle.fusing.specs.declared.Bordered.{Bordered}
use Rattle.fusing.specs.Bodied.{Bodied, Faced, named_shells}
use Rattle.fusing.specs.Body.{faces_by, faces_are, faces_in, edges_within, body_stopped, body_goes, Bordering}
use Rattle.fusing.specs.Bench.{Cycles, Bench, few_listed, listed_owned}

-- a slice of which a front was lent
pub front_lent : (d e : List ℕ) (n k : ℕ) → length e ≡ length (take n d) → length d ≡ k → length (e ++ drop n d) ≡ k
front_lent d e n k h l = length_front d e n h ∙ l

module _ (v starts owners : List ℕ) (f : ℕ) (x g : List ℕ) (q : Cycles v starts f) (h : f ≤ length owners) (same : x ≡ F.exterior (facets_of v starts owners f)) (fl e : List ℕ) (o : Outcome Bordered) (b : Bordering v starts owners x g fl e o) where
  own : Owned owners f x
  own = listed_owned v starts owners f x q.fine same h

  pub whole_stopped : (ps : List Float) (x₀ s₀ : List ℕ) (at sat : ℕ) (c s : List ℕ) (n : Outcome Made) (y : Refusal) → o ≡ Err y → n ≡ Err y →
      Bodied (F.body_of (volume_of ps v starts) (facets_of v starts owners f) g) (length (F.faces_of (facets_of v starts owners f) g)) x₀ s₀ at sat c s n
  unfolding Bodied verdict_of
  whole_stopped ps x₀ s₀ at sat c s n y t m = subst (λ u. Bodied u (length (F.faces_of (facets_of v starts owners f) g)) x₀ s₀ at sat c s n) (sym (body_stopped ps v starts owners f x g own same y (sym b.told ∙ ap verdict_of t))) m

  module _ (r : Bordered) (t : o ≡ Ok r) where
    front : take r.faces fl ≡ faces_by owners x g
    front = ap (λ n. take n fl) (b.counted r t) ∙ b.faces

    pub whole_faced : Faced v starts f (take r.faces fl)
    whole_faced = record {
      fine = q.fine;
      some = q.some;
      inn = λ k l. each_get_d (λ i. i < f) (take r.faces fl) 0 k (subst (λ l. Each (λ i. i < f) l) (sym front) (faces_in v starts owners f x own same g)) l;
    }

    pub whole_size : length (take r.faces fl) ≡ length (F.faces_of (facets_of v starts owners f) g)
    whole_size = ap length (front ∙ faces_are v starts owners f x own same g)

    pub whole_few : r.faces ≤ f
    whole_few = omega (arith, b.counted r t, b.few, few_listed v starts owners f x q.fine same)

    pub whole_within : Within (take (2 * r.pairs) e) (length (take r.faces fl))
    whole_within = subst (λ l. Within l (length (take r.faces fl))) (sym (b.paired r t)) (subst (λ l. Within (ends_of (F.edges (row_runs v starts 0 (faces_by owners x g)))) (length l)) (sym front) (edges_within v starts (faces_by owners x g)))

    pub whole_made : (ps : List Float) (x₀ s₀ : List ℕ) (at sat : ℕ) (c s : List ℕ) (n : Outcome Made) →
        Bodied (F.order_shells (volume_of ps v starts) (named_shells (take r.faces fl) (take (2 * r.pairs) e))) (length (take r.faces fl)) x₀ s₀ at sat c s n →
        Bodied (F.body_of (volume_of ps v starts) (facets_of v starts owners f) g) (length (F.faces_of (facets_of v starts owners f) g)) x₀ s₀ at sat c s n
    unfolding verdict_of
    whole_made ps x₀ s₀ at sat c s n m = subst (λ u. Bodied u (length (F.faces_of (facets_of v starts owners f) g)) x₀ s₀ at sat c s n)
        (ap₂ (λ a c. F.order_shells (volume_of ps v starts) (named_shells a c)) front (b.paired r t) ∙ sym (body_goes ps v starts owners f x g own same (sym b.told ∙ ap verdict_of t)))
        (subst (λ k. Bodied (F.order_shells (volume_of ps v starts) (named_shells (take r.faces fl) (take (2 * r.pairs) e))) k x₀ s₀ at sat c s n) whole_size m)

    -- what the shells ask
    pub whole_spread : (fl₀ d₀ k₀ s₀ o₀ e₀ nd ct : List ℕ) → Bench v f fl₀ d₀ k₀ s₀ o₀ e₀ nd ct →
        (d k s c : List ℕ) → length fl ≡ length fl₀ → length d ≡ length d₀ → length k ≡ length k₀ → length s ≡ length s₀ → length c ≡ length o₀ → length e ≡ length e₀ →
        Spread (take (2 * r.pairs) e) (take r.faces d) k (take r.faces s) c (take r.faces fl) nd ct
    whole_spread fl₀ d₀ k₀ s₀ o₀ e₀ nd ct w d k s c hf hd hk hs ho he =
        let m : r.faces ≤ f = whole_few in
        let n : length (take r.faces fl) ≡ r.faces = length-take-le r.faces fl (omega (arith, w.faces)) in
        let p : length (take (2 * r.pairs) e) ≡ 2 * r.pairs = length-take-le (2 * r.pairs) e (b.half r t) in
        record {
          within = whole_within;
          heads = length-take-le r.faces d (omega (arith, w.heads)) ∙ sym n;
          flags = length-take-le r.faces s (omega (arith, w.flags)) ∙ sym n;
          links = omega (arith, w.links, b.half r t);
          stack = omega (arith, w.stack);
          room = omega (arith, w.nodes);
          marks = omega (arith, w.cuts);
        }

    pub whole_took : (n : ℕ) (l : List ℕ) → f ≤ n → length l ≡ n → r.faces ≡ length (take r.faces l)
    whole_took n l w z = sym (length-take-le r.faces l (omega (arith, whole_few)))
