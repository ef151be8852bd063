-- Laws of `conform`, in the words of the code.
use Rattle.std.proofs.Math.Path.{◌≡◌, refl, sym, ap, subst}
use Rattle.std.proofs.Common.{◌∙◌, arith, mod-lt, add-one, length-set, length-drop, get_or-drop}
use Rattle.std.specs.Prelude.{List, [], ◌∷◌, ◌++◌, ℕ, suc, ◌+◌, ◌*◌, ◌%◌, ◌≤◌, ◌<◌, drop, set, Float, Ok, Err}
use Rattle.std.proofs.Math.ListN.{length, take, get_or, length-append}
use Rattle.std.proofs.Math.Seq.{sets, length-sets}
use Rattle.refusal.specs.declared.Refusal.{Refusal}
use Rattle.refusal.specs.Outcome.{Outcome, walk}
use Rattle.refusal.specs.Laws.{stop, go, walk_go, walk_stop, walk_end}
use Rattle.lists.specs.Walks.{cyclic}
use Rattle.lists.specs.Laws.{next, done, next_edge, edges_done}
use Rattle.space.specs.declared.Precision.{Precision}
use Rattle.polygon.specs.Memory.{points_at}
use Rattle.room.specs.Rooms.{counts_at}
use Rattle.room.specs.Laws.{sets_append}
use Rattle.inside.specs.Edges.{inside_edge}
use Rattle.inside.specs.Slices.{Same, Roomy, Edged}
use Rattle.conform.specs.Conform.{conform_edge, conform}
use Rattle.conform.specs.Cycles.{Among, Spliced, Conformed}

-- ---- a run of places

-- i of the first m places are stored
pub record Appending (o₀ : List ℕ) (at : ℕ) (l : List ℕ) (m : ℕ) (o : List ℕ) (i : ℕ) : Type 0 where
  pub upto : i ≤ m
  pub same : length o ≡ length o₀
  pub rest : sets o (at + i) (drop i (take m l)) ≡ sets o₀ at (take m l)

pub appending_start : (o : List ℕ) (at : ℕ) (l : List ℕ) (m : ℕ) → Appending o at l m o 0
appending_start o at l m = record { upto = omega arith; same = refl; rest = ap (λ z. sets o z (take m l)) (omega arith) }

module _ {o₀ : List ℕ} {at : ℕ} {l : List ℕ} {m : ℕ} {o : List ℕ} {i : ℕ} (I : Appending o₀ at l m o i) (room : m ≤ length l) where
  pub appending_step : (o' : List ℕ) → i < m → o' ≡ set o (at + i) (get_or l i 0) → Appending o₀ at l m o' (i + 1)
  appending_step o' h e =
      let r = drop (i + 1) (take m l) in
      let k : at + (i + 1) ≡ suc (at + i) = omega arith in
      record {
        upto = omega arith;
        same = ap length e ∙ length-set o (at + i) (get_or l i 0) ∙ I.same;
        rest = ap (λ z. sets z (at + (i + 1)) r) e ∙ ap (λ z. sets (set o (at + i) (get_or l i 0)) z r) k ∙ ap (sets o (at + i)) (sym (next l m i 0 h room)) ∙ I.rest;
      }

  pub appending_end : m ≤ i → o ≡ sets o₀ at (take m l)
  appending_end h = ap (λ z. sets o (at + i) z) (sym (done l m i h)) ∙ I.rest

-- ---- one edge

module _ (i n at : ℕ) (a₀ b₀ : List Float) (k₀ o₀ : List ℕ) (a b : List Float) (k : List ℕ) where
  pub spliced_not : (x : Outcome (List ℕ)) (r r' : Outcome ℕ) (y : Refusal) → Edged x n a₀ b₀ k₀ a b k r → r ≡ Err y → r' ≡ Err y → Spliced x i n at a₀ b₀ k₀ o₀ a b k o₀ r'
  unfolding Edged Spliced
  spliced_not (Ok l) r r' y h g f = absurd (let u = h.0 in let z : ◌≡◌ {A = ℕ} 0 1 = cc in omega arith)
  spliced_not (Err x) r r' y h g f = (let u = h.0 in let v : y ≡ x = cc in f ∙ ap Err v, refl, h.1)

  pub spliced_made : (x : Outcome (List ℕ)) (r : Outcome ℕ) (m : ℕ) (o₁ o₂ : List ℕ) → Edged x n a₀ b₀ k₀ a b k r → r ≡ Ok m → o₁ ≡ set o₀ at i → o₂ ≡ sets o₁ (at + 1) (take m k) →
      Spliced x i n at a₀ b₀ k₀ o₀ a b k o₂ (Ok (m + 1))
  unfolding Edged Spliced
  spliced_made (Ok l) r m o₁ o₂ h g e f =
      let c : m ≡ length l = (let u = h.0 in cc) in
      let p : take m k ≡ l = ap (λ z. take z k) c ∙ h.2 in
      (ap (λ z. Ok (z + 1)) c, h.1, f ∙ ap (λ z. sets z (at + 1) (take m k)) e ∙ ap (sets (set o₀ at i) (at + 1)) p ∙ ap (λ z. sets (set o₀ at i) z l) (add-one at), h.3)
  spliced_made (Err x) r m o₁ o₂ h g e f = absurd (let u = h.0 in let z : ◌≡◌ {A = ℕ} 0 1 = cc in omega arith)

pub edged_fits : (n : ℕ) (a₀ b₀ : List Float) (k₀ : List ℕ) (a b : List Float) (k : List ℕ) (x : Outcome (List ℕ)) (r : Outcome ℕ) (m : ℕ) → n ≤ length k₀ → Edged x n a₀ b₀ k₀ a b k r → r ≡ Ok m → (m ≤ length k) × (m ≤ n)
unfolding Edged
edged_fits n a₀ b₀ k₀ a b k (Ok l) r m h e g =
    let c : m ≡ length l = (let u = e.0 in cc) in
    (omega (arith, c, e.1, e.3.places), omega (arith, c, e.1))
edged_fits n a₀ b₀ k₀ a b k (Err x) r m h e g = absurd (let u = e.0 in let z : ◌≡◌ {A = ℕ} 0 1 = cc in omega arith)

-- ---- the edges of a facet

spliced_of : (x : Outcome (List ℕ)) (i n at : ℕ) (a₀ b₀ : List Float) (k₀ o₀ : List ℕ) (a b : List Float) (k o : List ℕ) (r : Outcome ℕ) (m : ℕ) → Spliced x i n at a₀ b₀ k₀ o₀ a b k o r → r ≡ Ok m →
    (l : List ℕ) × (x ≡ Ok l) × (m ≡ length l + 1) × (m ≤ n + 1) × (o ≡ sets o₀ at (i ∷ l)) × Same a₀ b₀ k₀ a b k
unfolding Spliced
spliced_of (Ok l) i n at a₀ b₀ k₀ o₀ a b k o r m h g =
    let c : m ≡ length l + 1 = (let u = h.0 in cc) in
    (l, refl, c, omega (arith, h.1), h.2, h.3)
spliced_of (Err x) i n at a₀ b₀ k₀ o₀ a b k o r m h g = absurd (let u = h.0 in let z : ◌≡◌ {A = ℕ} 0 1 = cc in omega arith)

spliced_none : (x : Outcome (List ℕ)) (i n at : ℕ) (a₀ b₀ : List Float) (k₀ o₀ : List ℕ) (a b : List Float) (k o : List ℕ) (r : Outcome ℕ) (y : Refusal) → Spliced x i n at a₀ b₀ k₀ o₀ a b k o r → r ≡ Err y →
    (x ≡ Err y) × (length o ≡ length o₀) × Same a₀ b₀ k₀ a b k
unfolding Spliced
spliced_none (Ok l) i n at a₀ b₀ k₀ o₀ a b k o r y h g = absurd (let u = h.0 in let z : ◌≡◌ {A = ℕ} 0 1 = cc in omega arith)
spliced_none (Err x) i n at a₀ b₀ k₀ o₀ a b k o r y h g = ((let u = h.0 in let w : x ≡ y = cc in ap Err w), h.1, h.2)

pub same_more : {a₀ b₀ : List Float} {k₀ : List ℕ} {a b : List Float} {k : List ℕ} {a' b' : List Float} {k' : List ℕ} → Same a₀ b₀ k₀ a b k → Same a b k a' b' k' → Same a₀ b₀ k₀ a' b' k'
same_more s u = record { lows = u.lows ∙ s.lows; highs = u.highs ∙ s.highs; places = u.places ∙ s.places }

-- of c edges, i are done, with q vertices
pub record Conforming (t : Precision) (s : List Float) (n : ℕ) (l : List ℕ) (first c at : ℕ) (a₀ b₀ : List Float) (k₀ o₀ : List ℕ) (a b : List Float) (k o : List ℕ) (q i : ℕ) : Type 0 where
  pub state : List ℕ
  pub upto : i ≤ c
  pub count : q ≡ length state
  pub few : q ≤ 4097 * i
  pub out : o ≡ sets o₀ at state
  pub same : Same a₀ b₀ k₀ a b k
  pub rest : walk (conform_edge t (points_at s 0 n)) state (drop i (cyclic (counts_at l first c))) ≡ conform t (points_at s 0 n) (counts_at l first c)

pub conforming_start : (t : Precision) (s : List Float) (n : ℕ) (l : List ℕ) (first c at : ℕ) (a b : List Float) (k o : List ℕ) → Conforming t s n l first c at a b k o a b k o 0 0
unfolding conform
conforming_start t s n l first c at a b k o = record {
  state = [];
  upto = omega arith;
  count = refl;
  few = omega arith;
  out = refl;
  same = record { lows = refl; highs = refl; places = refl };
  rest = refl;
}

module _ {t : Precision} {s : List Float} {n : ℕ} {l : List ℕ} {first c at : ℕ} {a₀ b₀ : List Float} {k₀ o₀ : List ℕ} {a b : List Float} {k o : List ℕ} {q i : ℕ}
    (I : Conforming t s n l first c at a₀ b₀ k₀ o₀ a b k o q i) (among : Among n l first c) (points : n ≤ 4096) where
  pub conforming_out : length o ≡ length o₀
  conforming_out = ap length I.out ∙ length-sets o₀ at I.state

  pub conforming_room : Roomy n a₀ b₀ k₀ → Roomy n a b k
  conforming_room r = record { lows = omega (arith, r.lows, I.same.lows); highs = omega (arith, r.highs, I.same.highs); places = omega (arith, r.places, I.same.places) }

  pub conforming_from : i < c → get_or l (first + i) 0 < n
  conforming_from h = among.below i h

  pub conforming_to : i < c → get_or l (first + (i + 1) % c) 0 < n
  conforming_to h = among.below ((i + 1) % c) (mod-lt (i + 1) (omega arith))

  pub conforming_low : i < c → q ≤ 600000
  conforming_low h = omega (arith, I.few, among.small)

  pub conforming_next : i < c → first + (i + 1) % c < length l
  conforming_next h = (let m : (i + 1) % c < c = mod-lt (i + 1) (omega arith) in omega (arith, among.fits))

  opens : i < c → drop i (cyclic (counts_at l first c)) ≡ record { from = get_or l (first + i) 0; to = get_or l (first + (i + 1) % c) 0 } ∷ drop (i + 1) (cyclic (counts_at l first c))
  opens h =
      next_edge (drop first l) c i 0 h (omega (arith, length-drop first l, among.fits))
      ∙ ap (λ z. record { from = z; to = get_or (drop first l) ((i + 1) % c) 0 } ∷ drop (i + 1) (cyclic (counts_at l first c))) (get_or-drop first l i 0)
      ∙ ap (λ z. record { from = get_or l (first + i) 0; to = z } ∷ drop (i + 1) (cyclic (counts_at l first c))) (get_or-drop first l ((i + 1) % c) 0)

  turn : i < c → walk (conform_edge t (points_at s 0 n)) I.state (record { from = get_or l (first + i) 0; to = get_or l (first + (i + 1) % c) 0 } ∷ drop (i + 1) (cyclic (counts_at l first c)))
      ≡ conform t (points_at s 0 n) (counts_at l first c)
  turn h = ap (walk (conform_edge t (points_at s 0 n)) I.state) (sym (opens h)) ∙ I.rest

  abbrev found : Outcome (List ℕ)
  found = inside_edge t (points_at s 0 n) (get_or l (first + i) 0) (get_or l (first + (i + 1) % c) 0)

  pub conforming_step : (a' b' : List Float) (k' o' : List ℕ) (r : Outcome ℕ) (m : ℕ) → i < c → r ≡ Ok m →
      Spliced found (get_or l (first + i) 0) n (at + q) a b k o a' b' k' o' r → Conforming t s n l first c at a₀ b₀ k₀ o₀ a' b' k' o' (q + m) (i + 1)
  unfolding conform_edge
  conforming_step a' b' k' o' r m h g w =
      let x = get_or l (first + i) 0 in
      let z = spliced_of found x n (at + q) a b k o a' b' k' o' r m w g in
      let v = x ∷ z.0 in
      let f = I.state ++ (x ∷ z.0) in
      let e : conform_edge t (points_at s 0 n) I.state (record { from = get_or l (first + i) 0; to = get_or l (first + (i + 1) % c) 0 }) ≡ Ok (I.state ++ (get_or l (first + i) 0 ∷ z.0)) = go found _ z.0 z.1 in
      record {
        state = f;
        upto = omega arith;
        count = omega (arith, I.count, z.2, length-append I.state (x ∷ z.0));
        few = omega (arith, I.few, z.3, points);
        out = z.4 ∙ ap (λ y. sets y (at + q) v) I.out ∙ ap (λ y. sets (sets o₀ at I.state) (at + y) v) I.count ∙ sets_append o₀ at I.state v;
        same = same_more I.same z.5;
        rest = sym (walk_go (conform_edge t (points_at s 0 n)) I.state _ _ f e) ∙ turn h;
      }

  pub conforming_count : (a' b' : List Float) (k' o' : List ℕ) (r : Outcome ℕ) (m : ℕ) → i < c → r ≡ Ok m → Spliced found (get_or l (first + i) 0) n (at + q) a b k o a' b' k' o' r → q + m ≤ 1000000
  conforming_count a' b' k' o' r m h g w = (let z = spliced_of found (get_or l (first + i) 0) n (at + q) a b k o a' b' k' o' r m w g in omega (arith, conforming_low h, z.3, points))

  pub conforming_stop : (a' b' : List Float) (k' o' : List ℕ) (r r' : Outcome ℕ) (y : Refusal) → i < c → r ≡ Err y → r' ≡ Err y →
      Spliced found (get_or l (first + i) 0) n (at + q) a b k o a' b' k' o' r → Conformed (conform t (points_at s 0 n) (counts_at l first c)) at a₀ b₀ k₀ o₀ a' b' k' o' r'
  unfolding conform_edge Conformed
  conforming_stop a' b' k' o' r r' y h g g' w =
      let z = spliced_none found (get_or l (first + i) 0) n (at + q) a b k o a' b' k' o' r y w g in
      let e : conform_edge t (points_at s 0 n) I.state (record { from = get_or l (first + i) 0; to = get_or l (first + (i + 1) % c) 0 }) ≡ Err y = stop found _ y z.0 in
      let u : conform t (points_at s 0 n) (counts_at l first c) ≡ Err y = sym (turn h) ∙ walk_stop (conform_edge t (points_at s 0 n)) I.state _ _ y e in
      subst (λ x. Conformed x at a₀ b₀ k₀ o₀ a' b' k' o' r') (sym u) (g', z.1 ∙ conforming_out, same_more I.same z.2)

  pub conforming_end : (r : Outcome ℕ) → c ≤ i → r ≡ Ok q → Conformed (conform t (points_at s 0 n) (counts_at l first c)) at a₀ b₀ k₀ o₀ a b k o r
  unfolding Conformed
  conforming_end r h g =
      let u : conform t (points_at s 0 n) (counts_at l first c) ≡ Ok I.state = sym I.rest ∙ ap (walk (conform_edge t (points_at s 0 n)) I.state) (edges_done (drop first l) c i h) ∙ walk_end (conform_edge t (points_at s 0 n)) I.state in
      subst (λ x. Conformed x at a₀ b₀ k₀ o₀ a b k o r) (sym u) (g ∙ ap Ok I.count, omega (arith, I.count, I.few, I.upto, among.small), I.out, I.same)

pub conformed_same : (x : Outcome (List ℕ)) (at : ℕ) (a₀ b₀ : List Float) (k₀ o₀ : List ℕ) (a b : List Float) (k o : List ℕ) (r : Outcome ℕ) → Conformed x at a₀ b₀ k₀ o₀ a b k o r →
    Same a₀ b₀ k₀ a b k × (length o ≡ length o₀)
unfolding Conformed
conformed_same (Ok f) at a₀ b₀ k₀ o₀ a b k o r h = (h.3, ap length h.2 ∙ length-sets o₀ at f)
conformed_same (Err y) at a₀ b₀ k₀ o₀ a b k o r h = (h.2, h.1)
