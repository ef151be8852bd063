-- Laws of the mesh, in the words of the code.
use Rattle.std.proofs.Math.Path.{◌≡◌, sym, ap}
use Rattle.std.specs.Prelude.{refl, Bool, true, false, ◌&&◌, ◌⊎◌, List, [], ◌∷◌, ◌++◌, take, get_or, set, Float, Ok, Err}
use Rattle.std.proofs.Common.{◌∙◌, inl, inr, length-append, get_or-take, length-take-le}
use Rattle.std.proofs.Math.Logic.{⊎_elim}
use Prim.Native.Nat.{ℕ, zero, suc, ◌+◌, ◌-◌, ◌*◌, ◌/◌, ◌≤◌, ◌<◌}
use native.Mathlib.Omega.{arith}
use Rattle.std.proofs.Math.Decide.{dec_lt}
use Rattle.std.proofs.Math.ListN.{length, get_or-eq_default}
use Rattle.refusal.specs.declared.Refusal.{Refusal}
use Rattle.refusal.specs.Outcome.{Outcome, refuse, refusal_of, then, unless, each}
use Rattle.lists.specs.Laws.{pad_set}
use Rattle.lists.specs.Walks.{all}
use Rattle.space.specs.declared.Precision.{Precision}
use Rattle.space.specs.declared.Point3.{Point3}
use Rattle.space.specs.Vector.{finite_point}
use Rattle.turns.specs.declared.Projected.{Projected}
use Rattle.turns.specs.declared.Turn.{Turn}
use Rattle.turns.specs.declared.Turn.TheVariants as T
use Rattle.outline.specs.declared.Outline.{Outline}
use Rattle.polygon.specs.Memory.{point_at, points_at}
use Rattle.polygon.specs.MemoryLaws.{points_next, points_done, length_points_at}
use Rattle.outline.specs.Project.{facet_of, points_of, outline, outlined}
use Rattle.outline.specs.Laws.{points_outline}
use Rattle.ears.specs.declared.Active.{Active}
use Rattle.ears.specs.declared.Triangle.{Triangle}
use Rattle.ears.specs.declared.Block.{Block}
use Rattle.ears.specs.declared.Block.TheVariants as B
use Rattle.ears.specs.declared.Found.{Found}
use Rattle.ears.specs.declared.Found.TheVariants as F
use Rattle.ears.specs.Places.{active, places_of, up_from, without, window_at}
use Rattle.ears.specs.Ears.{Ready, turn_at, blocked_by, ear_by, found_by, found_at, scan_from, scan_of}
use Rattle.ears.specs.Laws.{places_active, length_up, get_d_up, length_without, without_before, without_after, Within}
use Rattle.mesh.specs.declared.Triples.{Triples}
use Rattle.mesh.specs.Mesh.{Clipping, clip_by, clip_one, clip_from, clip_all, first_three, end_by, end_of, begun, clipped_of, blank, padded, triples, meshed, pushed, last_by, last_in}

-- ---- what a scan's answer says

ear_by_lem : (b : Outcome Block) (i : ℕ) (w : Triangle) (rest : Outcome Found) (j : ℕ) (v : Triangle) → ear_by b i w rest ≡ Ok (F.Ear j v) → ((i ≡ j) × (w ≡ v)) ⊎ (rest ≡ Ok (F.Ear j v))
unfolding ear_by
ear_by_lem (Ok B.Clear) i w rest j v e = inl (cc, cc)
ear_by_lem (Ok B.Blocked) i w rest j v e = inr e
ear_by_lem (Err r) i w rest j v e = let z : ◌≡◌ {A = ℕ} 0 1 = cc in absurd (omega arith)

found_ear : (t : Outcome Turn) (b : Outcome Block) (i : ℕ) (w : Triangle) (rest : Outcome Found) (j : ℕ) (v : Triangle) → found_by t b i w rest ≡ Ok (F.Ear j v)
    → ((t ≡ Ok T.Positive) × (i ≡ j) × (w ≡ v)) ⊎ (rest ≡ Ok (F.Ear j v))
unfolding found_by
found_ear (Ok T.Positive) b i w rest j v e = ⊎_elim (λ q. inl (refl, q.0, q.1)) (λ q. inr q) (ear_by_lem b i w rest j v e)
found_ear (Ok T.Negative) b i w rest j v e = inr e
found_ear (Ok T.Zero) b i w rest j v e = let z : ◌≡◌ {A = ℕ} 0 1 = cc in absurd (omega arith)
found_ear (Err r) b i w rest j v e = let z : ◌≡◌ {A = ℕ} 0 1 = cc in absurd (omega arith)

straight_by : (b : Outcome Block) (i : ℕ) (w : Triangle) (rest : Outcome Found) (j : ℕ) → ear_by b i w rest ≡ Ok (F.Straight j) → rest ≡ Ok (F.Straight j)
unfolding ear_by
straight_by (Ok B.Clear) i w rest j e = let z : ◌≡◌ {A = ℕ} 0 1 = cc in absurd (omega arith)
straight_by (Ok B.Blocked) i w rest j e = e
straight_by (Err r) i w rest j e = let z : ◌≡◌ {A = ℕ} 0 1 = cc in absurd (omega arith)

found_straight : (t : Outcome Turn) (b : Outcome Block) (i : ℕ) (w : Triangle) (rest : Outcome Found) (j : ℕ) → found_by t b i w rest ≡ Ok (F.Straight j) → (i ≡ j) ⊎ (rest ≡ Ok (F.Straight j))
unfolding found_by
found_straight (Ok T.Positive) b i w rest j e = inr (straight_by b i w rest j e)
found_straight (Ok T.Negative) b i w rest j e = inr e
found_straight (Ok T.Zero) b i w rest j e = inl (cc)
found_straight (Err r) b i w rest j e = let z : ◌≡◌ {A = ℕ} 0 1 = cc in absurd (omega arith)

-- an ear is the window at its place, which is one of the list, and turns Positive
pub record Eared (p : Precision) (ps : List Projected) (l : List ℕ) (j : ℕ) (v : Triangle) : Type 0 where
  pub place : j < length l
  pub window : v ≡ window_at l j
  pub turn : turn_at p ps v ≡ Ok T.Positive

module _ (p : Precision) (ps : List Projected) (l : List ℕ) where
  eared_from : (k i j : ℕ) (v : Triangle) → i + k ≤ length l → scan_from p ps l i k ≡ Ok (F.Ear j v) → Eared p ps l j v
  unfolding scan_from found_at
  eared_from zero i j v h e = let z : ◌≡◌ {A = ℕ} 0 1 = cc in absurd (omega arith)
  eared_from (suc k) i j v h e =
      ⊎_elim
      (λ q. record { place = omega (arith, q.1); window = sym q.2 ∙ ap (window_at l) q.1; turn = ap (turn_at p ps) (sym q.2) ∙ q.0 })
      (λ q. eared_from k (suc i) j v (omega arith) q)
      (found_ear (turn_at p ps (window_at l i)) (blocked_by p ps (window_at l i) l) i (window_at l i) (scan_from p ps l (suc i) k) j v e)

  pub eared : (j : ℕ) (v : Triangle) → scan_of p ps l ≡ Ok (F.Ear j v) → Eared p ps l j v
  unfolding scan_of
  eared j v e = eared_from (length l) 0 j v (omega arith) e

  straight_from : (k i j : ℕ) → i + k ≤ length l → scan_from p ps l i k ≡ Ok (F.Straight j) → j < length l
  unfolding scan_from found_at
  straight_from zero i j h e = let z : ◌≡◌ {A = ℕ} 0 1 = cc in absurd (omega arith)
  straight_from (suc k) i j h e =
      ⊎_elim
      (λ q. omega (arith, q))
      (λ q. straight_from k (suc i) j (omega arith) q)
      (found_straight (turn_at p ps (window_at l i)) (blocked_by p ps (window_at l i) l) i (window_at l i) (scan_from p ps l (suc i) k) j e)

  pub straight_place : (j : ℕ) → scan_of p ps l ≡ Ok (F.Straight j) → j < length l
  unfolding scan_of
  straight_place j e = straight_from (length l) 0 j (omega arith) e

-- ---- places below n

pub low_up : (n j : ℕ) → 0 < n → get_or (up_from 0 n) j 0 < n
low_up n j h = elim (dec_lt j n) [
  | yes k ↦ omega (arith, get_d_up 0 n j k)
  | no k ↦ let e : get_or (up_from 0 n) j 0 ≡ 0 = get_or-eq_default (up_from 0 n) 0 (omega (arith, length_up 0 n)) in omega arith
]

pub low_without : (n i : ℕ) (l : List ℕ) → ((j : ℕ) → get_or l j 0 < n) → (j : ℕ) → get_or (without i l) j 0 < n
low_without n i l low j = elim (dec_lt j i) [
  | yes k ↦ omega (arith, without_before i j 0 l k, low j)
  | no k ↦ let g : i ≤ j = omega arith in omega (arith, without_after i j 0 l g, low (suc j))
]

-- ---- one turn of the loop

module _ (p : Precision) (ps : List Projected) (l : List ℕ) (e : List Triangle) where
  abbrev pub state : Clipping
  state = record { left = l; ears = e }

  turn_of : (x : Outcome Found) → 3 < length l → x ≡ scan_of p ps l → clip_all p ps state ≡ then (clip_by x state) (clip_from (length l - 4) p ps)
  unfolding clip_all clip_from clip_one
  turn_of x h f =
      let k : length l - 3 ≡ suc (length l - 4) = omega arith in
      ap (λ m. clip_from m p ps state) k ∙ ap (λ y. then (clip_by y state) (clip_from (length l - 4) p ps)) (sym f)

  pub clip_ear : (x : Outcome Found) (i : ℕ) (t : Triangle) → 3 < length l → x ≡ scan_of p ps l → x ≡ Ok (F.Ear i t)
      → clip_all p ps state ≡ clip_all p ps (record { left = without i l; ears = e ++ (t ∷ []) })
  unfolding clip_by clip_all
  clip_ear x i t h f g =
      let place = (eared p ps l i t (sym f ∙ g)).place in
      let k : length l - 4 ≡ length (without i l) - 3 = omega (arith, length_without i l place) in
      turn_of x h f ∙ ap (λ y. then (clip_by y state) (clip_from (length l - 4) p ps)) g
      ∙ ap (λ m. clip_from m p ps (record { left = without i l; ears = e ++ (t ∷ []) })) k

  pub clip_straight : (x : Outcome Found) (i : ℕ) → 3 < length l → x ≡ scan_of p ps l → x ≡ Ok (F.Straight i)
      → clip_all p ps state ≡ clip_all p ps (record { left = without i l; ears = e })
  unfolding clip_by clip_all
  clip_straight x i h f g =
      let place = straight_place p ps l i (sym f ∙ g) in
      let k : length l - 4 ≡ length (without i l) - 3 = omega (arith, length_without i l place) in
      turn_of x h f ∙ ap (λ y. then (clip_by y state) (clip_from (length l - 4) p ps)) g
      ∙ ap (λ m. clip_from m p ps (record { left = without i l; ears = e })) k

  pub clip_none : (x : Outcome Found) → 3 < length l → x ≡ scan_of p ps l → x ≡ Ok F.Nothing → clip_all p ps state ≡ refuse 31
  unfolding clip_by
  clip_none x h f g = turn_of x h f ∙ ap (λ y. then (clip_by y state) (clip_from (length l - 4) p ps)) g

  pub clip_refused : (x : Outcome Found) (r : Refusal) → 3 < length l → x ≡ scan_of p ps l → x ≡ Err r → clip_all p ps state ≡ Err r
  unfolding clip_by
  clip_refused x r h f g = turn_of x h f ∙ ap (λ y. then (clip_by y state) (clip_from (length l - 4) p ps)) g

  pub clip_end : length l ≤ 3 → clip_all p ps state ≡ Ok state
  unfolding clip_all clip_from
  clip_end h = let k : length l - 3 ≡ 0 = omega arith in ap (λ m. clip_from m p ps state) k

-- ---- the answer

pub pushed_is : (l : List Triangle) (w : Triangle) → length l < 126 → pushed (triples l) w ≡ triples (l ++ (w ∷ []))
pushed_is l w h =
    let e : set (padded l) (length l) w ≡ padded (l ++ (w ∷ [])) = pad_set l 126 blank w h in
    let k : length l + 1 ≡ length (l ++ (w ∷ [])) = sym (length-append l (w ∷ [])) in
    cc

last_by_lem : (t : Outcome Turn) (l : List Triangle) (w : Triangle) → length l < 126 → last_by t (triples l) w ≡ meshed (end_by t l w)
unfolding last_by end_by meshed
last_by_lem (Ok T.Positive) l w h = ap {B = Outcome Triples} Ok (pushed_is l w h)
last_by_lem (Ok T.Negative) l w h = refl
last_by_lem (Ok T.Zero) l w h = refl
last_by_lem (Err r) l w h = refl

pub last_in_lem : (p : Precision) (ps : List Projected) (l : List ℕ) (e : List Triangle) → length e < 126 → last_in p ps l (triples e) ≡ meshed (end_of p ps (state p ps l e))
unfolding last_in end_of
last_in_lem p ps l e h = last_by_lem (turn_at p ps (first_three l)) e (first_three l) h

-- the three corners that are left, by the arrays
pub three_are : (l : List ℕ) (n : ℕ) → 3 ≤ n → first_three (take n l) ≡ first_three l
three_are l n h =
    let a₀ = get_or-take n l 0 0 (omega arith) in
    let a₁ = get_or-take n l 1 0 (omega arith) in
    let a₂ = get_or-take n l 2 0 (omega arith) in
    cc

-- ---- the whole of the loop

-- what the corners left and the triangles so far give
abbrev pub yields : Precision → List Projected → List ℕ → List Triangle → Outcome (List Triangle)
yields p ps l e = then (clip_all p ps (record { left = l; ears = e })) (end_of p ps)

pub clip_start : (p : Precision) (l : List Projected) (n : ℕ) → n ≤ length l → yields p (take n l) (up_from 0 n) [] ≡ clipped_of p (take n l)
unfolding clipped_of
clip_start p l n h = ap (λ m. then (clip_all p (take n l) (begun m)) (end_of p (take n l))) (sym (length-take-le n l h))

module _ (p : Precision) (ps : List Projected) (l : List ℕ) (e : List Triangle) (x : Outcome Found) (h : 3 < length l) (f : x ≡ scan_of p ps l) where
  pub yields_ear : (i : ℕ) (t : Triangle) → x ≡ Ok (F.Ear i t) → yields p ps l e ≡ yields p ps (without i l) (e ++ (t ∷ []))
  yields_ear i t g = ap (λ o. then o (end_of p ps)) (clip_ear p ps l e x i t h f g)

  pub yields_straight : (i : ℕ) → x ≡ Ok (F.Straight i) → yields p ps l e ≡ yields p ps (without i l) e
  yields_straight i g = ap (λ o. then o (end_of p ps)) (clip_straight p ps l e x i h f g)

  pub yields_none : x ≡ Ok F.Nothing → yields p ps l e ≡ refuse 31
  yields_none g = ap (λ o. then o (end_of p ps)) (clip_none p ps l e x h f g)

  pub yields_refused : (r : Refusal) → x ≡ Err r → yields p ps l e ≡ Err r
  yields_refused r g = ap (λ o. then o (end_of p ps)) (clip_refused p ps l e x r h f g)

pub yields_end : (p : Precision) (ps : List Projected) (l : List ℕ) (e : List Triangle) (a : Active) (t : Triples) (m : Outcome Triples) → length l ≤ 3 → length e < 126
    → a ≡ active l → t ≡ triples e → m ≡ last_in p ps (places_of a) t → m ≡ meshed (yields p ps l e)
yields_end p ps l e a t m h k f g q =
    q ∙ ap (λ b. last_in p ps (places_of b) t) f ∙ ap (λ b. last_in p ps b t) (places_active l) ∙ ap (last_in p ps l) g ∙ last_in_lem p ps l e k
    ∙ ap meshed (sym (ap (λ o. then o (end_of p ps)) (clip_end p ps l e h)))

pub ready : (o : Outline) (a : Active) (l : List ℕ) → o.n ≤ 128 → a ≡ active l → length l ≤ o.n → ((j : ℕ) → get_or l j 0 < o.n) → Ready o a
ready o a l few e h low = record {
  few = few;
  left = let k : a.n ≡ length l = ap (λ b. b.n) e in omega arith;
  low = λ j. let k : get_or (places_of a) j 0 ≡ get_or l j 0 = ap (λ b. get_or (places_of b) j 0) e ∙ ap (λ b. get_or b j 0) (places_active l) in omega (arith, low j);
}

-- the places of a scan's list, by the list that an array holds
pub scan_places : (p : Precision) (ps : List Projected) (a : Active) (l : List ℕ) (x : Outcome Found) → a ≡ active l → x ≡ scan_of p ps (places_of a) → x ≡ scan_of p ps l
scan_places p ps a l x e f = f ∙ ap (λ b. scan_of p ps (places_of b)) e ∙ ap (scan_of p ps) (places_active l)

pub removed : (a b : Active) (l : List ℕ) (i : ℕ) → a ≡ active l → b ≡ active (without i (places_of a)) → b ≡ active (without i l)
removed a b l i e f = f ∙ ap (λ x. active (without i (places_of x))) e ∙ ap (λ x. active (without i x)) (places_active l)

-- ---- the last triangle

-- its places are of the outline
pub three_low : (b : List ℕ) (k n : ℕ) → 3 ≤ k → ((j : ℕ) → get_or (take k b) j 0 < n) → Within n (first_three b)
three_low b k n h low =
    let a₀ = get_or-take k b 0 0 (omega arith) in
    let a₁ = get_or-take k b 1 0 (omega arith) in
    let a₂ = get_or-take k b 2 0 (omega arith) in
    record { a_low = omega (arith, low 0); b_low = omega (arith, low 1); c_low = omega (arith, low 2) }

pub last_is : (p : Precision) (ps : List Projected) (b : List ℕ) (k : ℕ) (out : Triples) (s : Outcome Turn) (m : Outcome Triples) → 3 ≤ k
    → s ≡ turn_at p ps (first_three b) → m ≡ last_by s out (first_three b) → m ≡ last_in p ps (take k b) out
unfolding last_in
last_is p ps b k out s m h e f =
    f ∙ ap (λ x. last_by x out (first_three b)) e ∙ ap (λ w. last_by (turn_at p ps w) out w) (sym (three_are b k h))

-- ---- verdicts before the rest

pub unless_yes : (b : Bool) (k : ℕ) (o : Outcome (List Triangle)) (r : Refusal) → b ≡ true → r ≡ refusal_of k → ◌≡◌ {A = Outcome Triples} (Err r) (meshed (unless b k o))
unfolding meshed
unless_yes b k o r e g = ap {B = Outcome Triples} Err g ∙ ap (λ x. meshed (unless x k o)) (sym e)

pub unless_no : (b : Bool) (k : ℕ) (o : Outcome (List Triangle)) (m : Outcome Triples) → b ≡ false → m ≡ meshed o → m ≡ meshed (unless b k o)
unless_no b k o m e f = f ∙ ap (λ x. meshed (unless x k o)) (sym e)

-- ---- a refusal is handed on

pub meshed_stop : (o : Outcome (List Triangle)) (r : Refusal) → o ≡ Err r → ◌≡◌ {A = Outcome Triples} (Err r) (meshed o)
unfolding meshed
meshed_stop o r e = ap meshed (sym e)

-- ---- an outline that was made, or not

pub drawn : (o : Outcome (List Projected)) (m : Outcome Outline) (q : Outline) → m ≡ outlined o → m ≡ Ok q → o ≡ Ok (points_of q)
unfolding outlined
drawn (Ok l) m q e f = let g : outline l ≡ q = cc in ap {B = Outcome (List Projected)} Ok (sym (points_outline l) ∙ ap points_of g)
drawn (Err r) m q e f = let z : ◌≡◌ {A = ℕ} 0 1 = cc in absurd (omega arith)

pub drawn_count : (o : Outcome (List Projected)) (m : Outcome Outline) (q : Outline) (n : ℕ) → m ≡ outlined o → m ≡ Ok q → ((l : List Projected) → o ≡ Ok l → length l ≡ n) → q.n ≡ n
unfolding outlined
drawn_count (Ok l) m q n e f g = let h : outline l ≡ q = cc in sym (ap (λ x. x.n) h) ∙ g l refl
drawn_count (Err r) m q n e f g = let z : ◌≡◌ {A = ℕ} 0 1 = cc in absurd (omega arith)

pub undrawn : (o : Outcome (List Projected)) (m : Outcome Outline) (r : Refusal) → m ≡ outlined o → m ≡ Err r → o ≡ Err r
unfolding outlined
undrawn (Ok l) m r e f = let z : ◌≡◌ {A = ℕ} 0 1 = cc in absurd (omega arith)
undrawn (Err x) m r e f = let g : x ≡ r = cc in ap {B = Outcome (List Projected)} Err g

count_next : {A C : Type 0} (f : A → Outcome C) (acc : List C) (l : List A) (r : List C) (o : Outcome C)
    → ((y : C) → each f (acc ++ (y ∷ [])) l ≡ Ok r → length r ≡ length (acc ++ (y ∷ [])) + length l)
    → then o (λ y. each f (acc ++ (y ∷ [])) l) ≡ Ok r → length r ≡ length acc + suc (length l)
count_next f acc l r (Ok y) k e = k y e ∙ simp length-append (omega arith)
count_next f acc l r (Err z) k e = let w : ◌≡◌ {A = ℕ} 0 1 = cc in absurd (omega arith)

-- as many as there were
pub each_count : {A C : Type 0} (f : A → Outcome C) (acc : List C) (l : List A) (r : List C) → each f acc l ≡ Ok r → length r ≡ length acc + length l
unfolding each
each_count f acc [] r e = let k : acc ≡ r = cc in sym (ap length k) ∙ omega arith
each_count f acc (x ∷ l) r e = count_next f acc l r (f x) (λ y q. each_count f (acc ++ (y ∷ [])) l r q) e

-- the corners of a slice
pub facet_size : (s : List Float) → length (facet_of s) ≡ length s / 3
facet_size s = length_points_at s 0 (length s / 3)

-- ---- one turn of the test of the numbers

pub finite_go : (s : List Float) (n i : ℕ) (fair : Bool) (q : Point3) (b : Bool) → i < n → q ≡ point_at s (3 * i) → b ≡ finite_point q
    → all finite_point fair (points_at s (3 * i) (n - i)) ≡ all finite_point (fair && b) (points_at s (3 * (i + 1)) (n - (i + 1)))
unfolding all
finite_go s n i fair q b h e f =
    ap (all finite_point fair) (points_next s n i h)
    ∙ ap (λ x. all finite_point (fair && finite_point x) (points_at s (3 * (i + 1)) (n - (i + 1)))) (sym e)
    ∙ ap (λ x. all finite_point (fair && x) (points_at s (3 * (i + 1)) (n - (i + 1)))) (sym f)

pub finite_start : (s : List Float) (n : ℕ) → all finite_point true (points_at s (3 * 0) (n - 0)) ≡ all finite_point true (points_at s 0 n)
finite_start s n = let e : n - 0 ≡ n = omega arith in ap (λ k. all finite_point true (points_at s 0 k)) e

pub finite_end : (s : List Float) (n i : ℕ) (fair : Bool) → n ≤ i → all finite_point fair (points_at s (3 * i) (n - i)) ≡ fair
unfolding all
finite_end s n i fair h = ap (all finite_point fair) (points_done s n i (3 * i) h)
