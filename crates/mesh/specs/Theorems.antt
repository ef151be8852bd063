-- What holds of every answer of the mesh: its triangles are of three different corners and turn Positive, and how many there are.
use Rattle.std.specs.Prelude.{◌≡◌, refl, not, List, [], ◌∷◌, ◌++◌, ℕ, zero, suc, ◌+◌, ◌-◌, ◌%◌, ◌≤◌, ◌<◌, length, get_or, ltb, Ok, Err}
use Rattle.std.proofs.Common.{sym, ap, ◌∙◌, subst, arith, mod-lt, mod-eq_of_lt, length-append, ltb-false}
use Rattle.std.proofs.Math.Path.{subst⁻¹}
use Rattle.std.proofs.Math.Decide.{dec_lt}
use Rattle.std.proofs.Math.Nat.{mod_self, add-mod_right}
use Rattle.refusal.specs.Outcome.{Outcome, then, each}
use Rattle.refusal.specs.Laws.{unless_ok}
use Rattle.space.specs.declared.Precision.{Precision}
use Rattle.space.specs.Shapes.{Face}
use Rattle.turns.specs.declared.Projected.{Projected}
use Rattle.turns.specs.declared.Turn.{Turn}
use Rattle.turns.specs.declared.Turn.TheVariants as T
use Rattle.outline.specs.Project.{basis_of, projected_of}
use Rattle.simple.specs.Simple.{simple_of}
use Rattle.ears.specs.declared.Triangle.{Triangle}
use Rattle.ears.specs.declared.Found.{Found}
use Rattle.ears.specs.declared.Found.TheVariants as F
use Rattle.ears.specs.Places.{up_from, without, window_at}
use Rattle.ears.specs.Ears.{turn_at, scan_of}
use Rattle.ears.specs.Laws.{length_up, get_d_up, length_without, without_before, without_after}
use Rattle.mesh.specs.Mesh.{Clipping, clip_by, clip_one, clip_from, clip_all, first_three, end_by, end_of, begun, clipped_of, given, triangles_of, fair_facet, enough_on, mesh_on, mesh_of}
use Rattle.mesh.specs.Laws.{eared, straight_place, low_up, low_without, each_count}

-- ---- what is said

-- P of each element
abbrev pub Each : {A : Type 0} → (A → Type 0) → List A → Type 0
Each P [] = Unit {0}
Each P (x ∷ l) = P x × Each P l

-- three different places of the outline's corners, which turn Positive
pub record Fair (p : Precision) (ps : List Projected) (w : Triangle) : Type 0 where
  pub a_low : w.a < length ps
  pub b_low : w.b < length ps
  pub c_low : w.c < length ps
  pub ab : w.a ≡ w.b → ⊥
  pub bc : w.b ≡ w.c → ⊥
  pub ca : w.c ≡ w.a → ⊥
  pub positive : turn_at p ps w ≡ Ok T.Positive

-- a straight corner that is passed over
unfoldable pub straight_in : Outcome Found → ℕ
straight_in (Ok (F.Ear i t)) = 0
straight_in (Ok (F.Straight i)) = 1
straight_in (Ok F.Nothing) = 0
straight_in (Err r) = 0

unfoldable pub afterwards : Outcome Clipping → (Clipping → ℕ) → ℕ
afterwards (Ok s) f = f s
afterwards (Err r) f = 0

-- the straight corners that are passed over in k turns, and in all
unfoldable pub straights_from : ℕ → Precision → List Projected → Clipping → ℕ
straights_from zero p ps s = 0
straights_from (suc k) p ps s = straight_in (scan_of p ps s.left) + afterwards (clip_one p ps s) (straights_from k p ps)

unfoldable pub straight_corners : Precision → List Projected → ℕ
straight_corners p ps = straights_from (length ps - 3) p ps (begun (length ps))

-- ---- lists

each_snoc : {A : Type 0} (P : A → Type 0) (l : List A) (x : A) → Each P l → P x → Each P (l ++ (x ∷ []))
each_snoc P [] x e q = (q, tt)
each_snoc P (y ∷ l) x e q = (e.0, each_snoc P l x e.1 q)

-- the places rise
abbrev Rising : List ℕ → Type 0
Rising l = (i j : ℕ) → i < j → j < length l → get_or l i 0 < get_or l j 0

rising_up : (n : ℕ) → Rising (up_from 0 n)
rising_up n i j h k =
    let m : j < n = omega (arith, length_up 0 n) in
    let o : i < n = omega arith in
    omega (arith, get_d_up 0 n i o, get_d_up 0 n j m)

rising_without : (r : ℕ) (l : List ℕ) → r < length l → Rising l → Rising (without r l)
rising_without r l g R i j h k = elim (dec_lt j r) [
  | yes a ↦
      let b : i < r = omega arith in
      let m : j < length l = omega arith in
      omega (arith, without_before r i 0 l b, without_before r j 0 l a, R i j h m)
  | no a ↦
      let c : r ≤ j = omega arith in
      let m : suc j < length l = omega (arith, length_without r l g) in
      elim (dec_lt i r) [
        | yes b ↦
            let d : i < suc j = omega arith in
            omega (arith, without_before r i 0 l b, without_after r j 0 l c, R i (suc j) d m)
        | no b ↦
            let e : r ≤ i = omega arith in
            let d : suc i < suc j = omega arith in
            omega (arith, without_after r i 0 l e, without_after r j 0 l c, R (suc i) (suc j) d m)
      ]
]

different : (l : List ℕ) → Rising l → (x y : ℕ) → x < length l → y < length l → (x ≡ y → ⊥) → get_or l x 0 ≡ get_or l y 0 → ⊥
different l R x y h k d e = elim (dec_lt x y) [
  | yes a ↦ let z = R x y a k in omega arith
  | no a ↦ elim (dec_lt y x) [ yes b ↦ (let z = R y x b h in omega arith) | no b ↦ d (omega arith) ]
]

-- ---- three neighbours of a ring

module _ (m i : ℕ) (h : i < m) (g : 3 ≤ m) where
  before_first : i ≡ 0 → (i + m - 1) % m ≡ m - 1
  before_first e = let k : i + m - 1 ≡ m - 1 = omega arith in ap (λ x. x % m) k ∙ mod-eq_of_lt (omega arith)

  before_other : 0 < i → (i + m - 1) % m ≡ i - 1
  before_other e = let k : i + m - 1 ≡ (i - 1) + m = omega arith in ap (λ x. x % m) k ∙ add-mod_right (i - 1) m ∙ mod-eq_of_lt (omega arith)

  after_other : i + 1 < m → (i + 1) % m ≡ i + 1
  after_other e = mod-eq_of_lt e

  after_last : m ≤ i + 1 → (i + 1) % m ≡ 0
  after_last e = let k : i + 1 ≡ m = omega arith in ap (λ x. x % m) k ∙ mod_self m

  pub record Apart : Type 0 where
    pub xy : (i + m - 1) % m ≡ i → ⊥
    pub yz : i ≡ (i + 1) % m → ⊥
    pub zx : (i + 1) % m ≡ (i + m - 1) % m → ⊥

  neighbours : Apart
  neighbours = elim (dec_lt 0 i) [
    | yes a ↦ elim (dec_lt (i + 1) m) [
      | yes b ↦
          let u = before_other a in
          let v = after_other b in
          record { xy = λ e. omega arith; yz = λ e. omega arith; zx = λ e. omega arith }
      | no b ↦
          let u = before_other a in
          let v = after_last (omega arith) in
          record { xy = λ e. omega arith; yz = λ e. omega arith; zx = λ e. omega arith }
    ]
    | no a ↦
        let u = before_first (omega arith) in
        let v = after_other (omega arith) in
        record { xy = λ e. omega arith; yz = λ e. omega arith; zx = λ e. omega arith }
  ]

-- ---- the corners left are different places of the outline, and the triangles so far are fair

record Sound (p : Precision) (ps : List Projected) (s : Clipping) : Type 0 where
  low : (j : ℕ) → get_or s.left j 0 < length ps
  rising : Rising s.left
  fair : Each (Fair p ps) s.ears

fair_window : (p : Precision) (ps : List Projected) (l : List ℕ) (i : ℕ) → i < length l → 3 ≤ length l → ((j : ℕ) → get_or l j 0 < length ps) → Rising l
    → turn_at p ps (window_at l i) ≡ Ok T.Positive → Fair p ps (window_at l i)
unfolding window_at
fair_window p ps l i h g low R t =
    let A = neighbours (length l) i h g in
    let pos : 0 < length l = omega arith in
    let x = mod-lt (i + length l - 1) pos in
    let z = mod-lt (i + 1) pos in
    record {
      a_low = low _;
      b_low = low _;
      c_low = low _;
      ab = different l R _ _ x h A.xy;
      bc = different l R _ _ h z A.yz;
      ca = different l R _ _ z x A.zx;
      positive = t;
    }

fair_three : (p : Precision) (ps : List Projected) (l : List ℕ) → 3 ≤ length l → ((j : ℕ) → get_or l j 0 < length ps) → Rising l → turn_at p ps (first_three l) ≡ Ok T.Positive → Fair p ps (first_three l)
fair_three p ps l g low R t =
    let a = R 0 1 (omega arith) (omega arith) in
    let b = R 1 2 (omega arith) (omega arith) in
    record { a_low = low 0; b_low = low 1; c_low = low 2; ab = λ e. omega arith; bc = λ e. omega arith; ca = λ e. omega arith; positive = t }

-- ---- one turn

record Stepped (p : Precision) (ps : List Projected) (s : Clipping) (x : Outcome Found) (r : Clipping) : Type 0 where
  sound : Sound p ps r
  shorter : length r.left + 1 ≡ length s.left
  more : length r.ears + straight_in x ≡ length s.ears + 1

stepped : (p : Precision) (ps : List Projected) (s : Clipping) (x : Outcome Found) (r : Clipping) → 3 ≤ length s.left → Sound p ps s → scan_of p ps s.left ≡ x → clip_by x s ≡ Ok r → Stepped p ps s x r
unfolding clip_by straight_in
stepped p ps s (Ok (F.Ear i t)) r g S f e =
    let E = eared p ps s.left i t f in
    let k : record { left = without i s.left; ears = s.ears ++ (t ∷ []) } ≡ r = cc in
    let w : Fair p ps t = subst⁻¹ (Fair p ps) E.window (fair_window p ps s.left i E.place g S.low S.rising (sym (ap (turn_at p ps) E.window) ∙ E.turn)) in
    subst (Stepped p ps s (Ok (F.Ear i t))) k
    (record {
      sound = record { low = low_without (length ps) i s.left S.low; rising = rising_without i s.left E.place S.rising; fair = each_snoc (Fair p ps) s.ears t S.fair w };
      shorter = omega (arith, length_without i s.left E.place);
      more = simp length-append (omega arith);
    })
stepped p ps s (Ok (F.Straight i)) r g S f e =
    let h = straight_place p ps s.left i f in
    let k : record { left = without i s.left; ears = s.ears } ≡ r = cc in
    subst (Stepped p ps s (Ok (F.Straight i))) k
    (record {
      sound = record { low = low_without (length ps) i s.left S.low; rising = rising_without i s.left h S.rising; fair = S.fair };
      shorter = omega (arith, length_without i s.left h);
      more = refl;
    })
stepped p ps s (Ok F.Nothing) r g S f e = let z : ◌≡◌ {A = ℕ} 0 1 = cc in absurd (omega arith)
stepped p ps s (Err q) r g S f e = let z : ◌≡◌ {A = ℕ} 0 1 = cc in absurd (omega arith)

-- ---- all turns

record Ended (p : Precision) (ps : List Projected) (k : ℕ) (s : Clipping) (n : ℕ) (r : Clipping) : Type 0 where
  sound : Sound p ps r
  shorter : length r.left + k ≡ length s.left
  more : length r.ears + n ≡ length s.ears + k

ended_next : (p : Precision) (ps : List Projected) (k : ℕ) (s r : Clipping) (o : Outcome Clipping) → o ≡ clip_one p ps s → suc k + 3 ≤ length s.left → Sound p ps s
    → ((q : Clipping) → k + 3 ≤ length q.left → Sound p ps q → clip_from k p ps q ≡ Ok r → Ended p ps k q (straights_from k p ps q) r)
    → then o (clip_from k p ps) ≡ Ok r → Ended p ps (suc k) s (straight_in (scan_of p ps s.left) + afterwards o (straights_from k p ps)) r
unfolding clip_one afterwards
ended_next p ps k s r (Ok q) f g S next e =
    let T = stepped p ps s (scan_of p ps s.left) q (omega arith) S refl (sym f) in
    let N = next q (omega (arith, T.shorter)) T.sound e in
    record { sound = N.sound; shorter = omega (arith, T.shorter, N.shorter); more = omega (arith, T.more, N.more) }
ended_next p ps k s r (Err x) f g S next e = let z : ◌≡◌ {A = ℕ} 0 1 = cc in absurd (omega arith)

ended : (p : Precision) (ps : List Projected) (k : ℕ) (s r : Clipping) → k + 3 ≤ length s.left → Sound p ps s → clip_from k p ps s ≡ Ok r → Ended p ps k s (straights_from k p ps s) r
unfolding clip_from straights_from
ended p ps zero s r g S e =
    let k : s ≡ r = cc in
    subst (Ended p ps 0 s 0) k (record { sound = S; shorter = omega arith; more = omega arith })
ended p ps (suc k) s r g S e = ended_next p ps k s r (clip_one p ps s) refl g S (λ q. ended p ps k q r) e

-- ---- the triangles of an outline

pub record Meshing (p : Precision) (ps : List Projected) (ts : List Triangle) : Type 0 where
  pub fair : Each (Fair p ps) ts
  pub count : length ts + straight_corners p ps + 2 ≡ length ps
  pub most : length ts ≤ length ps - 2

meshing_end : (p : Precision) (ps : List Projected) (s : Clipping) (ts : List Triangle) (t : Outcome Turn) → turn_at p ps (first_three s.left) ≡ t → 3 ≤ length s.left → Sound p ps s
    → end_by t s.ears (first_three s.left) ≡ Ok ts → Each (Fair p ps) ts × (length ts ≡ length s.ears + 1)
unfolding end_by
meshing_end p ps s ts (Ok T.Positive) f g S e =
    let k : s.ears ++ (first_three s.left ∷ []) ≡ ts = cc in
    subst (λ l. Each (Fair p ps) l × (length l ≡ length s.ears + 1)) k
    (each_snoc (Fair p ps) s.ears (first_three s.left) S.fair (fair_three p ps s.left g S.low S.rising f), length-append s.ears (first_three s.left ∷ []))
meshing_end p ps s ts (Ok T.Negative) f g S e = let z : ◌≡◌ {A = ℕ} 0 1 = cc in absurd (omega arith)
meshing_end p ps s ts (Ok T.Zero) f g S e = let z : ◌≡◌ {A = ℕ} 0 1 = cc in absurd (omega arith)
meshing_end p ps s ts (Err r) f g S e = let z : ◌≡◌ {A = ℕ} 0 1 = cc in absurd (omega arith)

meshing_by : (p : Precision) (ps : List Projected) (ts : List Triangle) (o : Outcome Clipping) → o ≡ clip_all p ps (begun (length ps)) → 3 ≤ length ps → then o (end_of p ps) ≡ Ok ts → Meshing p ps ts
unfolding clip_all end_of straight_corners
meshing_by p ps ts (Ok s) f g e =
    let n = length_up 0 (length ps) in
    let c : clip_from (length ps - 3) p ps (begun (length ps)) ≡ Ok s = sym (ap (λ m. clip_from (m - 3) p ps (begun (length ps))) n) ∙ sym f in
    let h : length ps - 3 + 3 ≤ length (up_from 0 (length ps)) = omega arith in
    let N = ended p ps (length ps - 3) (begun (length ps)) s h (record { low = λ j. low_up (length ps) j (omega arith); rising = rising_up (length ps); fair = tt }) c in
    let k : 3 ≤ length s.left = omega (arith, N.shorter) in
    let E = meshing_end p ps s ts (turn_at p ps (first_three s.left)) refl k N.sound e in
    let m : length ts + straights_from (length ps - 3) p ps (begun (length ps)) + 2 ≡ length ps = omega (arith, N.more, E.1) in
    record { fair = E.0; count = m; most = omega arith }
meshing_by p ps ts (Err r) f g e = let z : ◌≡◌ {A = ℕ} 0 1 = cc in absurd (omega arith)

given_ok : {A : Type 0} (v : Outcome Unit) (o : Outcome A) (a : A) → given v o ≡ Ok a → o ≡ Ok a
unfolding given
given_ok (Ok tt) o a e = e
given_ok (Err r) o a e = let z : ◌≡◌ {A = ℕ} 0 1 = cc in absurd (omega arith)

-- Each triangle has three different places below the number of corners and is certified Positive. There are two less than corners, less one for each straight corner that was passed over.
pub triangles_mesh : (p : Precision) (ps : List Projected) (ts : List Triangle) → 3 ≤ length ps → triangles_of p ps ≡ Ok ts → Meshing p ps ts
unfolding triangles_of clipped_of
triangles_mesh p ps ts g e = meshing_by p ps ts (clip_all p ps (begun (length ps))) refl g (given_ok (simple_of p ps) (clipped_of p ps) ts e)

-- ---- the mesh of a facet

-- the corners in the coordinates of the plane, as many as there are, and what holds of their triangles
pub record FacetMesh (p : Precision) (f : Face) (ts : List Triangle) : Type 0 where
  pub shadows : List Projected
  pub drawn : each (projected_of f.plane) [] f.points ≡ Ok shadows
  pub many : length shadows ≡ length f.points
  pub mesh : Meshing p shadows ts

facet_by : (p : Precision) (f : Face) (ts : List Triangle) (o : Outcome (List Projected)) → o ≡ each (projected_of f.plane) [] f.points → 3 ≤ length f.points → then o (triangles_of p) ≡ Ok ts → FacetMesh p f ts
facet_by p f ts (Ok ps) q g e =
    let n : length ps ≡ length f.points = each_count (projected_of f.plane) [] f.points ps (sym q) ∙ omega arith in
    record { shadows = ps; drawn = sym q; many = n; mesh = triangles_mesh p ps ts (omega arith) e }
facet_by p f ts (Err r) q g e = let z : ◌≡◌ {A = ℕ} 0 1 = cc in absurd (omega arith)

pub facet_mesh : (p : Precision) (f : Face) (ts : List Triangle) → mesh_of p f ≡ Ok ts → FacetMesh p f ts
unfolding mesh_of mesh_on enough_on
facet_mesh p f ts e =
    let a = unless_ok (ltb 128 (length f.points)) 12 _ ts e in
    let b = unless_ok (not (fair_facet p f)) 2 (mesh_on p f) ts a.1 in
    let c = given_ok (basis_of f.plane) (enough_on p f) ts b.1 in
    let d = unless_ok (ltb (length f.points) 3) 3 _ ts c in
    facet_by p f ts (each (projected_of f.plane) [] f.points) refl (ltb-false (length f.points) 3 d.0) d.1
