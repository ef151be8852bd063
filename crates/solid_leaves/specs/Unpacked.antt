-- What the slices mean, once a cell's bytes are unpacked into them.
use Rattle.std.specs.Prelude.{◌≡◌, refl, Bool, true, false, ◌&&◌, cond, List, map, ℕ, ◌*◌, ◌/◌, ◌≤◌, ◌<◌, length, drop, leb, Float, Ok, Err}
use Rattle.std.proofs.Common.{sym, ap, ◌∙◌, arith, leb-true}
use Rattle.std.proofs.lemmas.List.Edits.{sets}
use Rattle.refusal.specs.declared.Refusal.{Refusal}
use Rattle.refusal.specs.Outcome.{Outcome, verdict_of, number_of}
use Rattle.refusal.specs.Laws.{stop, go}
use Rattle.refusal.specs.Tests.{and_true}
use Rattle.space.specs.Shapes.{Cell}
use Rattle.room.specs.Rooms.{counts_at}
use Rattle.job.specs.declared.CellLayout.{CellLayout}
use Rattle.job.specs.Records.{faces_of}
use Rattle.job.specs.Read.{cell_layout, solid_at, cell_at, read_cell}
use Rattle.pack.specs.Flat.{flat, joined, points_from, faces_from}
use Rattle.solids.specs.Frames.{Placing}
use Rattle.solid_check.specs.Check.{check}
use Rattle.solid_check.specs.Check as K
use Rattle.intake.specs.Unpacked.{solid_mean, placing_mean}
use Rattle.intake.specs.Layouts.{laid_placed}
use Rattle.lent.specs.Lent.{number_by}
use Rattle.solid_leaves.specs.Cells.{check_bytes, roomy, cell_number}

-- ---- the number

pub number_of_lem : (o : Outcome Cell) → number_by (verdict_of o) ≡ number_of o
unfolding number_by verdict_of number_of
number_of_lem (Ok c) = refl
number_of_lem (Err r) = refl

pub read_not : (given : Bool) (l : List ℕ) (r : Refusal) → cell_layout l ≡ Err r → r.number ≡ number_of (check_bytes given l)
unfolding check_bytes read_cell number_of
read_not given l r e = sym (ap number_of (stop (read_cell l) (λ j. check given j.precision j.solid) r (stop (cell_layout l) (λ y. Ok (cell_at l y)) r e)))

pub read_made : (given : Bool) (l : List ℕ) (y : CellLayout) → cell_layout l ≡ Ok y → check given y.precision (solid_at l y.solid) ≡ check_bytes given l
unfolding check_bytes read_cell cell_at
read_made given l y e = sym (go (read_cell l) (λ j. check given j.precision j.solid) (cell_at l y) (go (cell_layout l) (λ z. Ok (cell_at l z)) y e))

-- ---- the work memory

pub record Roomy (points counts places ends head next seen work nodes cuts : ℕ) : Type 0 where
  pub a : 3930 ≤ points
  pub b : 32768 ≤ counts
  pub c : 10923 ≤ places
  pub d : 2 * places ≤ ends
  pub e : 2 * places ≤ next
  pub f : places ≤ nodes
  pub g : 32768 ≤ head
  pub h : 32768 ≤ seen
  pub i : 32768 ≤ work
  pub j : 32768 ≤ nodes
  pub k : 32769 ≤ cuts

pub roomy_is : (points counts places ends head next seen work nodes cuts : ℕ) → roomy points counts places ends head next seen work nodes cuts ≡ true → Roomy points counts places ends head next seen work nodes cuts
roomy_is points counts places ends head next seen work nodes cuts q =
    let x = and_true _ ((leb 32768 work && leb 32768 nodes) && leb 32769 cuts) q in
    let y = and_true (leb 32768 work && leb 32768 nodes) (leb 32769 cuts) x.1 in
    let z = and_true (leb 32768 work) (leb 32768 nodes) y.0 in
    let s = and_true _ (leb 32768 seen) x.0 in
    let t = and_true _ (leb 32768 head) s.0 in
    let u = and_true _ (leb places nodes) t.0 in
    let v = and_true _ (leb places (next / 2)) u.0 in
    let w = and_true _ (leb places (ends / 2)) v.0 in
    let p = and_true (leb 3930 points && leb 32768 counts) (leb 10923 places) w.0 in
    let o = and_true (leb 3930 points) (leb 32768 counts) p.0 in
    record {
      a = leb-true 3930 points o.0;
      b = leb-true 32768 counts o.1;
      c = leb-true 10923 places p.1;
      d = omega (arith, leb-true places (ends / 2) w.1);
      e = omega (arith, leb-true places (next / 2) v.1);
      f = leb-true places nodes u.1;
      g = leb-true 32768 head t.1;
      h = leb-true 32768 seen s.1;
      i = leb-true 32768 work z.0;
      j = leb-true 32768 nodes z.1;
      k = leb-true 32769 cuts y.1;
    }

-- ---- a cell that was read, in work memory that suffices

module _ (l : List ℕ) (y : CellLayout) (e : cell_layout l ≡ Ok y) {sn cn pn en hn xn on wn dn un : ℕ} (R : Roomy sn cn pn en hn xn on wn dn un) where
  pub laid_room : (3 * y.solid.points ≤ sn) × (y.solid.faces ≤ cn) × (y.solid.corners ≤ pn)
  laid_room =
      let P = laid_placed l y e in
      (omega (arith, P.0.middle, P.0.end, P.0.within, P.1, R.a), omega (arith, P.0.end, P.0.within, P.1, R.b), omega (arith, P.0.end, P.0.within, P.1, R.c))

  pub laid_faces : ((faces_of (drop y.solid.middle l)).faces ≤ cn) × ((faces_of (drop y.solid.middle l)).corners ≤ pn)
  laid_faces =
      let P = laid_placed l y e in
      let f = ap (λ z. z.faces) P.0.faces in
      let c = ap (λ z. z.corners) P.0.faces in
      (omega (arith, f, laid_room.1), omega (arith, c, laid_room.2))

  pub laid_work : (y.solid.faces ≤ hn) × (y.solid.faces ≤ on) × (y.solid.faces ≤ wn) × (y.solid.faces ≤ dn) × (y.solid.faces < un)
  laid_work =
      let P = laid_placed l y e in
      let k : y.solid.faces ≤ 32768 = omega (arith, P.0.end, P.0.within, P.1) in
      (omega (arith, k, R.g), omega (arith, k, R.h), omega (arith, k, R.i), omega (arith, k, R.j), omega (arith, k, R.k))

-- the same, once the bytes are unpacked
module _ (l : List ℕ) (y : CellLayout) (e : cell_layout l ≡ Ok y) (s s' : List Float) (cs cs' ps ps' : List ℕ) (s_r : 3 * y.solid.points ≤ length s) (c_r : y.solid.faces ≤ length cs) (p_r : y.solid.corners ≤ length ps)
    (s_e : s' ≡ sets s 0 (flat (points_from l y.solid.start y.solid.points))) (c_e : cs' ≡ sets cs 0 (map length (faces_from l y.solid.middle))) (p_e : ps' ≡ sets ps 0 (joined (faces_from l y.solid.middle))) where
  pub laid_placing : Placing (counts_at cs' 0 y.solid.faces) 0 (length ps')
  laid_placing = rw (c_e, p_e) (placing_mean l 17 y.solid (laid_placed l y e).0 s cs ps s_r c_r p_r)

  pub laid_number : (given : Bool) (v : Outcome Unit) (r : ℕ) → r ≡ number_by v → v ≡ verdict_of (check given y.precision (K.solid_at s' y.solid.points ps' cs' y.solid.faces)) →
      r ≡ number_of (check given y.precision (solid_at l y.solid))
  laid_number given v r h g =
      let q : K.solid_at s' y.solid.points ps' cs' y.solid.faces ≡ solid_at l y.solid = rw (s_e, c_e, p_e) (solid_mean l 17 y.solid (laid_placed l y e).0 s cs ps s_r c_r p_r) in
      h ∙ ap number_by g ∙ number_of_lem (check given y.precision (K.solid_at s' y.solid.points ps' cs' y.solid.faces)) ∙ ap (λ z. number_of (check given y.precision z)) q

-- ---- the whole

pub cell_small : (room given : Bool) (l : List ℕ) → room ≡ false → 12 ≡ cell_number room given l
unfolding cell_number
cell_small room given l e = sym (ap (λ b. cond b (number_of (check_bytes given l)) 12) e)

pub cell_refused : (room given : Bool) (l : List ℕ) (c : Outcome CellLayout) (r : Refusal) → room ≡ true → c ≡ cell_layout l → c ≡ Err r → r.number ≡ cell_number room given l
unfolding cell_number
cell_refused room given l c r e h g = read_not given l r (sym h ∙ g) ∙ sym (ap (λ b. cond b (number_of (check_bytes given l)) 12) e)

pub cell_layout_lem : (l : List ℕ) (c : Outcome CellLayout) (y : CellLayout) → c ≡ cell_layout l → c ≡ Ok y → cell_layout l ≡ Ok y
cell_layout_lem l c y h g = sym h ∙ g

pub cell_checked : (room given : Bool) (l : List ℕ) (y : CellLayout) (r : ℕ) → room ≡ true → cell_layout l ≡ Ok y → r ≡ number_of (check given y.precision (solid_at l y.solid)) → r ≡ cell_number room given l
unfolding cell_number
cell_checked room given l y r e h g = g ∙ ap number_of (read_made given l y h) ∙ sym (ap (λ b. cond b (number_of (check_bytes given l)) 12) e)
