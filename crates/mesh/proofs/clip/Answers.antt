use Rattle.std.specs.Prelude.{Ok, Err}
use Rattle.std.proofs.lemmas.Result.{err_from_is_err_and}
use mathlib.Core.Path.{◌≡◌, sym, ap, ◌∙◌}
use mathlib.Core.List.{[], ◌∷◌, ◌++◌}
use Prim.Native.Nat.{ℕ, ◌≤◌, ◌<◌}
use native.Mathlib.Omega.{arith}
use lib.ListN.{length, length-append}
use Rattle.refusal.specs.Outcome.{Outcome}
use Rattle.space.specs.declared.Precision.{Precision}
use Rattle.outline.specs.Project.{points_of}
use Rattle.outline.specs.declared.Outline.{Outline}
use Rattle.ears.specs.declared.Active.{Active}
use Rattle.ears.specs.declared.Found.{Found}
use Rattle.ears.specs.declared.Found.TheVariants as F
use Rattle.ears.specs.declared.Triangle.{Triangle}
use Rattle.ears.specs.Places.{active, places_of, up_from, without}
use Rattle.ears.specs.Ears.{scan_of}
use Rattle.ears.specs.Laws.{length_up, length_without}
use Rattle.mesh.specs.declared.Triples.{Triples}
use Rattle.mesh.specs.Mesh.{meshed, pushed}
use Rattle.mesh.specs.Laws.{eared, straight_place, low_up, low_without, clip_start, yields_ear, yields_straight, yields_none, yields_refused, yields_end, ready, scan_places, removed, pushed_is, meshed_stop}
use Rattle.mesh.proofs.clip.Invariants.{Held}
use Rattle.mesh.proofs.clip.Goals as goal

pub loop-active-init : goal.loop-active-init
loop-active-init c =
    let k : length c.args.o.at ≡ 128 = c.well_formed.1.0.1.1.0.1.0.1 in
    let full : c.args.o.n ≤ length c.args.o.at = omega (arith, c.requires.1) in
    record {
      left = up_from 0 c.args.o.n;
      ears = [];
      active_is = c.all_places-active.ensures;
      out_is = c.none-out.ensures;
      three = omega (arith, length_up 0 c.args.o.n, c.requires.0);
      count = omega (arith, length_up 0 c.args.o.n);
      low = λ j. low_up c.args.o.n j (omega (arith, c.requires.0));
      rest = clip_start c.args.p c.args.o.at c.args.o.n full;
    }

pub scan-requires : goal.scan-requires
scan-requires c =
    let I = c.loop-active.invariant in
    ready c.args.o c.loop-active.active I.left c.requires.1 I.active_is (omega (arith, I.count)) I.low

-- ---- what the state says

module _ {p : Precision} {o : Outline} {a : Active} {out : Triples} (I : Held p o a out) where
  size : a.n ≡ length I.left
  size = ap (λ b. b.n) I.active_is

  -- the scan of the corners that are left
  scanned : (x : Outcome Found) {y : Outcome Found} → x ≡ scan_of p (points_of o) (places_of a) → x ≡ y → scan_of p (points_of o) I.left ≡ y
  scanned x e f = sym (scan_places p (points_of o) a I.left x I.active_is e) ∙ f

  module _ (x : Outcome Found) (e : x ≡ scan_of p (points_of o) (places_of a)) (b : Active) (i : ℕ) (r : b ≡ active (without i (places_of a))) (h : 3 < a.n) where
    -- an ear is taken off
    off_ear : (t : Triangle) (out' : Triples) → o.n ≤ 128 → x ≡ Ok (F.Ear i t) → out' ≡ pushed out t → Held p o b out'
    off_ear t out' most f g =
        let E = eared p (points_of o) I.left i t (scanned x e f) in
        let few : length I.ears < 126 = omega (arith, size, h, I.count) in
        let n = length_without i I.left E.place in
        record {
          left = without i I.left;
          ears = I.ears ++ (t ∷ []);
          active_is = removed a b I.left i I.active_is r;
          out_is = g ∙ ap (λ y. pushed y t) I.out_is ∙ pushed_is I.ears t few;
          three = omega (arith, size, h);
          count = simp length-append (omega (arith, I.count, size, h));
          low = low_without o.n i I.left I.low;
          rest = sym (yields_ear p (points_of o) I.left I.ears x (omega (arith, size, h)) (scan_places p (points_of o) a I.left x I.active_is e) i t f) ∙ I.rest;
        }

    -- a straight corner is passed over
    off_straight : x ≡ Ok (F.Straight i) → Held p o b out
    off_straight f =
        let E = straight_place p (points_of o) I.left i (scanned x e f) in
        let n = length_without i I.left E in
        record {
          left = without i I.left;
          ears = I.ears;
          active_is = removed a b I.left i I.active_is r;
          out_is = I.out_is;
          three = omega (arith, size, h);
          count = omega (arith, I.count, size, h);
          low = low_without o.n i I.left I.low;
          rest = sym (yields_straight p (points_of o) I.left I.ears x (omega (arith, size, h)) (scan_places p (points_of o) a I.left x I.active_is e) i f) ∙ I.rest;
        }

    -- one corner less is left
    fewer : i < length I.left → b.n < a.n
    fewer k = omega (arith, ap (λ y. y.n) (removed a b I.left i I.active_is r), length_without i I.left k, size, h)

pub remove-active-requires : goal.remove-active-requires
remove-active-requires c =
    let I = c.loop-active.invariant in
    let E = eared c.args.p (points_of c.args.o) I.left _ _ (scanned I c.scan.result c.scan.ensures (c.in_ok-i.was ∙ ap Ok c.in-Ear.is)) in
    (omega (arith, E.place, size I), omega (arith, size I, I.count, c.requires.1))

pub loop-active-smaller-in-Ear : goal.loop-active-smaller-in-Ear
loop-active-smaller-in-Ear c =
    let I = c.loop-active.invariant in
    let E = eared c.args.p (points_of c.args.o) I.left _ _ (scanned I c.scan.result c.scan.ensures (c.in_ok-i.was ∙ ap Ok c.in-Ear.is)) in
    fewer I c.scan.result c.scan.ensures c.remove-active.result c.in-Ear.i c.remove-active.ensures c.loop-active-test.true E.place

pub loop-active-preserved-in-Ear : goal.loop-active-preserved-in-Ear
loop-active-preserved-in-Ear c =
    off_ear c.loop-active.invariant c.scan.result c.scan.ensures c.remove-active.result c.in-Ear.i c.remove-active.ensures c.loop-active-test.true _ _ c.requires.1
    (c.in_ok-i.was ∙ ap Ok c.in-Ear.is) c.push.ensures

pub remove-active-requires-in-Straight : goal.remove-active-requires-in-Straight
remove-active-requires-in-Straight c =
    let I = c.loop-active.invariant in
    let E = straight_place c.args.p (points_of c.args.o) I.left _ (scanned I c.scan.result c.scan.ensures (c.in_ok-i.was ∙ ap Ok c.in-Straight.is)) in
    (omega (arith, E, size I), omega (arith, size I, I.count, c.requires.1))

pub loop-active-smaller : goal.loop-active-smaller
loop-active-smaller c =
    let I = c.loop-active.invariant in
    let E = straight_place c.args.p (points_of c.args.o) I.left _ (scanned I c.scan.result c.scan.ensures (c.in_ok-i.was ∙ ap Ok c.in-Straight.is)) in
    fewer I c.scan.result c.scan.ensures c.remove-active-in-Straight.result c.in-Straight.i c.remove-active-in-Straight.ensures c.loop-active-test.true E

pub loop-active-preserved : goal.loop-active-preserved
loop-active-preserved c =
    off_straight c.loop-active.invariant c.scan.result c.scan.ensures c.remove-active-in-Straight.result c.in-Straight.i c.remove-active-in-Straight.ensures c.loop-active-test.true
    (c.in_ok-i.was ∙ ap Ok c.in-Straight.is)

pub returns-in-Nothing : goal.returns-in-Nothing
returns-in-Nothing c =
    let I = c.loop-active.invariant in
    let x = scan_places c.args.p (points_of c.args.o) c.loop-active.active I.left c.scan.result I.active_is c.scan.ensures in
    let e = yields_none c.args.p (points_of c.args.o) I.left I.ears c.scan.result (omega (arith, size I, c.loop-active-test.true)) x (c.in_ok-i.was ∙ ap Ok c.in-Nothing.is) in
    meshed_stop _ _ (sym I.rest ∙ e ∙ ap Err (sym c.refuse.ensures))

pub returns-in_err-i : goal.returns-in_err-i
returns-in_err-i c =
    let I = c.loop-active.invariant in
    let x = scan_places c.args.p (points_of c.args.o) c.loop-active.active I.left c.scan.result I.active_is c.scan.ensures in
    let e = yields_refused c.args.p (points_of c.args.o) I.left I.ears c.scan.result (omega (arith, size I, c.loop-active-test.true)) x _ c.in_err-i.was in
    let p = err_from_is_err_and c.from_residual.result c.from_residual.ensures.1 in
    rw (p.1, p.2) (meshed_stop _ _ (sym I.rest ∙ e))

pub last-requires : goal.last-requires
last-requires c =
    let I = c.loop-active.invariant in (
      ready c.args.o c.loop-active.active I.left c.requires.1 I.active_is (omega (arith, I.count)) I.low,
      omega (arith, size I, I.three),
      omega (arith, ap (λ y. y.n) I.out_is, I.count, I.three, c.requires.1),
    )

pub returns : goal.returns
returns c =
    let I = c.loop-active.invariant in
    let h : length I.left ≤ 3 = omega (arith, size I, c.loop-active-test.false) in
    let k : length I.ears < 126 = omega (arith, I.count, I.three, c.requires.1) in
    yields_end c.args.p (points_of c.args.o) I.left I.ears c.loop-active.active _ c.last.result h k I.active_is I.out_is c.last.ensures
    ∙ ap meshed I.rest
