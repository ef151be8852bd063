use Rattle.std.specs.Prelude.{◌≡◌, Err}
use borrow.Author.Rules.{rules}
use mathlib.Core.Path.{refl, ◌∙◌}
use Rattle.assembly.specs.Loop.{bench_on, walking_start, walking_out, walking_sizes, walking_counts, walking_step, walking_refused, walking_end}
use Rattle.assembly.proofs.list_bodies.Goals as goal

pub loop-i-init : goal.loop-i-init
loop-i-init c =
    let w = c.requires.starts in
    (walking_start _ _ _ _ _ _ _ _ w.2 w.3 w.1, record { first = refl; second = refl; third = refl; fourth = refl; fifth = refl; sixth = refl; seventh = refl; eighth = refl }, record { out = refl; sizes = refl; counts = refl })

pub next_body-requires : goal.next_body-requires
next_body-requires c = let L = c.loop-i in
    let h = c.loop-i-test.true in
    let W = c.loop-i.invariant.0 in
    record { points = c.requires.points; bench = bench_on _ _ _ _ _ _ _ _ _ _ _ _ _ _ _ _ _ _ c.requires.bench L.invariant.1; starts = (c.requires.starts.0, h, walking_counts _ _ _ _ _ _ _ _ _ _ _ _ _ h W, walking_out _ _ _ _ _ _ _ _ _ _ _ _ _ h W, walking_sizes _ _ _ _ _ _ _ _ _ _ _ _ _ h W) }

pub returns-in_err-m : goal.returns-in_err-m
returns-in_err-m c =
    let L = c.loop-i in
    let told : c.from_residual.result ≡ Err c.in_err-m.field-0.0 = search rules in
    walking_refused _ _ _ _ _ _ _ _ _ _ _ _ _ c.loop-i-test.true L.invariant.0 _ _ _ _ c.next_body.ensures _ _ c.in_err-m.was told

pub loop-i-preserved : goal.loop-i-preserved
loop-i-preserved c =
    let L = c.loop-i in
    let h = c.loop-i-test.true in
    let N = c.next_body in (
      walking_step _ _ _ _ _ _ _ _ _ _ _ _ _ h L.invariant.0 _ _ _ _ N.ensures _ c.in_ok-m.was,
      record { first = N.auto.faces ∙ L.invariant.1.first; second = N.auto.d ∙ L.invariant.1.second; third = N.auto.k ∙ L.invariant.1.third; fourth = N.auto.s ∙ L.invariant.1.fourth; fifth = N.auto.ord ∙ L.invariant.1.fifth; sixth = N.auto.ends ∙ L.invariant.1.sixth; seventh = N.auto.nodes ∙ L.invariant.1.seventh; eighth = N.auto.marks ∙ L.invariant.1.eighth },
      record { out = N.auto.out ∙ L.invariant.2.out; sizes = N.auto.sizes ∙ L.invariant.2.sizes; counts = N.auto.shells ∙ L.invariant.2.counts },
    )

pub shape_of-faces : goal.shape_of-faces
shape_of-faces c = c.loop-i.invariant.1.first

pub shape_of-d : goal.shape_of-d
shape_of-d c = c.loop-i.invariant.1.second

pub shape_of-k : goal.shape_of-k
shape_of-k c = c.loop-i.invariant.1.third

pub shape_of-s : goal.shape_of-s
shape_of-s c = c.loop-i.invariant.1.fourth

pub shape_of-ord : goal.shape_of-ord
shape_of-ord c = c.loop-i.invariant.1.fifth

pub shape_of-ends : goal.shape_of-ends
shape_of-ends c = c.loop-i.invariant.1.sixth

pub shape_of-nodes : goal.shape_of-nodes
shape_of-nodes c = c.loop-i.invariant.1.seventh

pub shape_of-marks : goal.shape_of-marks
shape_of-marks c = c.loop-i.invariant.1.eighth

pub shape_of-out : goal.shape_of-out
shape_of-out c = c.loop-i.invariant.2.out

pub shape_of-sizes : goal.shape_of-sizes
shape_of-sizes c = c.loop-i.invariant.2.sizes

pub shape_of-shells : goal.shape_of-shells
shape_of-shells c = c.loop-i.invariant.2.counts

pub returns : goal.returns
returns c =
    let L = c.loop-i in
    walking_end _ _ _ _ _ _ _ _ _ _ _ _ _ c.loop-i-test.false L.invariant.0
