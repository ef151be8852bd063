use native.Mathlib.Omega.{arith}
use Prim.Native.Nat.{ℕ, ◌+◌, ◌*◌, ◌≤◌}
use lib.ListN.{length, get_or}
use Rattle.answer.specs.Laws.{facets_start, facet_fits, facet_inside, facets_turn, facets_end}
use Rattle.answer.proofs.put_facets.Goals as goal

pub loop-i-init : goal.loop-i-init
loop-i-init c = facets_start _ _ _ _ _ _ _ c.requires.1

pub put_facet-requires : goal.put_facet-requires
put_facet-requires c = let size : ℕ = (let A = c.args in get_or A.sizes.now (A.j + c.loop-i.i) 0) in
    let fits : (c.loop-i.o + 13 + 3 * size ≤ length c.args.s.now) × (c.loop-i.p + 100 + 24 * size ≤ length c.loop-i.out) = (let L = c.loop-i in
    (facet_fits L.invariant c.loop-i-test.true c.requires.0, facet_inside L.invariant c.loop-i-test.true c.requires.0 c.requires.2)) in
    fits

pub overflow_mul-o : goal.overflow_mul-o
overflow_mul-o c = let size : ℕ = (let A = c.args in get_or A.sizes.now (A.j + c.loop-i.i) 0) in
    let fits : (c.loop-i.o + 13 + 3 * size ≤ length c.args.s.now) × (c.loop-i.p + 100 + 24 * size ≤ length c.loop-i.out) = (let L = c.loop-i in
    (facet_fits L.invariant c.loop-i-test.true c.requires.0, facet_inside L.invariant c.loop-i-test.true c.requires.0 c.requires.2)) in
    omega (arith, fits.0, fits.1, c.well_formed, c.loop-i.invariant.same)

pub overflow_add-o : goal.overflow_add-o
overflow_add-o c = let size : ℕ = (let A = c.args in get_or A.sizes.now (A.j + c.loop-i.i) 0) in
    let fits : (c.loop-i.o + 13 + 3 * size ≤ length c.args.s.now) × (c.loop-i.p + 100 + 24 * size ≤ length c.loop-i.out) = (let L = c.loop-i in
    (facet_fits L.invariant c.loop-i-test.true c.requires.0, facet_inside L.invariant c.loop-i-test.true c.requires.0 c.requires.2)) in
    omega (arith, fits.0, fits.1, c.well_formed, c.loop-i.invariant.same)

pub overflow_add-o-in-loop-i : goal.overflow_add-o-in-loop-i
overflow_add-o-in-loop-i c = let size : ℕ = (let A = c.args in get_or A.sizes.now (A.j + c.loop-i.i) 0) in
    let fits : (c.loop-i.o + 13 + 3 * size ≤ length c.args.s.now) × (c.loop-i.p + 100 + 24 * size ≤ length c.loop-i.out) = (let L = c.loop-i in
    (facet_fits L.invariant c.loop-i-test.true c.requires.0, facet_inside L.invariant c.loop-i-test.true c.requires.0 c.requires.2)) in
    omega (arith, fits.0, fits.1, c.well_formed, c.loop-i.invariant.same)

pub overflow_mul-p : goal.overflow_mul-p
overflow_mul-p c = let size : ℕ = (let A = c.args in get_or A.sizes.now (A.j + c.loop-i.i) 0) in
    let fits : (c.loop-i.o + 13 + 3 * size ≤ length c.args.s.now) × (c.loop-i.p + 100 + 24 * size ≤ length c.loop-i.out) = (let L = c.loop-i in
    (facet_fits L.invariant c.loop-i-test.true c.requires.0, facet_inside L.invariant c.loop-i-test.true c.requires.0 c.requires.2)) in
    omega (arith, fits.0, fits.1, c.well_formed, c.loop-i.invariant.same)

pub overflow_add-p : goal.overflow_add-p
overflow_add-p c = let size : ℕ = (let A = c.args in get_or A.sizes.now (A.j + c.loop-i.i) 0) in
    let fits : (c.loop-i.o + 13 + 3 * size ≤ length c.args.s.now) × (c.loop-i.p + 100 + 24 * size ≤ length c.loop-i.out) = (let L = c.loop-i in
    (facet_fits L.invariant c.loop-i-test.true c.requires.0, facet_inside L.invariant c.loop-i-test.true c.requires.0 c.requires.2)) in
    omega (arith, fits.0, fits.1, c.well_formed, c.loop-i.invariant.same)

pub overflow_add-p-in-loop-i : goal.overflow_add-p-in-loop-i
overflow_add-p-in-loop-i c = let size : ℕ = (let A = c.args in get_or A.sizes.now (A.j + c.loop-i.i) 0) in
    let fits : (c.loop-i.o + 13 + 3 * size ≤ length c.args.s.now) × (c.loop-i.p + 100 + 24 * size ≤ length c.loop-i.out) = (let L = c.loop-i in
    (facet_fits L.invariant c.loop-i-test.true c.requires.0, facet_inside L.invariant c.loop-i-test.true c.requires.0 c.requires.2)) in
    omega (arith, fits.0, fits.1, c.well_formed, c.loop-i.invariant.same)

pub loop-i-preserved : goal.loop-i-preserved
loop-i-preserved c = facets_turn c.loop-i.invariant c.loop-i-test.true c.requires.0 _ c.put_facet.ensures

pub returns : goal.returns
returns c = record { value = (facets_end c.loop-i.invariant c.loop-i-test.false).0; out_after = (facets_end c.loop-i.invariant c.loop-i-test.false).1 }
