use Rattle.std.specs.Prelude.{Err}
use borrow.Author.Rules.{rules}
use mathlib.Core.Path.{◌≡◌, refl, ◌∙◌}
use native.Mathlib.Omega.{arith}
use Rattle.offset.specs.Laws.{listing_size, listing_slots, face_not}
use Rattle.hollow.specs.Laws.{reversing_start, reversing_inside, reversing_fits, reversing_step, reversing_stop, reversing_end}
use Rattle.hollow.proofs.reverse_faces.Goals as goal

pub loop-j-init : goal.loop-j-init
loop-j-init c =
    reversing_start c.requires.0 c.requires.1

pub reverse_face-requires : goal.reverse_face-requires
reverse_face-requires c =
    (reversing_inside c.loop-j.invariant c.requires.0 c.loop-j-test.true, reversing_fits c.loop-j.invariant c.requires.0 c.loop-j-test.true)

pub shape_of-dst-in_err-reverse_face : goal.shape_of-dst-in_err-reverse_face
shape_of-dst-in_err-reverse_face c =
    (face_not _ _ _ _ _ _ c.reverse_face.ensures c.in_err-reverse_face.was).1 ∙ listing_size c.loop-j.invariant.listing

pub shape_of-sizes-in_err-reverse_face : goal.shape_of-sizes-in_err-reverse_face
shape_of-sizes-in_err-reverse_face c =
    listing_slots c.loop-j.invariant.listing

pub returns-in_err-reverse_face : goal.returns-in_err-reverse_face
returns-in_err-reverse_face c =
    let told : c.from_residual.result ≡ Err c.in_err-reverse_face.field-0.0 = search rules in
    reversing_stop c.loop-j.invariant c.requires.0 c.loop-j-test.true _ _ _ _ c.reverse_face.ensures c.in_err-reverse_face.was told

pub bounds-sizes-k : goal.bounds-sizes-k
bounds-sizes-k c =
    omega (arith, c.requires.1.slots, listing_slots c.loop-j.invariant.listing, c.loop-j-test.true)

pub overflow_add-o : goal.overflow_add-o
overflow_add-o c =
    omega (arith, reversing_inside c.loop-j.invariant c.requires.0 c.loop-j-test.true, c.well_formed)

pub overflow_mul-o : goal.overflow_mul-o
overflow_mul-o c =
    omega (arith, reversing_inside c.loop-j.invariant c.requires.0 c.loop-j-test.true, c.well_formed)

pub overflow_add-o-in-loop-j : goal.overflow_add-o-in-loop-j
overflow_add-o-in-loop-j c =
    omega (arith, reversing_inside c.loop-j.invariant c.requires.0 c.loop-j-test.true, c.well_formed)

pub overflow_add-q : goal.overflow_add-q
overflow_add-q c =
    omega (arith, reversing_fits c.loop-j.invariant c.requires.0 c.loop-j-test.true, listing_size c.loop-j.invariant.listing, c.well_formed)

pub overflow_mul-q : goal.overflow_mul-q
overflow_mul-q c =
    omega (arith, reversing_fits c.loop-j.invariant c.requires.0 c.loop-j-test.true, listing_size c.loop-j.invariant.listing, c.well_formed)

pub overflow_add-q-in-loop-j : goal.overflow_add-q-in-loop-j
overflow_add-q-in-loop-j c =
    omega (arith, reversing_fits c.loop-j.invariant c.requires.0 c.loop-j-test.true, listing_size c.loop-j.invariant.listing, c.well_formed)

pub loop-j-preserved : goal.loop-j-preserved
loop-j-preserved c =
    reversing_step c.loop-j.invariant c.requires.0 c.loop-j-test.true _ _ _ c.reverse_face.ensures c.in_ok-reverse_face.was refl

pub shape_of-dst : goal.shape_of-dst
shape_of-dst c = listing_size c.loop-j.invariant.listing

pub shape_of-sizes : goal.shape_of-sizes
shape_of-sizes c = listing_slots c.loop-j.invariant.listing

pub returns : goal.returns
returns c =
    reversing_end c.loop-j.invariant c.requires.0 _ c.loop-j-test.false refl
