use Rattle.std.specs.Prelude.{◌≡◌, Err}
use borrow.Author.Rules.{rules}
use native.Mathlib.Omega.{arith}
use Rattle.fusing.specs.Bodied.{all_facets, few_shells, shells_fine, shells_shelled, body_refused, body_outer, body_made}
use Rattle.fusing.proofs.order_body.Goals as goal

pub find_outer-requires : goal.find_outer-requires
find_outer-requires c =
    (c.requires.points.0, shells_shelled _ _ _ _ _ _ _ _ _ _ _ _ _ _ c.requires.spread c.find_shells-g.ensures c.requires.points.1)

pub returns-in_err-o : goal.returns-in_err-o
returns-in_err-o c =
    let a = c.args in
    let told : c.from_residual.result ≡ Err c.in_err-o.field-0.0 = search rules in
    body_refused a.v.now a.starts.now a.f _ _ _ _ _ _ _ _ _ _ _ c.requires.spread c.find_shells-g.ensures _ _ _ 0 _ _ _ _ _ _ _ c.find_outer.ensures c.in_err-o.was told

pub list_facets-requires : goal.list_facets-requires
list_facets-requires c =
    let a = c.args in
    let G = c.find_shells-g.ensures in (
      shells_fine a.v.now a.starts.now a.f _ _ _ _ _ _ _ _ _ _ _ c.requires.spread G,
      body_outer a.v.now a.starts.now a.f _ _ _ _ _ _ _ _ _ _ _ c.requires.spread G a.points.now a.at a.sat _ a.out.now a.sizes.now _ c.find_outer.ensures c.in_ok-o.was,
      omega (arith, all_facets a.v.now a.starts.now a.f _ _ _ _ _ _ _ _ _ _ _ c.requires.spread G, c.requires.faces_in_bounds.0),
    )

pub list_sizes-requires : goal.list_sizes-requires
list_sizes-requires c =
    let a = c.args in
    let G = c.find_shells-g.ensures in (
      shells_fine a.v.now a.starts.now a.f _ _ _ _ _ _ _ _ _ _ _ c.requires.spread G,
      body_outer a.v.now a.starts.now a.f _ _ _ _ _ _ _ _ _ _ _ c.requires.spread G a.points.now a.at a.sat _ a.out.now a.sizes.now _ c.find_outer.ensures c.in_ok-o.was,
      omega (arith, few_shells a.v.now a.starts.now a.f _ _ _ _ _ _ _ _ _ _ _ c.requires.spread G, c.requires.faces_in_bounds.1),
    )

pub overflow_add-result : goal.overflow_add-result
overflow_add-result c = omega (arith, c.requires.faces_in_bounds.0, c.well_formed)

pub overflow_add-result-2 : goal.overflow_add-result-2
overflow_add-result-2 c =
    let a = c.args in
    omega (arith, c.requires.faces_in_bounds.1, few_shells a.v.now a.starts.now a.f _ _ _ _ _ _ _ _ _ _ _ c.requires.spread c.find_shells-g.ensures, c.well_formed)

pub returns : goal.returns
returns c =
    let a = c.args in
    body_made a.v.now a.starts.now a.f _ _ _ _ _ _ _ _ _ _ _ c.requires.spread c.find_shells-g.ensures _ _ _ _ _ _ _ _ _ c.find_outer.ensures c.in_ok-o.was c.list_facets.ensures c.list_sizes.ensures
