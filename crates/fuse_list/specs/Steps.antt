-- The code's cases.
use Rattle.std.specs.Prelude.{◌≡◌, List, ℕ, ◌+◌, ◌*◌, length, Float, Ok, Err}
use Rattle.std.proofs.Common.{sym, ◌∙◌, arith, length-take-le}
use Rattle.std.proofs.Math.Path.{ap, subst}
use Rattle.std.proofs.Math.ListN.{take}
use Rattle.refusal.specs.declared.Refusal.{Refusal}
use Rattle.refusal.specs.Outcome.{Outcome, then}
use Rattle.refusal.specs.Laws.{stop, go}
use Rattle.bodies.specs.Fusing.{fuse}
use Rattle.interfaces.specs.Facets.{facets_of}
use Rattle.cavities.specs.Steps.{volume_of}
use Rattle.fusing.specs.Bench.{Bench}
use Rattle.parts.specs.Cells.{Places}
use Rattle.assembly.specs.declared.Fused.{Fused}
use Rattle.assembly.specs.Answer.{Laid}
use Rattle.fuse.specs.Fusing.{Shelves}
use Rattle.arrangement.specs.declared.Layout.{Layout}
use Rattle.fuse_list.specs.Lists.{fuse_at, Ready, Tools}

module _ {room : ℕ} {y : Layout} {n : ℕ} {p : List Float} {c s w : List ℕ} (R : Ready room y n p c s w)
    {ext cells cuts faces d k b ord ends nodes marks out sizes shells : List ℕ} (T : Tools room ext cells cuts faces d k b ord ends nodes marks out sizes shells) where
  many : length (take y.vertices c) ≡ y.vertices
  many = length-take-le y.vertices c R.cycles

  pub tools_bench : Bench (take y.vertices c) y.facets faces d k b ord ends nodes marks
  tools_bench = record {
    faces = omega (arith, R.facets, T.faces);
    runs = omega (arith, many, R.vertices, T.runs);
    heads = omega (arith, R.facets, T.runs);
    keys = omega (arith, many, R.vertices, T.keys);
    links = T.links;
    begins = omega (arith, many, R.vertices, T.begins);
    flags = omega (arith, R.facets, T.begins);
    order = omega (arith, many, R.vertices, T.order);
    stack = omega (arith, R.facets, T.order);
    ends = omega (arith, many, R.vertices, T.ends);
    nodes = omega (arith, R.facets, T.nodes);
    cuts = omega (arith, R.facets, T.marks);
  }

  pub tools_places : Places (take y.vertices c) y.facets n k ord ext ends d b cells cuts
  tools_places = record {
    keys = omega (arith, many, R.vertices, T.keys);
    order = omega (arith, R.facets, T.order);
    listed = omega (arith, R.facets, T.ext);
    pairs = omega (arith, R.facets, T.ends);
    links = T.links;
    heads = omega (arith, R.cells, T.runs);
    flags = omega (arith, R.cells, T.begins);
    stack = omega (arith, R.cells, T.order);
    cells = omega (arith, R.cells, T.cells);
    cuts = omega (arith, R.cells, T.cuts);
  }

  pub tools_shelves : Shelves y.facets n out sizes shells
  tools_shelves = record { facets = omega (arith, R.facets, T.out); sizes = omega (arith, R.facets, T.sizes); bodies = omega (arith, R.cells, T.shells) }

-- a refusal of the layout stays
pub at_refused : (o : Outcome Layout) (n : ℕ) (p : List Float) (c s w : List ℕ) (x₀ z₀ b₀ x z b : List ℕ) (r : Outcome Fused) (e : Refusal) → o ≡ Err e → r ≡ Err e →
    Laid (then o (λ y. fuse_at y n p c s w)) x₀ z₀ b₀ x z b r
unfolding Laid
at_refused o n p c s w x₀ z₀ b₀ x z b r e v g = subst (λ u. Laid u x₀ z₀ b₀ x z b r) (sym (stop o (λ y. fuse_at y n p c s w) e v)) g

pub at_made : (o : Outcome Layout) (y : Layout) (n : ℕ) (p : List Float) (c s w : List ℕ) (x₀ z₀ b₀ x z b : List ℕ) (r : Outcome Fused) → o ≡ Ok y →
    Laid (fuse (volume_of (take (3 * y.points) p) (take y.vertices c) (take (y.facets + 1) s)) (facets_of (take y.vertices c) (take (y.facets + 1) s) (take y.facets w) y.facets) n) x₀ z₀ b₀ x z b r →
    Laid (then o (λ v. fuse_at v n p c s w)) x₀ z₀ b₀ x z b r
unfolding fuse_at
at_made o y n p c s w x₀ z₀ b₀ x z b r v l = subst (λ u. Laid u x₀ z₀ b₀ x z b r) (sym (go o (λ q. fuse_at q n p c s w) y v)) l

-- slices of the same lengths serve as well
pub tools_on : {room : ℕ} {e c u f d k s o l q m x z b : List ℕ} (e' f' : List ℕ) → Tools room e c u f d k s o l q m x z b → length e' ≡ length e → length f' ≡ length f → Tools room e' c u f' d k s o l q m x z b
tools_on e' f' T he hf = record {
  low = T.low;
  ext = omega (arith, T.ext, he);
  cells = T.cells;
  cuts = T.cuts;
  faces = omega (arith, T.faces, hf);
  runs = T.runs;
  keys = T.keys;
  begins = T.begins;
  order = T.order;
  ends = T.ends;
  links = T.links;
  nodes = T.nodes;
  marks = T.marks;
  out = T.out;
  sizes = T.sizes;
  shells = T.shells;
}
