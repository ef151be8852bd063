-- What holds whenever a hollow answers: every inner corner is certified Negative against every outer plane.
use Rattle.std.specs.Prelude.{◌≡◌, true, not, [], ℕ, Float, Ok}
use Rattle.std.proofs.Common.{sym, ap, ◌∙◌}
use Rattle.std.specs.Float.Ieee.{neg}
use Rattle.std.proofs.lemmas.Bool.{not-false}
use Rattle.refusal.specs.Outcome.{Outcome, each, heard}
use Rattle.refusal.specs.Laws.{then_ok, unless_ok}
use Rattle.space.specs.declared.Precision.{Precision}
use Rattle.space.specs.Shapes.{Cell}
use Rattle.side.specs.declared.Side.TheVariants as S
use Rattle.side.specs.Sides.{side_of}
use Rattle.polygon.specs.Members.{All}
use Rattle.bounds.specs.Bounds.{against}
use Rattle.bounds.specs.Laws.{against_negative}
use Rattle.offset.specs.Offsets.{offset_cell}
use Rattle.offset.specs.Theorem.{heard_ok}
use Rattle.hollow.specs.Hollows.{thick, reversed_face, Hollow, hollow_room, hollow_of, hollow_in, hollow}

pub record Answered (t : Precision) (w : Float) (solid : Outcome Cell) (built : Cell → Outcome Cell) (h : Hollow) : Type 0 where
  pub outer : Cell
  pub moved : Cell
  pub made : Cell
  pub is_thick : thick t w ≡ true
  pub given : solid ≡ Ok outer
  pub is_moved : offset_cell t (neg w) outer ≡ Ok moved
  pub is_built : built moved ≡ Ok made
  pub first : h.outer ≡ outer
  pub second : each (reversed_face t) [] made ≡ Ok h.inner
  pub strictly : All (λ f. All (λ q. All (λ b. side_of t b.plane q ≡ Ok S.Negative) outer) f.points) moved

pub hollow_answered : (t : Precision) (room : ℕ) (w : Float) (solid : Outcome Cell) (built : Cell → Outcome Cell) (h : Hollow) → hollow t room w solid built ≡ Ok h → Answered t w solid built h
unfolding hollow hollow_in hollow_of hollow_room
hollow_answered t room w solid built h e =
    let a = unless_ok (not (thick t w)) 28 _ h e in
    let b = then_ok solid _ h a.1 in
    let c = then_ok (offset_cell t (neg w) b.0) _ h b.2 in
    let d = then_ok (built c.0) (hollow_in t room b.0 c.0) h c.2 in
    let f = then_ok (heard (against true t b.0 c.0) d.0) (hollow_of t room b.0) h d.2 in
    let g = heard_ok (against true t b.0 c.0) d.0 f.0 f.1 in
    let i = then_ok (each (reversed_face t) [] f.0) _ h f.2 in
    let j = heard_ok _ _ h i.2 in
    record {
      outer = b.0;
      moved = c.0;
      made = d.0;
      is_thick = not-false _ a.0;
      given = b.1;
      is_moved = c.1;
      is_built = d.1;
      first = ap (λ x. x.outer) (sym j.1);
      second = ap (each (reversed_face t) []) g.1 ∙ i.1 ∙ ap (λ x. Ok x.inner) j.1;
      strictly = against_negative t b.0 c.0 g.0;
    }
