-- The code's cases.
use Rattle.std.specs.Prelude.{◌≡◌, refl, take, get_or, Float, Ok, Err}
use Rattle.std.proofs.Common.{sym, ◌∙◌, arith, length-take-le}
use Rattle.std.proofs.Math.Path.{ap}
use mathlib.Core.List.{List}
use Prim.Native.Nat.{ℕ, ◌+◌, ◌*◌, ◌≤◌}
use Rattle.std.proofs.Math.ListN.{length}
use Rattle.std.proofs.Math.Seq.{sets, length-sets}
use Rattle.refusal.specs.declared.Refusal.{Refusal}
use Rattle.refusal.specs.Outcome.{Outcome, then}
use Rattle.refusal.specs.Laws.{stop, go}
use Rattle.room.specs.Rooms.{counts_at}
use Rattle.ended.specs.declared.Ended.{Ended}
use Rattle.ended.specs.Ends.{ended_of, written}
use Rattle.writer.specs.Rows.{row}
use Rattle.fused_answer.specs.Fused.{Drawn, body_bytes}
use Rattle.fused_answer.specs.Bodies.{bodies_at}
use Rattle.fused_answer.specs.Spots.{spots_from, spot_within, spot_stored}
use Rattle.fuse_list.specs.declared.Listing.{Listing}
use Rattle.fused_bytes.specs.Bytes.{spots_at, printed, print_at, Printable}

module _ (y : Listing) (d : List Float) (n : List ℕ) (p : List Float) (c s x z b spots : List ℕ) where
  abbrev f : ℕ
  f = y.layout.facets

  -- each facet's plane, cycle and points are there
  pub print_drawn : {out : List ℕ} (w : List ℕ) → Printable y d n p c s x z b spots out → w ≡ sets spots 0 (spots_from 0 (counts_at n 0 y.layout.facets)) →
      Drawn d w (take (3 * y.layout.points) p) (take y.layout.vertices c) (take (y.layout.facets + 1) s) y.layout.facets
  print_drawn w P e =
      let m : length (counts_at n 0 f) ≡ f = length-take-le f n P.counts in
      record {
        fine = P.rows;
        points = P.vertices;
        many = omega (arith, P.spotted, ap length e, length-sets spots 0 (spots_from 0 (counts_at n 0 f)));
        planes = λ i h. omega (arith, ap (λ l. get_or l i 0) e, spot_stored spots (counts_at n 0 f) i (omega (arith, m, P.spotted)) (omega (arith, m)), spot_within 0 (length d) (counts_at n 0 f) i P.within (omega (arith, m)));
      }

  pub print_fits : {out : List ℕ} (w : List ℕ) → Printable y d n p c s x z b spots out → w ≡ sets spots 0 (spots_from 0 (counts_at n 0 y.layout.facets)) →
      0 + length (row (body_bytes d w (take (3 * y.layout.points) p) (take y.layout.vertices c) (take (y.layout.facets + 1) s)) (bodies_at (take y.fused.facets x) z 0 0 (counts_at b 0 y.fused.bodies))) ≤ length out
  unfolding printed spots_at
  print_fits w P e = omega (arith, P.fits, ap (λ l. length (row (body_bytes d l (take (3 * y.layout.points) p) (take y.layout.vertices c) (take (y.layout.facets + 1) s)) (bodies_at (take y.fused.facets x) z 0 0 (counts_at b 0 y.fused.bodies)))) e)

module _ (r : Outcome Listing) (d : List Float) (n : List ℕ) (p : List Float) (c s x z b spots : List ℕ) (out₀ out : List ℕ) where
  pub print_refused : (e : Refusal) → r ≡ Err e →
      (record { verdict = Err e; bytes = 0 } ≡ ended_of (print_at r d n p c s x z b spots)) × (out₀ ≡ written (print_at r d n p c s x z b spots) out₀)
  unfolding print_at ended_of written
  print_refused e v =
      let o : print_at r d n p c s x z b spots ≡ Err e = stop r (λ y. Ok (printed y d n p c s x z b spots)) e v in
      (ap ended_of (sym o), ap (λ q. written q out₀) (sym o))

  pub print_made : (y : Listing) (w : List ℕ) (m : ℕ) → r ≡ Ok y → w ≡ sets spots 0 (spots_from 0 (counts_at n 0 y.layout.facets)) →
      m ≡ 0 + length (row (body_bytes d w (take (3 * y.layout.points) p) (take y.layout.vertices c) (take (y.layout.facets + 1) s)) (bodies_at (take y.fused.facets x) z 0 0 (counts_at b 0 y.fused.bodies))) →
      out ≡ sets out₀ 0 (row (body_bytes d w (take (3 * y.layout.points) p) (take y.layout.vertices c) (take (y.layout.facets + 1) s)) (bodies_at (take y.fused.facets x) z 0 0 (counts_at b 0 y.fused.bodies))) →
      (record { verdict = Ok tt; bytes = m } ≡ ended_of (print_at r d n p c s x z b spots)) × (out ≡ written (print_at r d n p c s x z b spots) out₀)
  unfolding print_at ended_of written printed spots_at
  print_made y w m v e g h =
      let t : List ℕ → List ℕ = λ l. row (body_bytes d l (take (3 * y.layout.points) p) (take y.layout.vertices c) (take (y.layout.facets + 1) s)) (bodies_at (take y.fused.facets x) z 0 0 (counts_at b 0 y.fused.bodies)) in
      let o : print_at r d n p c s x z b spots ≡ Ok (printed y d n p c s x z b spots) = go r (λ y. Ok (printed y d n p c s x z b spots)) y v in
      let q : m ≡ length (printed y d n p c s x z b spots) = omega (arith, g, ap (λ l. length (t l)) e) in
      (ap {B = Ended} (λ i. record { verdict = Ok tt; bytes = i }) q ∙ ap ended_of (sym o), h ∙ ap (λ i. sets out₀ 0 (t i)) e ∙ ap (λ i. written i out₀) (sym o))
