-- What the check does not find alone: a span read whole, a facet's points, and a point within the bytes and past them.
use mathlib.Core.Path.{◌≡◌, sym, ap, ◌∙◌}
use mathlib.Core.Bool.{Bool, true}
use mathlib.Core.List.{List}
use Prim.Native.Nat.{ℕ, ◌+◌, ◌*◌, ◌-◌, ◌/◌, ◌≤◌, ◌<◌}
use native.Mathlib.Omega.{arith}
use lib.ListN.{length, take, drop, length-drop, drop_of_length-le}
use lib.Seq.{take_all}
use Rattle.refusal.specs.Outcome.{Outcome}
use Rattle.refusal.specs.Tests.{and_true}
use Rattle.job.specs.declared.Faces.{Faces}
use Rattle.job.specs.declared.Span.{Span}
use Rattle.job.specs.Records.{standing, run_of, faces_of, span_end, span_faces, span_points, span_of}
use Rattle.job.specs.Read.{headed, facet_headed, point_from, point_at}
use Rattle.job.specs.Runs.{run_in}
use Rattle.job.specs.Sound.{head_short}

pub span_all : (l : List ℕ) (at n : ℕ) (f : Faces) (o : Outcome Span) → n ≡ run_of 2 24 (drop at l) → f ≡ faces_of (drop (at + 25 * n) l)
    → o ≡ span_end l at n (at + 25 * n) f (at + 25 * n + f.faces + 3 * f.corners) → o ≡ span_of l at
unfolding span_faces span_points span_of
span_all l at n f o e g q =
    q ∙ ap (λ x. span_faces l at n (at + 25 * n) x) g ∙ ap (λ k. span_points l at k (at + 25 * k)) e

pub facet_points : (l : List ℕ) (t : Bool) (n : ℕ) → t ≡ facet_headed l → t ≡ true → n ≡ run_of 2 24 (drop 114 l) → n < 65536
unfolding facet_headed
facet_points l t n e h q =
    omega (arith, head_short l (and_true (headed l) (standing 9 96 (drop 17 l)) (sym e ∙ h)).0, run_in l 114 2 24 n q)

pub point_none : (l : List ℕ) (start i : ℕ) → length l ≤ start → point_from (take 0 l) ≡ point_at l start i
unfolding point_at
point_none l start i h = let k : length l ≤ start + 25 * i = omega arith in ap point_from (sym (drop_of_length-le l k))

pub point_past : (l : List ℕ) (start i : ℕ) → start < length l → (length l - start) / 25 < i → point_from (take 0 l) ≡ point_at l start i
unfolding point_at
point_past l start i h k = let m : length l ≤ start + 25 * i = omega arith in ap point_from (sym (drop_of_length-le l m))

pub point_here : (l : List ℕ) (start i : ℕ) → point_from (take (length l - (start + 25 * i)) (drop (start + 25 * i) l)) ≡ point_at l start i
unfolding point_at
point_here l start i =
    let m : length (drop (start + 25 * i) l) ≤ length l - (start + 25 * i) = omega (arith, length-drop (start + 25 * i) l) in
    ap point_from (take_all (length l - (start + 25 * i)) (drop (start + 25 * i) l) m)
