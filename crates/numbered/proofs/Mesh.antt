-- The mesh of a facet: up to 34.
use Rattle.std.specs.Prelude.{Bool, true, false, not, List, [], ◌∷◌, ℕ, zero, suc, ◌+◌, ◌-◌, length, ltb, Ok, Err, Some, None, Option}
use Rattle.refusal.specs.Outcome.{Outcome}
use Rattle.interval.specs.declared.Interval.{Interval}
use Rattle.interval.specs.declared.Sign.{Sign}
use Rattle.interval.specs.declared.Sign.TheVariants as S
use Rattle.space.specs.declared.Point3.{Point3}
use Rattle.space.specs.declared.Precision.{Precision}
use Rattle.space.specs.declared.Frame.{Frame}
use Rattle.space.specs.declared.Plane.{Plane}
use Rattle.space.specs.Shapes.{Face}
use Rattle.turns.specs.declared.Projected.{Projected}
use Rattle.turns.specs.declared.Turn.{Turn}
use Rattle.turns.specs.declared.Turn.TheVariants as T
use Rattle.turns.specs.Turns.{zero_where, turned, orientation_of}
use Rattle.outline.specs.Project.{handed, basis_of, shadow_by, projected_of}
use Rattle.simple.specs.Simple.{first_of, each_of, settled, apart, edges_by, edges_with, edges_of, next_of, pair_of, pair_at, simple_from, simple_of}
use Rattle.ears.specs.declared.Triangle.{Triangle}
use Rattle.ears.specs.declared.Block.{Block}
use Rattle.ears.specs.declared.Block.TheVariants as B
use Rattle.ears.specs.declared.Found.{Found}
use Rattle.ears.specs.declared.Found.TheVariants as F
use Rattle.ears.specs.Places.{window_at}
use Rattle.ears.specs.Ears.{turn_at, blocked_where, resolved, inside_by, inside_of, corner_of, block_in, block_at, or_else, blocked_by, ear_by, found_by, found_at, scan_from, scan_of}
use Rattle.mesh.specs.Mesh.{Clipping, clip_by, clip_one, clip_from, clip_all, first_three, end_by, end_of, begun, clipped_of, given, triangles_of, fair_facet, enough_on, mesh_on, mesh_of}
use Rattle.numbered.specs.Numbered.{among, among_more, Numbered, answer, number, Judged, fine, ruled, numbered_at, numbered_then, numbered_unless, numbered_each, judged_at}
use Rattle.numbered.proofs.Numbered.{judged_more}
use Rattle.numbered.specs.Mesh.{Turned, Blocked, Scanned}

-- ---- turns

zero_turned : (z : Bool) → Turned (zero_where z)
zero_turned true = tt
zero_turned false = among 33 33 tt tt

sign_turned : (s : Sign) (z : Bool) → Turned (turned s z)
unfolding turned
sign_turned S.Positive z = tt
sign_turned S.Negative z = tt
sign_turned S.Zero z = tt
sign_turned S.Unknown z = zero_turned z

turn_turned : (p : Precision) (a b c : Projected) → Turned (orientation_of p a b c)
unfolding orientation_of
turn_turned p a b c = sign_turned _ _

-- ---- corners in the plane

handed_judged : (s : Sign) → Judged 34 (handed s)
unfolding handed
handed_judged S.Positive = fine
handed_judged S.Negative = judged_at 34 tt tt
handed_judged S.Zero = judged_at 34 tt tt
handed_judged S.Unknown = judged_at 34 tt tt

basis_judged : (w : Plane) → Judged 34 (basis_of w)
unfolding basis_of
basis_judged w = handed_judged _

shadow_numbered : (f : Frame) (d n : List Interval) (x : Option Interval) → Numbered 34 (shadow_by f d n x)
unfolding shadow_by
shadow_numbered f d n (Some r) = answer _
shadow_numbered f d n None = numbered_at 34 tt tt

projected_numbered : (w : Plane) (q : Point3) → Numbered 34 (projected_of w q)
unfolding projected_of
projected_numbered w q = shadow_numbered _ _ _ _

-- ---- edges apart

first_judged : {n : ℕ} {v w : Outcome Unit} → Judged n v → Judged n w → Judged n (first_of v w)
unfolding first_of
first_judged fine y = y
first_judged (ruled r x) y = ruled r x

each_judged : {n : ℕ} (f : ℕ → Outcome Unit) → ((i : ℕ) → Judged n (f i)) → (i k : ℕ) → Judged n (each_of f i k)
unfolding each_of
each_judged f h i zero = fine
each_judged f h i (suc k) = first_judged (h i) (each_judged f h (suc i) k)

settled_judged : (x : Outcome Turn) → Turned x → Judged 33 (settled x)
unfolding settled
settled_judged (Ok T.Positive) w = fine
settled_judged (Ok T.Negative) w = fine
settled_judged (Ok T.Zero) w = fine
settled_judged (Err r) w = ruled r w

apart_judged : (b : Bool) → Judged 33 (apart b)
unfolding apart
apart_judged true = judged_at 30 tt tt
apart_judged false = fine

by_judged : (a b c d : Outcome Turn) (m : Bool) → Turned a → Turned b → Turned c → Turned d → Judged 33 (edges_by a b c d m)
unfolding edges_by
by_judged a b c d m x y z w = first_judged (settled_judged a x) (first_judged (settled_judged b y) (first_judged (settled_judged c z) (first_judged (settled_judged d w) (apart_judged m))))

edges_judged : (p : Precision) (a b c d : Projected) → Judged 33 (edges_of p a b c d)
unfolding edges_of edges_with
edges_judged p a b c d =
    by_judged (orientation_of p a b c) (orientation_of p a b d) (orientation_of p c d a) (orientation_of p c d b) _ (turn_turned p a b c) (turn_turned p a b d) (turn_turned p c d a) (turn_turned p c d b)

pair_judged : (next : Bool) (p : Precision) (a b c d : Projected) → Judged 33 (pair_of next p a b c d)
unfolding pair_of
pair_judged true p a b c d = fine
pair_judged false p a b c d = edges_judged p a b c d

simple_judged : (p : Precision) (ps : List Projected) → Judged 33 (simple_of p ps)
unfolding simple_of simple_from pair_at
simple_judged p ps = let n = length ps in each_judged (simple_from p ps n) (λ i. each_judged (pair_at p ps n i) (λ j. pair_judged (next_of n i j) p _ _ _ _) (i + 1) (n - (i + 1))) 0 n

-- ---- the scan for an ear

where_blocked : (b : Bool) → Blocked (blocked_where b)
unfolding blocked_where
where_blocked true = tt
where_blocked false = tt

resolved_blocked : (x : Outcome Turn) (b : Outcome Block) → Turned x → Blocked b → Blocked (resolved x b)
unfolding resolved
resolved_blocked (Ok T.Positive) b w h = h
resolved_blocked (Ok T.Negative) b w h = h
resolved_blocked (Ok T.Zero) b w h = h
resolved_blocked (Err r) b w h = w

by_blocked : (a b c : Outcome Turn) → Turned a → Turned b → Turned c → Blocked (inside_by a b c)
unfolding inside_by
by_blocked a b c x y z = resolved_blocked a _ x (resolved_blocked b _ y (resolved_blocked c _ z (where_blocked _)))

in_blocked : (own : Bool) (p : Precision) (a b c q : Projected) → Blocked (block_in own p a b c q)
unfolding block_in inside_of
in_blocked true p a b c q = tt
in_blocked false p a b c q = by_blocked (orientation_of p a b q) (orientation_of p b c q) (orientation_of p c a q) (turn_turned p a b q) (turn_turned p b c q) (turn_turned p c a q)

else_blocked : (a b : Outcome Block) → Blocked a → Blocked b → Blocked (or_else a b)
unfolding or_else
else_blocked (Ok B.Clear) b x y = y
else_blocked (Ok B.Blocked) b x y = tt
else_blocked (Err r) b x y = x

all_blocked : (p : Precision) (ps : List Projected) (w : Triangle) (l : List ℕ) → Blocked (blocked_by p ps w l)
unfolding blocked_by block_at
all_blocked p ps w [] = tt
all_blocked p ps w (q ∷ l) = else_blocked (block_at p ps w q) (blocked_by p ps w l) (in_blocked (corner_of w q) p _ _ _ _) (all_blocked p ps w l)

ear_scanned : (b : Outcome Block) (i : ℕ) (w : Triangle) (rest : Outcome Found) → Blocked b → Scanned rest → Scanned (ear_by b i w rest)
unfolding ear_by
ear_scanned (Ok B.Clear) i w rest x y = tt
ear_scanned (Ok B.Blocked) i w rest x y = y
ear_scanned (Err r) i w rest x y = x

found_scanned : (s : Outcome Turn) (b : Outcome Block) (i : ℕ) (w : Triangle) (rest : Outcome Found) → Turned s → Blocked b → Scanned rest → Scanned (found_by s b i w rest)
unfolding found_by
found_scanned (Ok T.Positive) b i w rest s x y = ear_scanned b i w rest x y
found_scanned (Ok T.Negative) b i w rest s x y = y
found_scanned (Ok T.Zero) b i w rest s x y = tt
found_scanned (Err r) b i w rest s x y = s

at_turned : (p : Precision) (ps : List Projected) (w : Triangle) → Turned (turn_at p ps w)
unfolding turn_at
at_turned p ps w = turn_turned p _ _ _

from_scanned : (p : Precision) (ps : List Projected) (l : List ℕ) (i k : ℕ) → Scanned (scan_from p ps l i k)
unfolding scan_from found_at
from_scanned p ps l i zero = tt
from_scanned p ps l i (suc k) =
    let w = window_at l i in
    found_scanned (turn_at p ps w) (blocked_by p ps w l) i w (scan_from p ps l (suc i) k) (at_turned p ps w) (all_blocked p ps w l) (from_scanned p ps l (suc i) k)

-- ---- the triangles

clip_by_numbered : (x : Outcome Found) (s : Clipping) → Scanned x → Numbered 34 (clip_by x s)
unfolding clip_by
clip_by_numbered (Ok (F.Ear i w)) s h = answer _
clip_by_numbered (Ok (F.Straight i)) s h = answer _
clip_by_numbered (Ok F.Nothing) s h = numbered_at 31 tt tt
clip_by_numbered (Err r) s h = number r (among_more 33 34 r tt h)

clip_from_numbered : (k : ℕ) (p : Precision) (ps : List Projected) (s : Clipping) → Numbered 34 (clip_from k p ps s)
unfolding clip_from clip_one scan_of
clip_from_numbered zero p ps s = answer s
clip_from_numbered (suc k) p ps s = numbered_then (clip_by_numbered _ s (from_scanned p ps s.left 0 (length s.left))) (clip_from_numbered k p ps)

end_by_numbered : (x : Outcome Turn) (l : List Triangle) (w : Triangle) → Turned x → Numbered 34 (end_by x l w)
unfolding end_by
end_by_numbered (Ok T.Positive) l w h = answer _
end_by_numbered (Ok T.Negative) l w h = numbered_at 32 tt tt
end_by_numbered (Ok T.Zero) l w h = numbered_at 32 tt tt
end_by_numbered (Err r) l w h = number r (among_more 33 34 r tt h)

clipped_numbered : (p : Precision) (ps : List Projected) → Numbered 34 (clipped_of p ps)
unfolding clipped_of clip_all end_of
clipped_numbered p ps = numbered_then (clip_from_numbered _ p ps (begun (length ps))) (λ s. end_by_numbered (turn_at p ps (first_three s.left)) s.ears _ (at_turned p ps (first_three s.left)))

given_numbered : {A : Type 0} {n : ℕ} {v : Outcome Unit} {o : Outcome A} → Judged n v → Numbered n o → Numbered n (given v o)
unfolding given
given_numbered fine w = w
given_numbered (ruled r x) w = number r x

triangles_numbered : (p : Precision) (ps : List Projected) → Numbered 34 (triangles_of p ps)
unfolding triangles_of
triangles_numbered p ps = given_numbered (judged_more tt (simple_judged p ps)) (clipped_numbered p ps)

pub triangles_of_numbered : (p : Precision) (f : Face) → Numbered 34 (mesh_of p f)
unfolding mesh_of mesh_on enough_on
triangles_of_numbered p f =
    numbered_unless (ltb 128 (length f.points)) 12 tt tt
    (numbered_unless (not (fair_facet p f)) 2 tt tt
    (given_numbered (basis_judged f.plane)
    (numbered_unless (ltb (length f.points) 3) 3 tt tt
    (numbered_then (numbered_each (projected_of f.plane) (projected_numbered f.plane) [] f.points) (triangles_numbered p)))))
