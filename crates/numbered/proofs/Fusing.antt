-- An arrangement: up to 17; fusing: up to 23.
use Rattle.std.specs.Prelude.{Bool, true, false, cond, ◌||◌, ℕ, ◌+◌, length, ltb, Ok, Err, Some, None, Option}
use Rattle.std.proofs.Math.Bool.{not}
use mathlib.Core.List.{List, [], ◌∷◌, map}
use Rattle.std.proofs.Math.Dec.{eqb}
use Rattle.refusal.specs.Outcome.{Outcome}
use Rattle.lists.specs.Walks.{numbered, cyclic}
use Rattle.interval.specs.declared.Interval.{Interval}
use Rattle.interval.specs.declared.Sign.{Sign}
use Rattle.interval.specs.declared.Sign.TheVariants as S
use Rattle.space.specs.declared.Point3.{Point3}
use Rattle.space.specs.declared.Precision.{Precision}
use Rattle.space.specs.Shapes.{Cell}
use Rattle.indexed.specs.Stored.{flat}
use Rattle.incidence.specs.declared.Line.{Line}
use Rattle.incidence.specs.Incidence.{is_collapsed, judged, beside, is_behind_start, is_before_end, before_end, incidence_on, incidence_of}
use Rattle.insertion.specs.Insertion.{Inside, in_order}
use Rattle.inside.specs.Edges.{unless_end, joined, inside_one, insides, in_line, inside_edge}
use Rattle.conform.specs.Conform.{conform_edge, conform}
use Rattle.arrange.specs.Arrange.{add_cycle, conform_face, conform_all, arrange}
use Rattle.arrangement.specs.Arrangements.{faces_of, Arrangement, arrange_cells}
use Rattle.bodies.specs.Fusing.{Facet, cell_of, vertices_of, same_cycle, judge_users, check_facets, Run, rises, run_at, judge_edge, check_edges, Sense, outward, inward, Shells, place_outer, place_by, place_shell, order_shells, body_of, fuse}
use Rattle.volume.specs.Volume.{sense_of, volume_sign}
use Rattle.fused.specs.Bodies.{facets_in, volume_in, fuse_in, fuse_cells}
use Rattle.numbered.specs.Numbered.{among, among_more, Numbered, answer, number, numbered_at, numbered_then, numbered_unless, numbered_walk, numbered_each}
use Rattle.numbered.proofs.Numbered.{numbered_more}
use Rattle.numbered.proofs.Points.{merge_numbered}
use Rattle.numbered.specs.Fusing.{Incident, first_numbered}

-- ---- a point against an edge

judged_incident : (s : Sign) (w : Interval) → Incident (judged s w)
unfolding judged
judged_incident S.Positive w = tt
judged_incident S.Negative w = tt
judged_incident S.Zero w = tt
judged_incident S.Unknown w = among 16 16 tt tt

either_incident : (b : Bool) (x : Outcome (Option Interval)) → Incident x → Incident (cond b x (Ok None))
either_incident true x w = w
either_incident false x w = tt

on_incident : (e : Line) (d : List Interval) (w : Interval) → Incident (incidence_on e d w)
unfolding incidence_on before_end beside
on_incident e d w = either_incident (is_behind_start e w) (before_end e d w) (either_incident (is_before_end e w) (beside e d w) (judged_incident _ w))

of_incident : (e : Line) (q : Point3) → Incident (incidence_of e q)
unfolding incidence_of
of_incident e q = on_incident e _ _

end_incident : (b : Bool) (x : Outcome (Option Interval)) → Incident x → Incident (unless_end b x)
end_incident true x w = tt
end_incident false x w = w

-- ---- the vertices inside an edge

joined_numbered : (x : Outcome (Option Interval)) (l : List Inside) (k : ℕ) → Incident x → Numbered 17 (joined x l k)
unfolding joined
joined_numbered (Ok None) l k w = answer l
joined_numbered (Ok (Some v)) l k w = answer _
joined_numbered (Err r) l k w = number r (among_more 16 17 r tt w)

insides_numbered : (e : Line) (i j : ℕ) (ps : List Point3) → Numbered 17 (insides e i j ps)
unfolding insides inside_one
insides_numbered e i j ps =
    numbered_walk (inside_one e i j) (λ l q.
    let b = eqb q.place i || eqb q.place j in
    joined_numbered (unless_end b (incidence_of e q.it)) l q.place (end_incident b (incidence_of e q.it) (of_incident e q.it))) [] (numbered 0 ps)

line_numbered : (t : Precision) (e : Line) (i j : ℕ) (ps : List Point3) → Numbered 17 (in_line t e i j ps)
unfolding in_line
line_numbered t e i j ps = numbered_unless (is_collapsed t e) 15 tt tt (insides_numbered e i j ps)

edge_numbered : (t : Precision) (ps : List Point3) (i j : ℕ) → Numbered 17 (inside_edge t ps i j)
unfolding inside_edge
edge_numbered t ps i j = numbered_then (line_numbered t _ i j ps) (λ l. numbered_unless (not (in_order (map (λ q. q.along) l))) 17 tt tt (answer _))

-- ---- the arrangement

conform_numbered : (t : Precision) (ps : List Point3) (f : List ℕ) → Numbered 17 (conform t ps f)
unfolding conform conform_edge
conform_numbered t ps f = numbered_walk (conform_edge t ps) (λ out e. numbered_then (edge_numbered t ps e.from e.to) (λ ks. answer _)) [] (cyclic f)

cycle_numbered : (room : ℕ) (fs : List (List ℕ)) (f : List ℕ) → Numbered 17 (add_cycle room fs f)
unfolding add_cycle
cycle_numbered room fs f = numbered_then (numbered_unless (ltb room (length (flat fs) + length f)) 12 tt tt (answer _)) (λ _. answer _)

conform_all_numbered : (t : Precision) (room : ℕ) (ps : List Point3) (l : List (List ℕ)) → Numbered 17 (conform_all t room ps l)
unfolding conform_all conform_face
conform_all_numbered t room ps l = numbered_walk (conform_face t room ps) (λ fs f. numbered_then (conform_numbered t ps f) (cycle_numbered room fs)) [] l

arrange_numbered : (t : Precision) (room : ℕ) (c : Cell) → Numbered 17 (arrange t room c)
unfolding arrange
arrange_numbered t room c = numbered_then (numbered_more tt (merge_numbered t c)) (λ s. numbered_then (conform_all_numbered t room s.points s.faces) (λ fs. answer _))

pub arrangement_numbered : (t : Precision) (room : ℕ) (cs : List Cell) → Numbered 17 (arrange_cells t room cs)
unfolding arrange_cells
arrangement_numbered t room cs = numbered_then (arrange_numbered t room (faces_of cs)) (λ s. answer _)

-- ---- facets and edges

module _ (fs : List Facet) where
  users_numbered : (l : List ℕ) → Numbered 23 (judge_users fs l)
  unfolding judge_users
  users_numbered [] = answer tt
  users_numbered (a ∷ []) = answer tt
  users_numbered (a ∷ b ∷ []) = numbered_unless (eqb (cell_of fs a) (cell_of fs b) || not (same_cycle (vertices_of fs a) (vertices_of fs b))) 18 tt tt (answer tt)
  users_numbered (a ∷ b ∷ c ∷ l) = numbered_at 19 tt tt

  facets_numbered : Numbered 23 (check_facets fs)
  unfolding check_facets
  facets_numbered = numbered_walk _ (λ _ i. users_numbered _) tt _

module _ (rs : List Run) where
  runs_numbered : (l : List ℕ) → Numbered 23 (judge_edge rs l)
  unfolding judge_edge
  runs_numbered [] = numbered_at 20 tt tt
  runs_numbered (x ∷ []) = numbered_at 20 tt tt
  runs_numbered (x ∷ y ∷ []) = numbered_unless (eqb (run_at rs x).face (run_at rs y).face || eqb (rises (run_at rs x)) (rises (run_at rs y))) 20 tt tt (answer tt)
  runs_numbered (x ∷ y ∷ z ∷ l) = numbered_at 20 tt tt

  edges_numbered : Numbered 23 (check_edges rs)
  unfolding check_edges
  edges_numbered = numbered_walk _ (λ _ x. runs_numbered _) tt _

-- ---- shells and bodies

outer_numbered : (outer inner : List (List ℕ)) (g : List ℕ) → Numbered 23 (place_outer outer inner g)
unfolding place_outer
outer_numbered [] inner g = answer _
outer_numbered (o ∷ os) inner g = numbered_at 22 tt tt

by_numbered : (s : Shells) (g : List ℕ) (x : Sense) → Numbered 23 (place_by s g x)
unfolding place_by
by_numbered s g outward = outer_numbered s.outer s.inner g
by_numbered s g inward = answer _

module _ (volume : List ℕ → Outcome Sense) (h : (g : List ℕ) → Numbered 23 (volume g)) where
  shells_numbered : (gs : List (List ℕ)) → Numbered 23 (order_shells volume gs)
  unfolding order_shells place_shell
  shells_numbered gs = numbered_then (numbered_walk (place_shell volume) (λ s g. numbered_then (h g) (by_numbered s g)) _ gs) (λ s. first_numbered s.outer s.inner)

  body_numbered : (fs : List Facet) (c : List ℕ) → Numbered 23 (body_of volume fs c)
  unfolding body_of
  body_numbered fs c = numbered_then (edges_numbered _) (λ _. shells_numbered _)

  bodies_numbered : (fs : List Facet) (n : ℕ) → Numbered 23 (fuse volume fs n)
  unfolding fuse
  bodies_numbered fs n = numbered_then (facets_numbered fs) (λ _. numbered_each (body_of volume fs) (body_numbered fs) [] _)

sense_numbered : (s : Sign) → Numbered 23 (sense_of s)
unfolding sense_of
sense_numbered S.Positive = answer outward
sense_numbered S.Negative = answer inward
sense_numbered S.Zero = numbered_at 21 tt tt
sense_numbered S.Unknown = numbered_at 21 tt tt

volume_numbered : (a : Arrangement) (g : List ℕ) → Numbered 23 (volume_in a g)
unfolding volume_in volume_sign
volume_numbered a g = sense_numbered _

fuse_in_numbered : (a : Arrangement) (n : ℕ) → Numbered 23 (fuse_in a n)
unfolding fuse_in
fuse_in_numbered a n = bodies_numbered (volume_in a) (volume_numbered a) (facets_in a) n

pub fused_numbered : (t : Precision) (room : ℕ) (cs : List Cell) → Numbered 23 (fuse_cells t room cs)
unfolding fuse_cells
fused_numbered t room cs = numbered_then (numbered_more tt (arrangement_numbered t room cs)) (λ a. numbered_then (fuse_in_numbered a (length cs)) (λ bs. answer _))
