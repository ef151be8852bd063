-- What each call tells, in the words of the code.
use Rattle.std.specs.Prelude.{Ok, Err, Some, None}
use mathlib.Core.Path.{◌≡◌, refl, sym, ap, ◌∙◌, subst}
use mathlib.Core.Bool.{Bool, true, false, not, ◌&&◌}
use mathlib.Core.List.{List, []}
use Prim.Native.Nat.{ℕ, ◌+◌, ◌*◌, ◌/◌, ◌≤◌}
use native.Mathlib.Omega.{arith}
use lib.ListN.{length, set}
use lib.Seq.{sets}
use lib.Dec.{leb}
use lib.Ieee.{Float}
use borrow.Author.Tests.{leb-true}
use Rattle.refusal.specs.Outcome.{Outcome, unless, number_of}
use Rattle.refusal.specs.Tests.{and_true}
use Rattle.space.specs.declared.Point3.{Point3}
use Rattle.space.specs.declared.Plane.{Plane}
use Rattle.space.specs.declared.Precision.{Precision}
use Rattle.space.specs.Shapes.{Cell, Part, corners}
use Rattle.polygon.specs.declared.Polygon.{Polygon}
use Rattle.polygon.specs.Polygons.{made}
use Rattle.polygon.specs.Memory.{floats_of, points_at}
use Rattle.polygon.specs.Unique.{unique}
use Rattle.polygon.specs.Laws.{corners_polygon}
use Rattle.room.specs.Rooms.{cell_floats, cell_counts}
use Rattle.hull.specs.Hull.{cap_of}
use Rattle.clip.specs.Cuts.{clip}
use Rattle.clip.specs.Clips.{Clipped, Space, Given, Hulls, told, number_of_clipped, Sized, Clips}
use Rattle.cut_leaves.specs.Lending.{corners_told, count_told, corners_put, count_put, Told, unique_fits, unique_lent, hull_fits, hull_lent, cell_fits, work_fits, place_fits, part_told, clipped_told, behind, clip_fits, Cut}
use Rattle.cut_leaves.proofs.Guards.{cell_lent}

-- ---- polygons

told_short : (o : Outcome (List Point3)) (d : List Float) (n : List ℕ) → Told (unless (not false) 64 o) 64 d n d n
unfolding number_of corners_told count_told
told_short o d n = record { number = refl; corners = refl; count = refl }

told_made : (o : Outcome (List Point3)) (m : Outcome Polygon) (r : ℕ) (d : List Float) (n : List ℕ) (d' : List Float) (n' : List ℕ) → m ≡ made o → r ≡ number_of m →
    d' ≡ corners_put d m → n' ≡ count_put n m → Told o r d n d' n'
unfolding made number_of corners_told count_told corners_put count_put
told_made (Ok l) m r d n d' n' e a b c = record {
  number = a ∙ ap number_of e;
  corners = b ∙ ap (corners_put d) e ∙ ap (λ x. sets d 0 (floats_of x)) (corners_polygon l);
  count = c ∙ ap (count_put n) e;
}
told_made (Err f) m r d n d' n' e a b c = record { number = a ∙ ap number_of e; corners = b ∙ ap (corners_put d) e; count = c ∙ ap (count_put n) e }

module _ (s d n : ℕ) (f : Bool) (fits : f ≡ unique_fits s d n) where
  pub unique_points : f ≡ true → s / 3 ≤ 128
  unfolding unique_fits
  unique_points e = leb-true (s / 3) 128 (and_true (leb (s / 3) 128) (leb 384 d && leb 1 n) (sym fits ∙ e)).0

  pub unique_places : f ≡ true → (384 ≤ d) × (1 ≤ n)
  unfolding unique_fits
  unique_places e =
      let r = (and_true (leb (s / 3) 128) (leb 384 d && leb 1 n) (sym fits ∙ e)).1 in
      (leb-true 384 d (and_true (leb 384 d) (leb 1 n) r).0, leb-true 1 n (and_true (leb 384 d) (leb 1 n) r).1)

module _ (t : Precision) (s d : List Float) (n : List ℕ) (f : Bool) (fits : f ≡ unique_fits (length s) (length d) (length n)) where
  pub unique_short : f ≡ false → Told (unique_lent t s (length d) (length n)) 64 d n d n
  unfolding unique_lent
  unique_short e = subst (λ b. Told (unless (not b) 64 (unique t (points_at s 0 (length s / 3)))) 64 d n d n) (sym e ∙ fits) (told_short (unique t (points_at s 0 (length s / 3))) d n)

  pub unique_done : (m : Outcome Polygon) (r : ℕ) (d' : List Float) (n' : List ℕ) → f ≡ true → m ≡ made (unique t (points_at s 0 (length s / 3))) →
      r ≡ number_of m → d' ≡ corners_put d m → n' ≡ count_put n m →
      Told (unique_lent t s (length d) (length n)) r d n d' n'
  unfolding unique_lent
  unique_done m r d' n' e h a b c =
      subst (λ b. Told (unless (not b) 64 (unique t (points_at s 0 (length s / 3)))) r d n d' n') (sym e ∙ fits) (told_made _ m r d n d' n' h a b c)

module _ (points cap flat order chain d n : ℕ) (f : Bool) (fits : f ≡ hull_fits points cap flat order chain d n) where
  pub hull_work : f ≡ true → (3 * points ≤ cap) × (2 * points ≤ flat) × (points ≤ order) × (2 * points ≤ chain)
  unfolding hull_fits
  hull_work e =
      let points_front = leb points (cap / 3) && leb points (flat / 2) in
      let points_lists = leb points order && leb points (chain / 2) in
      let roomy = leb 384 d && leb 1 n in
      let first = (and_true points_front (points_lists && roomy) (sym fits ∙ e)).0 in
      let lists = (and_true points_lists roomy (and_true points_front (points_lists && roomy) (sym fits ∙ e)).1).0 in
      let a = leb-true points (cap / 3) (and_true (leb points (cap / 3)) (leb points (flat / 2)) first).0 in
      let b = leb-true points (flat / 2) (and_true (leb points (cap / 3)) (leb points (flat / 2)) first).1 in
      let c = leb-true points order (and_true (leb points order) (leb points (chain / 2)) lists).0 in
      let g = leb-true points (chain / 2) (and_true (leb points order) (leb points (chain / 2)) lists).1 in
      (omega (arith, a), omega (arith, b), c, omega (arith, g))

  pub hull_places : f ≡ true → (384 ≤ d) × (1 ≤ n)
  unfolding hull_fits
  hull_places e =
      let points_front = leb points (cap / 3) && leb points (flat / 2) in
      let points_lists = leb points order && leb points (chain / 2) in
      let roomy = leb 384 d && leb 1 n in
      let r = (and_true points_lists roomy (and_true points_front (points_lists && roomy) (sym fits ∙ e)).1).1 in
      (leb-true 384 d (and_true (leb 384 d) (leb 1 n) r).0, leb-true 1 n (and_true (leb 384 d) (leb 1 n) r).1)

module _ (t : Precision) (w : Plane) (cap : List Float) (points flat order chain : ℕ) (d : List Float) (n : List ℕ) (f : Bool)
    (fits : f ≡ hull_fits points (length cap) flat order chain (length d) (length n)) where
  pub hull_short : f ≡ false → Told (hull_lent t w cap points flat order chain (length d) (length n)) 64 d n d n
  unfolding hull_lent
  hull_short e = subst (λ b. Told (unless (not b) 64 (cap_of t w (points_at cap 0 points))) 64 d n d n) (sym e ∙ fits) (told_short (cap_of t w (points_at cap 0 points)) d n)

  pub hull_done : (v : Plane) (m : Outcome Polygon) (r : ℕ) (d' : List Float) (n' : List ℕ) → f ≡ true → v ≡ w → m ≡ made (cap_of t v (points_at cap 0 points)) →
      r ≡ number_of m → d' ≡ corners_put d m → n' ≡ count_put n m →
      Told (hull_lent t w cap points flat order chain (length d) (length n)) r d n d' n'
  unfolding hull_lent
  hull_done v m r d' n' e g h a b c =
      let is = h ∙ ap (λ x. made (cap_of t x (points_at cap 0 points))) g in
      subst (λ b. Told (unless (not b) 64 (cap_of t w (points_at cap 0 points))) r d n d' n') (sym e ∙ fits) (told_made (cap_of t w (points_at cap 0 points)) m r d n d' n' is a b c)

-- ---- cells

module _ (o : Outcome Part) (d : List Float) (at : ℕ) (n : List ℕ) (k : ℕ) (s : List ℕ) where
  cut_short : Cut false o 64 d at n k s d n s
  unfolding behind number_of part_told cell_floats cell_counts
  cut_short = record { cell = []; is = refl; number = refl; floats = refl; counts = refl; tells = refl }

  cut_done : (c : Outcome Clipped) (r : ℕ) (d' : List Float) (n' s' : List ℕ) → Clips o c d at n k d' n' → r ≡ number_of_clipped c → s' ≡ clipped_told s c → Cut true o r d at n k s d' n' s'
  unfolding told number_of_clipped Sized clipped_told behind number_of part_told
  cut_done (Ok None) r d' n' s' w a b = record {
    cell = w.cell;
    is = subst (λ x. behind true x w.cell) w.is w.sized;
    number = a ∙ ap number_of w.is;
    floats = w.floats;
    counts = w.counts;
    tells = b ∙ ap (part_told s) w.is;
  }
  cut_done (Ok (Some v)) r d' n' s' w a b = record {
    cell = w.cell;
    is = subst (λ x. behind true x w.cell) w.is refl;
    number = a ∙ ap number_of w.is;
    floats = w.floats;
    counts = w.counts;
    tells = b ∙ ap (λ x. set (set s 0 x) 1 v.corners) w.sized.0 ∙ ap (λ x. set (set s 0 (length w.cell)) 1 x) w.sized.1 ∙ ap (part_told s) w.is;
  }
  cut_done (Err e) r d' n' s' w a b = record {
    cell = w.cell;
    is = subst (λ x. behind true x w.cell) w.is tt;
    number = a ∙ ap number_of w.is;
    floats = w.floats;
    counts = w.counts;
    tells = b ∙ ap (part_told s) w.is;
  }

pub clip_told : (limit d at n k s : ℕ) (cf wf pf : Bool) → pf ≡ place_fits limit d at n k s → (cf && (wf && pf)) ≡ true → 2 ≤ s
unfolding place_fits
clip_told limit d at n k s cf wf pf ep e =
    let slots = leb (k + 128) n in
    let p = sym ep ∙ (and_true wf pf (and_true cf (wf && pf) e).1).1 in
    leb-true 2 s (and_true slots (leb 2 s) (and_true (leb (at + 1664 + 3 * limit) d) (slots && leb 2 s) p).1).1

module _ (limit : ℕ) (src : List Float) (from : ℕ) (ns : List ℕ) (j faces : ℕ) (d : List Float) (at : ℕ) (n : List ℕ) (k : ℕ)
    (face cap flat : List Float) (order chain s : List ℕ) (cf wf pf : Bool)
    (ec : cf ≡ cell_fits (length src) from ns j faces) (ew : wf ≡ work_fits (length face) (length cap) (length flat) (length order) (length chain))
    (ep : pf ≡ place_fits limit (length d) at (length n) k (length s)) where
  abbrev fits : Bool
  fits = clip_fits limit (length src) from ns j faces (length d) at (length n) k (length face) (length cap) (length flat) (length order) (length chain) (length s)

  fits_is : (cf && (wf && pf)) ≡ fits
  unfolding clip_fits
  fits_is = ap (λ x. x && (wf && pf)) ec ∙ ap (λ x. cell_fits (length src) from ns j faces && (x && pf)) ew
      ∙ ap (λ x. cell_fits (length src) from ns j faces && (work_fits (length face) (length cap) (length flat) (length order) (length chain) && x)) ep

  pub clip_short : (o : Outcome Part) → (cf && (wf && pf)) ≡ false → Cut fits o 64 d at n k s d n s
  clip_short o e = subst (λ b. Cut b o 64 d at n k s d n s) (sym e ∙ fits_is) (cut_short o d at n k s)

  pub clip_done : (t : Precision) (w v : Plane) (l : Cell) (c : Outcome Clipped) (r : ℕ) (d' : List Float) (n' s' : List ℕ) → (cf && (wf && pf)) ≡ true → v ≡ w →
      Clips (clip t limit v l) c d at n k d' n' → r ≡ number_of_clipped c → s' ≡ clipped_told s c → Cut fits (clip t limit w l) r d at n k s d' n' s'
  clip_done t w v l c r d' n' s' e g h a b =
      let cut = subst (λ x. Clips (clip t limit x l) c d at n k d' n') g h in
      subst (λ b. Cut b (clip t limit w l) r d at n k s d' n' s') (sym e ∙ fits_is) (cut_done (clip t limit w l) d at n k s c r d' n' s' cut a b)

  -- the three tests
  given_yes : (cf && (wf && pf)) ≡ true → cell_fits (length src) from ns j faces ≡ true
  given_yes e = sym ec ∙ (and_true cf (wf && pf) e).0

  work_yes : (cf && (wf && pf)) ≡ true → work_fits (length face) (length cap) (length flat) (length order) (length chain) ≡ true
  work_yes e = sym ew ∙ (and_true wf pf (and_true cf (wf && pf) e).1).0

  place_yes : (cf && (wf && pf)) ≡ true → place_fits limit (length d) at (length n) k (length s) ≡ true
  place_yes e = sym ep ∙ (and_true wf pf (and_true cf (wf && pf) e).1).1

  abbrev place : Bool
  place = leb (at + 1664 + 3 * limit) (length d)

  abbrev slots : Bool
  slots = leb (k + 128) (length n)

  space_lent : (cf && (wf && pf)) ≡ true → Space limit face cap d at n k
  unfolding work_fits place_fits
  space_lent e =
      let front = leb 384 (length face) && leb 3072 (length cap) in
      let w = (and_true front ((leb 2048 (length flat) && leb 1024 (length order)) && leb 2048 (length chain)) (work_yes e)).0 in
      let more = (and_true place (slots && leb 2 (length s)) (place_yes e)).1 in
      record {
        face_fits = leb-true 384 (length face) (and_true (leb 384 (length face)) (leb 3072 (length cap)) w).0;
        cap_fits = leb-true 3072 (length cap) (and_true (leb 384 (length face)) (leb 3072 (length cap)) w).1;
        place = leb-true (at + 1664 + 3 * limit) (length d) (and_true place (slots && leb 2 (length s)) (place_yes e)).0;
        slots = leb-true (k + 128) (length n) (and_true slots (leb 2 (length s)) more).0;
      }

  hulls_lent : (cf && (wf && pf)) ≡ true → Hulls flat order chain
  unfolding work_fits
  hulls_lent e =
      let lists = leb 2048 (length flat) && leb 1024 (length order) in
      let back = (and_true (leb 384 (length face) && leb 3072 (length cap)) (lists && leb 2048 (length chain)) (work_yes e)).1 in
      let both = (and_true lists (leb 2048 (length chain)) back).0 in
      record {
        flat_fits = leb-true 2048 (length flat) (and_true (leb 2048 (length flat)) (leb 1024 (length order)) both).0;
        order_fits = leb-true 1024 (length order) (and_true (leb 2048 (length flat)) (leb 1024 (length order)) both).1;
        chain_fits = leb-true 2048 (length chain) (and_true lists (leb 2048 (length chain)) back).1;
      }

  pub clip_lent : (cf && (wf && pf)) ≡ true → Given src from ns j faces × Space limit face cap d at n k × Hulls flat order chain
  clip_lent e =
      let g = cell_lent (length src) from ns j faces (given_yes e) in
      (record { listed = g.listed; within = g.within }, space_lent e, hulls_lent e)
