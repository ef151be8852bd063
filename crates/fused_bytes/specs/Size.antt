-- A fused answer has at most 64 bytes for each corner of the room.
use Rattle.std.specs.Prelude.{◌≡◌, refl, ℕ, ◌+◌, ◌*◌, ◌≤◌, ◌<◌, get_or, Ok}
use Rattle.std.proofs.Common.{sym, ◌∙◌}
use Rattle.std.proofs.Math.Path.{ap, subst}
use mathlib.Core.List.{List, [], ◌∷◌, ◌++◌, map}
use native.Mathlib.Omega.{arith}
use Rattle.std.proofs.Math.ListN.{length, length-append, length-map}
use Rattle.refusal.specs.Laws.{same_ok, then_ok}
use Rattle.space.specs.declared.Precision.{Precision}
use Rattle.space.specs.Shapes.{Face, Cell}
use Rattle.words.specs.Little.{digits}
use Rattle.polygon.specs.Members.{All, all_append}
use Rattle.clip.specs.Clips.{Wide}
use Rattle.sums.specs.Sum.{sum, hit, pick, full, Each, pick_le}
use Rattle.sums.specs.Keys.{users}
use Rattle.sums.proofs.KeyLaws.{sum_lone, full_le, full_ext, each_imp, each_get_d}
use Rattle.groups.specs.Groups.{bounds}
use Rattle.indexed.specs.Stored.{flat}
use Rattle.writer.specs.Rows.{row}
use Rattle.answer.specs.Answers.{facet_answer, shell_answer}
use Rattle.answer.specs.Laws.{length_count, length_facet}
use Rattle.bodies.specs.Fusing.{Facet, Bodies, keys}
use Rattle.bodies.specs.ListLaws.{Valid}
use Rattle.bodies.proofs.ListLaws.{size, answered, listed_weight}
use Rattle.bodies.specs.Full.{Full}
use Rattle.parts.specs.Cells.{valid_cells}
use Rattle.interfaces.specs.Facets.{many_facets}
use Rattle.arrange.specs.Arrange.{arrange}
use Rattle.arrangement.specs.Arrangements.{faces_of, Arrangement, arrange_cells}
use Rattle.arrangement.specs.Conforming.{Conforms, arranged}
use Rattle.arrangement.specs.Facts.{arrangement_owned}
use Rattle.fused.specs.Bodies.{facets_in, corners_in, volume_in, fuse_in, facet_in, fuse_cells}
use Rattle.fused.specs.Laws.{facets_are}
use Rattle.fused.specs.Theorem.{Fusion, fusion}
use Rattle.fused_bytes.specs.Bytes.{shells_answer, body_answer, fused_answer}

-- ---- the bytes of bodies by their facets' places: each body has a shell, each shell a facet, each facet three corners

module _ (g : ℕ → Face) where
  abbrev many : ℕ → ℕ
  many i = length (g i).points

  abbrev Three : ℕ → Type 0
  Three i = 3 ≤ many i

  facets_fit : (l : List ℕ) → Each Three l → length (row facet_answer (map g l)) + 9 * length l ≤ 64 * sum many l
  unfolding row sum
  facets_fit [] e = omega arith
  facets_fit (i ∷ l) e = omega (arith, e.0, facets_fit l e.1, length_facet (g i), length-append (facet_answer (g i)) (row facet_answer (map g l)))

  shells_fit : (s : ℕ) (b : List (List ℕ)) → Each (λ l. 0 < length l) b → Each (Each Three) b → length (shells_answer s (map (map g) b)) + 4 * length b ≤ 64 * sum (sum many) b
  unfolding shells_answer shell_answer sum
  shells_fit s [] h e = omega arith
  shells_fit s (l ∷ b) h e =
      let d = digits 4 (length (map g l)) in
      let r = row facet_answer (map g l) in
      omega (arith, h.0, facets_fit l e.0, shells_fit 0 b h.1 e.1, length-append (d ++ r) (shells_answer 0 (map (map g) b)), length-append d r, length_count (length (map g l)))

  bodies_fit : (bs : Bodies) → Each Full bs → Each (Each (Each Three)) bs → length (fused_answer (map (map (map g)) bs)) ≤ 64 * sum (sum (sum many)) bs
  unfolding fused_answer body_answer row sum
  bodies_fit [] h e = omega arith
  bodies_fit (b ∷ bs) h e =
      let d = digits 4 (length (map (map g) b)) in
      let s = shells_answer 1 (map (map g) b) in
      omega (arith, h.0.some, shells_fit 1 b h.0.each e.0, bodies_fit bs h.1 e.1, length-append (d ++ s) (row body_answer (map (map (map g)) bs)), length-append d s, length_count (length (map (map g) b)))

-- ---- lists

each_of : {A : Type 0} (P : A → Type 0) (l : List A) → All P l → Each P l
unfolding All
each_of P [] a = tt
each_of P (x ∷ l) a = (a.0, each_of P l a.1)

full_flat : (cs : List (List ℕ)) → full (λ i. length (get_or cs i [])) (length cs) ≡ length (flat cs)
unfolding full flat
full_flat [] = refl
full_flat (c ∷ cs) = omega (arith, full_flat cs, length-append c (flat cs))

faces_wide : (cs : List Cell) → All Wide cs → Wide (faces_of cs)
unfolding All faces_of
faces_wide [] a = tt
faces_wide (c ∷ cs) a = all_append (λ f. 3 ≤ length f.points) c (faces_of cs) a.0 (faces_wide cs a.1)

-- ---- an answer of fusing

module _ (t : Precision) (room : ℕ) (cs : List Cell) (out : List (List (List Face))) (e : fuse_cells t room cs ≡ Ok out) (wide : All Wide cs) where
  F : Fusion t room cs out
  F = fusion t room cs out e

  abbrev a : Arrangement
  a = F.arrangement

  abbrev bs : Bodies
  bs = F.bodies

  abbrev fs : List Facet
  fs = facets_in a

  -- each cycle has three vertices or more, and all of them fit the room
  conforms : Conforms (length a.points) room a.cycles
  unfolding arrange_cells
  conforms =
      let z = then_ok (arrange t room (faces_of cs)) _ a F.arranged in
      subst (λ x. Conforms (length x.points) room x.cycles) (same_ok z.2) (arranged t room (faces_of cs) z.0 z.1 (faces_wide cs wide)).0

  valid : Valid fs (length cs)
  valid =
      let o = arrangement_owned t room cs a F.arranged in
      subst (λ l. Valid l (length cs)) (facets_are a)
      (valid_cells (flat a.cycles) (bounds 0 a.cycles) a.owners (length a.cycles) (length cs) (λ i h. each_get_d (λ x. x < length cs) a.owners 0 i (each_of _ a.owners o.1) (omega (arith, o.0))))

  facets_many : length fs ≡ length a.cycles
  facets_many = ap length (sym (facets_are a)) ∙ many_facets (flat a.cycles) (bounds 0 a.cycles) a.owners (length a.cycles)

  -- the corners of a facet are its cycle's
  abbrev drawn : ℕ → Face
  drawn = facet_in a (faces_of cs)

  corners_are : (i : ℕ) → many drawn i ≡ length (get_or a.cycles i [])
  unfolding facet_in corners_in
  corners_are i = length-map (get_or a.cycles i []) _

  three : (i : ℕ) → i < length fs → Three drawn i
  three i h = omega (arith, corners_are i, each_get_d (λ c. 3 ≤ length c) a.cycles [] i (each_of _ a.cycles conforms.wide) (omega (arith, facets_many)))

  threes : Each (Each (Each (Three drawn))) bs
  threes =
      let Known : ℕ → Type 0 = λ i. i < length fs in
      each_imp (Each (Each Known)) (Each (Each (Three drawn))) bs (λ b. each_imp (Each Known) (Each (Three drawn)) b (λ l. each_imp Known (Three drawn) l three)) F.demands.inside

  -- those of the listed facets are among those of all
  corners_few : sum (sum (sum (many drawn))) bs ≤ room
  unfolding fuse_in
  corners_few =
      let ks = keys fs in
      let z : full (λ i. pick (hit 1 (length (users ks i))) (many drawn i)) (length ks) ≤ full (many drawn) (length ks) = full_le _ (many drawn) (length ks) (λ i h. pick_le (hit 1 (length (users ks i))) (many drawn i)) in
      let q : full (many drawn) (length ks) ≡ full (λ i. length (get_or a.cycles i [])) (length a.cycles) = full_ext (many drawn) _ (length ks) (λ i h. corners_are i) ∙ ap (full (λ i. length (get_or a.cycles i []))) (size fs ∙ facets_many) in
      omega (arith, listed_weight (volume_in a) fs (length cs) bs valid (answered (volume_in a) fs (length cs) bs F.fused) (many drawn), sum_lone (many drawn) ks, z, q, full_flat a.cycles, conforms.fit)

  pub cells_short : length (fused_answer out) ≤ 64 * room
  cells_short =
      omega (
        arith,
        ap (λ l. length (fused_answer l)) F.drawn,
        bodies_fit drawn bs F.demands.full threes,
        corners_few,
      )
