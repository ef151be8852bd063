-- What is printed of fused bodies: each count is the length of its list.
use Rattle.std.specs.Prelude.{◌≡◌, refl, List, [], ◌∷◌, ◌++◌, ℕ, suc, ◌+◌, ◌-◌, ◌*◌, ◌≤◌, ◌<◌, length, drop}
use Rattle.std.proofs.Common.{sym, ap, ◌∙◌, append_assoc, arith, length-append, drop_at}
use Rattle.space.specs.Shapes.{Face}
use Rattle.words.specs.Little.{digits}
use Rattle.job.specs.Written.{point_bytes}
use Rattle.writer.specs.Rows.{row}
use Rattle.answer.specs.Answers.{plane_bytes, facet_answer, shell_answer}
use Rattle.answer.specs.Laws.{length_count, length_facet, length_plane}
use Rattle.fused_bytes.specs.Bytes.{shells_answer, body_answer, fused_answer}
use Rattle.lines.specs.Turns.{walk_body, walk_none}
use Rattle.lines.specs.Text.{answer_line, body_line, shell_line, count, behind, skip, walk, lines_of}

-- ---- the lines of bodies

-- the first shell of a body is outward, the others are inward; j shells stand before
unfoldable pub shell_lines : ℕ → ℕ → List (List Face) → List ℕ
shell_lines j sense [] = []
shell_lines j sense (g ∷ gs) = shell_line (j + 1) sense (length g) ++ shell_lines (j + 1) 0 gs

-- "Shells are numbered anew in each body"; i bodies stand before
unfoldable pub body_lines : ℕ → List (List (List Face)) → List ℕ
body_lines i [] = []
body_lines i (b ∷ bs) = body_line (i + 1) (length b) ++ (shell_lines 0 1 b ++ body_lines (i + 1) bs)

unfoldable pub fused_lines : List (List (List Face)) → List ℕ
fused_lines bs = answer_line 0 ++ body_lines 0 bs

-- ---- they are those of the bodies' bytes

count_digits : (x : ℕ) (r : List ℕ) → x < 4294967296 → count (digits 4 x ++ r) ≡ x
unfolding count digits
count_digits x r h = omega (arith, h)

behind_facet : (f : Face) (r : List ℕ) → length (facet_answer f) < 4294967296 → behind (facet_answer f ++ r) ≡ r
unfolding behind facet_answer
behind_facet f r h =
    let p = plane_bytes f.plane in
    let n = length f.points in
    let t = row point_bytes f.points in
    let e : drop 96 ((p ++ (digits 4 n ++ t)) ++ r) ≡ digits 4 n ++ (t ++ r) =
    ap (drop 96) (append_assoc p (digits 4 n ++ t) r) ∙ drop_at p ((digits 4 n ++ t) ++ r) 96 (length_plane f.plane) ∙ append_assoc (digits 4 n) t r in
    let c : count (drop 96 ((p ++ (digits 4 n ++ t)) ++ r)) ≡ n = ap count e ∙ count_digits n (t ++ r) (omega (arith, h, length_facet f)) in
    ap (λ k. drop (100 + 24 * k) ((p ++ (digits 4 n ++ t)) ++ r)) c ∙ drop_at (p ++ (digits 4 n ++ t)) r (100 + 24 * n) (length_facet f)

facets_many : (g : List Face) → length g ≤ length (row facet_answer g)
unfolding row
facets_many [] = omega arith
facets_many (f ∷ g) = omega (arith, facets_many g, length-append (facet_answer f) (row facet_answer g), length_facet f)

skip_facets : (g : List Face) (r : List ℕ) → length (row facet_answer g) < 4294967296 → skip (length g) (row facet_answer g ++ r) ≡ r
unfolding skip row
skip_facets [] r h = refl
skip_facets (f ∷ g) r h =
    let n = length-append (facet_answer f) (row facet_answer g) in
    ap (λ l. skip (length g) (behind l)) (append_assoc (facet_answer f) (row facet_answer g) r)
    ∙ ap (skip (length g)) (behind_facet f (row facet_answer g ++ r) (omega (arith, h, n)))
    ∙ skip_facets g r (omega (arith, h, n))

shells_many : (s : ℕ) (gs : List (List Face)) → length gs ≤ length (shells_answer s gs)
unfolding shells_answer shell_answer
shells_many s [] = omega arith
shells_many s (g ∷ gs) = omega (arith, shells_many 0 gs, length-append (shell_answer s g) (shells_answer 0 gs))

walk_shells : (f i j s : ℕ) (gs : List (List Face)) (r : List ℕ) → length (shells_answer s gs) < 4294967296 →
    walk (length gs + f) i j (length gs) (shells_answer s gs ++ r) ≡ shell_lines j s gs ++ walk f i (j + length gs) 0 r
unfolding walk shells_answer shell_answer shell_lines
walk_shells f i j s [] r h =
    let k : 0 + f ≡ f = omega arith in
    let m : j ≡ j + 0 = omega arith in
    ap (λ n. walk n i j 0 r) k ∙ ap (λ n. walk f i n 0 r) m
walk_shells f i j s (g ∷ gs) r h =
    let t = row facet_answer g in
    let u = shells_answer 0 gs in
    let q : suc (length gs) + f ≡ suc (length gs + f) = omega arith in
    let a = length-append (digits 4 (length g) ++ t) u in
    let b = length-append (digits 4 (length g)) t in
    let small : length g < 4294967296 = omega (arith, h, a, b, facets_many g, length_count (length g)) in
    let e : ((digits 4 (length g) ++ t) ++ u) ++ r ≡ digits 4 (length g) ++ (t ++ (u ++ r)) = append_assoc (digits 4 (length g) ++ t) u r ∙ append_assoc (digits 4 (length g)) t (u ++ r) in
    let c : count (((digits 4 (length g) ++ t) ++ u) ++ r) ≡ length g = ap count e ∙ count_digits (length g) (t ++ (u ++ r)) small in
    let d : drop 4 (((digits 4 (length g) ++ t) ++ u) ++ r) ≡ t ++ (u ++ r) = ap (drop 4) e ∙ drop_at (digits 4 (length g)) (t ++ (u ++ r)) 4 (length_count (length g)) in
    let m : j + 1 + length gs ≡ j + suc (length gs) = omega arith in
    let line = shell_line (j + 1) s (length g) in
    ap (λ n. walk n i j (suc (length gs)) (s ∷ (((digits 4 (length g) ++ t) ++ u) ++ r))) q
    ∙ ap (λ n. shell_line (j + 1) s n ++ walk (length gs + f) i (j + 1) (length gs) (skip n (drop 4 (((digits 4 (length g) ++ t) ++ u) ++ r)))) c
    ∙ ap (λ l. line ++ walk (length gs + f) i (j + 1) (length gs) (skip (length g) l)) d
    ∙ ap (λ l. line ++ walk (length gs + f) i (j + 1) (length gs) l) (skip_facets g (u ++ r) (omega (arith, h, a, b)))
    ∙ ap (λ l. line ++ l) (walk_shells f i (j + 1) 0 gs r (omega (arith, h, a)))
    ∙ ap (λ n. line ++ (shell_lines (j + 1) 0 gs ++ walk f i n 0 r)) m
    ∙ sym (append_assoc line (shell_lines (j + 1) 0 gs) (walk f i (j + suc (length gs)) 0 r))

walk_bodies : (bs : List (List (List Face))) (f i j : ℕ) → length (row body_answer bs) ≤ f → length (row body_answer bs) < 4294967296 → walk f i j 0 (row body_answer bs) ≡ body_lines i bs
unfolding row body_answer body_lines
walk_bodies [] f i j k h = walk_none f i j 0
walk_bodies (b ∷ bs) f i j k h =
    let d = digits 4 (length b) in
    let s = shells_answer 1 b in
    let r = row body_answer bs in
    let x = (d ++ s) ++ r in
    let g = f - (length b + 1) in
    let m = length-append (d ++ s) r in
    let n = length-append d s in
    let z = length_count (length b) in
    let many = shells_many 1 b in
    let q : f ≡ suc (length b + g) = omega (arith, k, m, n, z, many) in
    let e : x ≡ d ++ (s ++ r) = append_assoc d s r in
    let c : count x ≡ length b = ap count e ∙ count_digits (length b) (s ++ r) (omega (arith, h, m, n, many)) in
    let t : drop 4 x ≡ s ++ r = ap (drop 4) e ∙ drop_at d (s ++ r) 4 z in
    let line = body_line (i + 1) (length b) in
    ap (λ y. walk y i j 0 x) q
    ∙ walk_body (length b + g) i j x (omega (arith, m, n, z))
    ∙ ap (λ y. body_line (i + 1) y ++ walk (length b + g) (i + 1) 0 y (drop 4 x)) c
    ∙ ap (λ l. line ++ walk (length b + g) (i + 1) 0 (length b) l) t
    ∙ ap (λ l. line ++ l) (walk_shells g (i + 1) 0 1 b r (omega (arith, h, m, n)))
    ∙ ap (λ l. line ++ (shell_lines 0 1 b ++ l)) (walk_bodies bs g (i + 1) (0 + length b) (omega (arith, k, m, n, z, many)) (omega (arith, h, m)))

-- what is printed of an answer are the lines of its bodies
pub lines_bodies : (bs : List (List (List Face))) → length (fused_answer bs) < 4294967296 → lines_of 0 (fused_answer bs) ≡ fused_lines bs
unfolding lines_of fused_lines fused_answer
lines_bodies bs h = ap (λ l. answer_line 0 ++ l) (walk_bodies bs (length (row body_answer bs)) 0 0 (omega arith) h)
