-- A walk over the numbered points of a slice: the next one and the rest.
use Rattle.std.specs.Prelude.{◌≡◌, refl, List, [], ◌∷◌, ℕ, zero, suc, ◌+◌, ◌*◌, ◌≤◌, ◌<◌, length, drop, get_or, Float}
use Rattle.std.proofs.Common.{sym, ap, ◌∙◌, arith, not-suc-le-zero, le_of_suc-le-suc, add-one, drop_of_length-le}
use Rattle.lists.specs.Walks.{Numbered, numbered}
use Rattle.polygon.specs.Memory.{point_at, points_at}
use Rattle.polygon.specs.MemoryLaws.{length_points_at}
use Rattle.room.specs.Laws.{point_of_lem}

abbrev tagged : {A : Type 0} → ℕ → A → Numbered A
tagged p x = record { place = p; it = x }

along : {A : Type 0} (l : List A) (k i : ℕ) (d : A) → i < length l → drop i (numbered k l) ≡ tagged (k + i) (get_or l i d) ∷ drop (suc i) (numbered k l)
unfolding numbered
along [] k i d h = absurd (not-suc-le-zero h)
along (x ∷ l) k zero d h = ap (λ p. tagged p x ∷ numbered (suc k) l) (omega arith)
along (x ∷ l) k (suc i) d h =
    along l (suc k) i d (le_of_suc-le-suc h) ∙ ap (λ p. tagged p (get_or l i d) ∷ drop (suc i) (numbered (suc k) l)) (omega arith)

length_numbered : {A : Type 0} (l : List A) (k : ℕ) → length (numbered k l) ≡ length l
unfolding numbered
length_numbered [] k = refl
length_numbered (x ∷ l) k = ap suc (length_numbered l (suc k))

-- the point at place i of m, and the rest
pub next_numbered : (s : List Float) (m i : ℕ) → i < m → drop i (numbered 0 (points_at s 0 m)) ≡ record { place = i; it = point_at s (3 * i) } ∷ drop (i + 1) (numbered 0 (points_at s 0 m))
next_numbered s m i h =
    let k : i < length (points_at s 0 m) = omega (arith, length_points_at s 0 m) in
    along (points_at s 0 m) 0 i (point_at s 0) k
    ∙ ap (λ p. tagged p (get_or (points_at s 0 m) i (point_at s 0)) ∷ drop (suc i) (numbered 0 (points_at s 0 m))) (omega arith)
    ∙ ap (λ q. tagged i q ∷ drop (suc i) (numbered 0 (points_at s 0 m))) (point_of_lem s 0 m i (point_at s 0) h ∙ ap (point_at s) (omega arith))
    ∙ ap (λ j. tagged i (point_at s (3 * i)) ∷ drop j (numbered 0 (points_at s 0 m))) (sym (add-one i))

pub numbered_done : (s : List Float) (m i : ℕ) → m ≤ i → drop i (numbered 0 (points_at s 0 m)) ≡ []
numbered_done s m i h =
    let k : length (numbered 0 (points_at s 0 m)) ≤ i = omega (arith, length_numbered (points_at s 0 m) 0, length_points_at s 0 m) in
    drop_of_length-le (numbered 0 (points_at s 0 m)) k
