-- Shells and bodies that lie in slices, and their bytes one behind another.
use Rattle.std.specs.Prelude.{◌≡◌, refl, ℕ, ◌+◌, ◌-◌, ◌≤◌, ◌<◌, Float, get_or, take}
use Rattle.std.proofs.Math.Path.{sym, ap, subst}
use Rattle.std.proofs.Common.{ap₂, ◌∙◌, arith, length-append, get_or-take, get_or-drop}
use mathlib.Core.List.{List, [], ◌∷◌, ◌++◌}
use Rattle.std.proofs.Math.ListN.{length, drop}
use Rattle.std.proofs.Math.Seq.{sets, length-sets}
use Rattle.sums.specs.Sum.{sum}
use Rattle.words.specs.Little.{digits}
use Rattle.room.specs.Rooms.{counts_at}
use Rattle.room.specs.Laws.{sets_append, next_count, counts_done}
use Rattle.solids.specs.Frames.{faces_at, Placing}
use Rattle.solids.specs.Faces.{length_face, placing_le, length_faces_at}
use Rattle.writer.specs.Rows.{row}
use Rattle.answer.specs.Laws.{then_sets, length_count}
use Rattle.fused_answer.specs.declared.Written.{Written}
use Rattle.fused_answer.specs.Fused.{shell_bytes, shells_bytes, body_bytes}

-- how many facets shells of these sizes have
abbrev pub total : List ℕ → ℕ
total ns = sum (λ n. n) ns

-- The bodies whose facets lie in x from a place on, with their shells' sizes in z from a place on; ks says how many shells each has.
unfoldable pub bodies_at : List ℕ → List ℕ → ℕ → ℕ → List ℕ → List (List (List ℕ))
bodies_at x z from sat [] = []
bodies_at x z from sat (k ∷ ks) = faces_at x from (counts_at z sat k) ∷ bodies_at x z (from + total (counts_at z sat k)) (sat + k) ks

-- They lie within their slices.
unfoldable pub Stacked : List ℕ → List ℕ → ℕ → ℕ → List ℕ → Type 0
Stacked x z from sat [] = Unit {0}
Stacked x z from sat (k ∷ ks) = (sat + k ≤ length z) × Placing (counts_at z sat k) from (length x) × Stacked x z (from + total (counts_at z sat k)) (sat + k) ks

-- n facets from q on, as they are lent
lent : (x : List ℕ) (q n : ℕ) → take (q + n - q) (drop q x) ≡ counts_at x q n
lent x q n = let z : q + n - q ≡ n = omega arith in ap (λ m. take m (drop q x)) z

pub lent_in : (x : List ℕ) (f q n : ℕ) → q + n ≤ length x → ((m : ℕ) → m < length x → get_or x m 0 < f) → (m : ℕ) → m < length (take (q + n - q) (drop q x)) → get_or (take (q + n - q) (drop q x)) m 0 < f
lent_in x f q n h w m l =
    let e : length (counts_at x q n) ≡ n = length_face x q n h in
    let k : m < n = omega (arith, l, ap length (lent x q n), e) in
    subst (λ i. i < f) (sym (ap (λ y. get_or y m 0) (lent x q n) ∙ get_or-take n (drop q x) m 0 k ∙ get_or-drop q x m 0)) (w (q + m) (omega arith))

module _ (s : List Float) (spots : List ℕ) (ps : List Float) (v starts : List ℕ) (x z : List ℕ) where
  abbrev bytes_of : ℕ → List (List ℕ) → List ℕ
  bytes_of sense gs = shells_bytes s spots ps v starts sense gs

  -- ---- the shells of a body

  pub record Shelling (from sat k : ℕ) (out₀ : List ℕ) (at : ℕ) (out : List ℕ) (sense p q j : ℕ) : Type 0 where
    pub within : j ≤ k
    pub same : length out ≡ length out₀
    pub left : Placing (drop j (counts_at z sat k)) q (length x)
    pub facets : q + total (drop j (counts_at z sat k)) ≡ from + total (counts_at z sat k)
    pub place : p + length (bytes_of sense (faces_at x q (drop j (counts_at z sat k)))) ≡ at + length (bytes_of 1 (faces_at x from (counts_at z sat k)))
    pub whole : sets out p (bytes_of sense (faces_at x q (drop j (counts_at z sat k)))) ≡ sets out₀ at (bytes_of 1 (faces_at x from (counts_at z sat k)))

  pub shelling_start : (from sat k : ℕ) (out : List ℕ) (at : ℕ) → Placing (counts_at z sat k) from (length x) → Shelling from sat k out at out 1 at from 0
  shelling_start from sat k out at l = record { within = omega arith; same = refl; left = l; facets = refl; place = refl; whole = refl }

  module _ (from sat k : ℕ) (out₀ : List ℕ) (at : ℕ) (out : List ℕ) (sense p q j : ℕ) (w : Shelling from sat k out₀ at out sense p q j) where
    module _ (h : j < k) (few : sat + k ≤ length z) where
      abbrev n : ℕ
      n = get_or z (sat + j) 0

      ahead : drop j (counts_at z sat k) ≡ n ∷ drop (j + 1) (counts_at z sat k)
      ahead = next_count z sat k j h few

      left_after : Placing (drop (j + 1) (counts_at z sat k)) (q + n) (length x)
      unfolding Placing
      left_after = subst (λ ns. Placing ns q (length x)) ahead w.left

      pub shelling_fits : q + get_or z (sat + j) 0 ≤ length x
      shelling_fits = placing_le _ _ _ left_after

      abbrev rest : List ℕ
      rest = bytes_of 0 (faces_at x (q + n) (drop (j + 1) (counts_at z sat k)))

      abbrev here : List ℕ
      here = shell_bytes s spots ps v starts sense (take (q + n - q) (drop q x))

      bytes : bytes_of sense (faces_at x q (drop j (counts_at z sat k))) ≡ here ++ rest
      unfolding shells_bytes faces_at
      bytes = ap (λ ns. bytes_of sense (faces_at x q ns)) ahead ∙ ap (λ g. shell_bytes s spots ps v starts sense g ++ rest) (sym (lent x q n))

      size : length (bytes_of sense (faces_at x q (drop j (counts_at z sat k)))) ≡ length here + length rest
      size = ap length bytes ∙ length-append here rest

      more : total (drop j (counts_at z sat k)) ≡ n + total (drop (j + 1) (counts_at z sat k))
      unfolding sum
      more = ap total ahead

      pub shelling_inside : at + length (shells_bytes s spots ps v starts 1 (faces_at x from (counts_at z sat k))) ≤ length out₀ → p + length (shell_bytes s spots ps v starts sense (take (q + get_or z (sat + j) 0 - q) (drop q x))) ≤ length out
      shelling_inside b = omega (arith, b, w.place, w.same, size)

      pub shelling_turn : (out' : List ℕ) (p' : ℕ) → out' ≡ sets out p (shell_bytes s spots ps v starts sense (take (q + get_or z (sat + j) 0 - q) (drop q x))) → p' ≡ p + length (shell_bytes s spots ps v starts sense (take (q + get_or z (sat + j) 0 - q) (drop q x))) →
          Shelling from sat k out₀ at out' 0 p' (q + get_or z (sat + j) 0) (j + 1)
      shelling_turn out' p' e m = record {
        within = omega arith;
        same = ap length e ∙ length-sets out p here ∙ w.same;
        left = left_after;
        facets = omega (arith, w.facets, more);
        place = omega (arith, m, w.place, size);
        whole = ap (λ y. sets y p' rest) e ∙ ap (λ i. sets (sets out p here) i rest) m ∙ sets_append out p here rest ∙ ap (sets out p) (sym bytes) ∙ w.whole;
      }

    pub shelling_end : k ≤ j → (◌≡◌ {A = Written} (record { at = p; facets = q }) (record { at = at + length (shells_bytes s spots ps v starts 1 (faces_at x from (counts_at z sat k))); facets = from + total (counts_at z sat k) })) × (out ≡ sets out₀ at (shells_bytes s spots ps v starts 1 (faces_at x from (counts_at z sat k))))
    unfolding shells_bytes faces_at sum
    shelling_end l =
        let c : drop j (counts_at z sat k) ≡ [] = counts_done z sat k j l in
        let d : bytes_of sense (faces_at x q (drop j (counts_at z sat k))) ≡ [] = ap (λ ns. bytes_of sense (faces_at x q ns)) c in
        let a : p ≡ at + length (bytes_of 1 (faces_at x from (counts_at z sat k))) = omega (arith, w.place, ap length d) in
        let b : q ≡ from + total (counts_at z sat k) = omega (arith, w.facets, ap total c) in
        (ap₂ (λ y f. record { at = y; facets = f }) a b, sym (ap (sets out p) d) ∙ w.whole)

  -- ---- one body

  module _ (from sat k : ℕ) (few : sat + k ≤ length z) where
    abbrev shells : List ℕ
    shells = bytes_of 1 (faces_at x from (counts_at z sat k))

    body_parts : body_bytes s spots ps v starts (faces_at x from (counts_at z sat k)) ≡ digits 4 k ++ shells
    unfolding body_bytes
    body_parts = ap (λ n. digits 4 n ++ shells) (length_faces_at x from (counts_at z sat k) ∙ length_face z sat k few)

    body_size : length (body_bytes s spots ps v starts (faces_at x from (counts_at z sat k))) ≡ 4 + length shells
    body_size = omega (arith, ap length body_parts, length-append (digits 4 k) shells, length_count k)

    pub body_room : (at n : ℕ) → at + length (body_bytes s spots ps v starts (faces_at x from (counts_at z sat k))) ≤ n → at + 4 + length (shells_bytes s spots ps v starts 1 (faces_at x from (counts_at z sat k))) ≤ n
    body_room at n l = omega (arith, l, body_size)

    pub body_put : (out a b : List ℕ) (at : ℕ) (r : Written) → a ≡ sets out at (digits 4 k) → r ≡ record { at = at + 4 + length (shells_bytes s spots ps v starts 1 (faces_at x from (counts_at z sat k))); facets = from + total (counts_at z sat k) } →
        b ≡ sets a (at + 4) (shells_bytes s spots ps v starts 1 (faces_at x from (counts_at z sat k))) →
        (r ≡ record { at = at + length (body_bytes s spots ps v starts (faces_at x from (counts_at z sat k))); facets = from + total (counts_at z sat k) }) × (b ≡ sets out at (body_bytes s spots ps v starts (faces_at x from (counts_at z sat k))))
    body_put out a b at r p e t =
        let m : at + 4 + length shells ≡ at + length (body_bytes s spots ps v starts (faces_at x from (counts_at z sat k))) = omega (arith, body_size) in
        (e ∙ ap (λ y. record { at = y; facets = from + total (counts_at z sat k) }) m, then_sets out a b at (at + 4) (digits 4 k) shells p t (omega (arith, length_count k)) ∙ ap (sets out at) (sym body_parts))

  -- ---- all bodies

  abbrev all_of : List (List (List ℕ)) → List ℕ
  all_of bs = row (body_bytes s spots ps v starts) bs

  pub record Bodying (y : List ℕ) (g : ℕ) (out₀ : List ℕ) (at : ℕ) (out : List ℕ) (p q j i : ℕ) : Type 0 where
    pub within : i ≤ g
    pub same : length out ≡ length out₀
    pub left : Stacked x z q j (drop i (counts_at y 0 g))
    pub place : p + length (all_of (bodies_at x z q j (drop i (counts_at y 0 g)))) ≡ at + length (all_of (bodies_at x z 0 0 (counts_at y 0 g)))
    pub whole : sets out p (all_of (bodies_at x z q j (drop i (counts_at y 0 g)))) ≡ sets out₀ at (all_of (bodies_at x z 0 0 (counts_at y 0 g)))

  pub bodying_start : (y : List ℕ) (g : ℕ) (out : List ℕ) (at : ℕ) → Stacked x z 0 0 (counts_at y 0 g) → Bodying y g out at out at 0 0 0
  bodying_start y g out at l = record { within = omega arith; same = refl; left = l; place = refl; whole = refl }

  module _ (y : List ℕ) (g : ℕ) (out₀ : List ℕ) (at : ℕ) (out : List ℕ) (p q j i : ℕ) (w : Bodying y g out₀ at out p q j i) where
    module _ (h : i < g) (few : g ≤ length y) where
      abbrev k : ℕ
      k = get_or y i 0

      next : drop i (counts_at y 0 g) ≡ k ∷ drop (i + 1) (counts_at y 0 g)
      next = next_count y 0 g i h (omega arith) ∙ ap (λ m. get_or y m 0 ∷ drop (i + 1) (counts_at y 0 g)) (omega arith)

      stacked : Stacked x z q j (k ∷ drop (i + 1) (counts_at y 0 g))
      stacked = subst (Stacked x z q j) next w.left

      pub bodying_shells : j + get_or y i 0 ≤ length z
      unfolding Stacked
      bodying_shells = stacked.0

      pub bodying_placing : Placing (counts_at z j (get_or y i 0)) q (length x)
      unfolding Stacked
      bodying_placing = stacked.1

      abbrev body : List ℕ
      body = body_bytes s spots ps v starts (faces_at x q (counts_at z j k))

      abbrev others : List ℕ
      others = all_of (bodies_at x z (q + total (counts_at z j k)) (j + k) (drop (i + 1) (counts_at y 0 g)))

      body_bytes_lem : all_of (bodies_at x z q j (drop i (counts_at y 0 g))) ≡ body ++ others
      unfolding row bodies_at
      body_bytes_lem = ap (λ ks. all_of (bodies_at x z q j ks)) next

      body_length : length (all_of (bodies_at x z q j (drop i (counts_at y 0 g)))) ≡ length body + length others
      body_length = ap length body_bytes_lem ∙ length-append body others

      pub bodying_inside : at + length (row (body_bytes s spots ps v starts) (bodies_at x z 0 0 (counts_at y 0 g))) ≤ length out₀ → p + length (body_bytes s spots ps v starts (faces_at x q (counts_at z j (get_or y i 0)))) ≤ length out
      bodying_inside b = omega (arith, b, w.place, w.same, body_length)

      pub bodying_turn : (out' : List ℕ) (r : Written) → out' ≡ sets out p (body_bytes s spots ps v starts (faces_at x q (counts_at z j (get_or y i 0)))) →
          r ≡ record { at = p + length (body_bytes s spots ps v starts (faces_at x q (counts_at z j (get_or y i 0)))); facets = q + total (counts_at z j (get_or y i 0)) } → Bodying y g out₀ at out' r.at r.facets (j + get_or y i 0) (i + 1)
      unfolding Stacked
      bodying_turn out' r e m = subst (λ r. Bodying y g out₀ at out' r.at r.facets (j + k) (i + 1)) (sym m) (record {
        within = omega arith;
        same = ap length e ∙ length-sets out p body ∙ w.same;
        left = stacked.2;
        place = omega (arith, w.place, body_length);
        whole = ap (λ l. sets l (p + length body) others) e ∙ sets_append out p body others ∙ ap (sets out p) (sym body_bytes_lem) ∙ w.whole;
      })

    pub bodying_end : g ≤ i → (p ≡ at + length (row (body_bytes s spots ps v starts) (bodies_at x z 0 0 (counts_at y 0 g)))) × (out ≡ sets out₀ at (row (body_bytes s spots ps v starts) (bodies_at x z 0 0 (counts_at y 0 g))))
    unfolding row bodies_at
    bodying_end l =
        let d : all_of (bodies_at x z q j (drop i (counts_at y 0 g))) ≡ [] = ap (λ ks. all_of (bodies_at x z q j ks)) (counts_done y 0 g i l) in
        (omega (arith, w.place, ap length d), sym (ap (sets out p) d) ∙ w.whole)
