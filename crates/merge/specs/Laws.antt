-- Laws of merging, in the words of the code.
use Rattle.std.proofs.Math.Path.{◌≡◌, ap, subst}
use Rattle.std.specs.Prelude.{refl, Bool, List, ◌++◌, ℕ, ◌+◌, ◌≤◌, ◌<◌, take, drop, set, get_or, ltb, Float, Ok, Err}
use Rattle.std.proofs.Common.{sym, ◌∙◌, arith, add-one, length-append, length-set}
use Rattle.std.proofs.Math.Bool.{true, false}
use Rattle.std.proofs.Math.ListN.{length, replicate}
use Rattle.std.proofs.lemmas.List.{length-replicate, replicate-append-replicate}
use Rattle.std.proofs.Math.Seq.{sets, length-sets}
use Rattle.refusal.specs.declared.Refusal.{Refusal}
use Rattle.refusal.specs.Outcome.{Outcome, then, unless}
use Rattle.refusal.specs.Laws.{stop, go}
use Rattle.space.specs.declared.Precision.{Precision}
use Rattle.space.specs.Shapes.{Cell, Solid}
use Rattle.lists.specs.Laws.{next, done}
use Rattle.polygon.specs.Memory.{floats_of}
use Rattle.room.specs.Laws.{sets_append}
use Rattle.indexed.specs.declared.Pick.TheVariants.{Only}
use Rattle.indexed.specs.Indexed.{search_by, index_faces}
use Rattle.indexed.specs.Stored.{flat, Stored}
use Rattle.indexed.proofs.Laws.{place_more}
use Rattle.merge.specs.Merge.{capped, merge, owners_from}

-- ---- 14 after all

module _ (t : Precision) (c : Cell) (p₀ : List Float) (i₀ : List ℕ) (p : List Float) (i : List ℕ) where
  stopped : (o : Outcome Solid) (r r' : Outcome ℕ) (x : Refusal) → index_faces (search_by Only t) c ≡ o → r ≡ Err x → r' ≡ Err x → Stored o p₀ i₀ p i r → Stored (merge t c) p₀ i₀ p i r'
  unfolding merge Stored
  stopped (Ok s) r r' x g e f k = absurd (let a = k.0 in let z : ◌≡◌ {A = ℕ} 0 1 = cc in omega arith)
  stopped (Err y) r r' x g e f k = (let u = k.0 in let v : x ≡ y = cc in subst (λ o. Stored o p₀ i₀ p i r') (sym (stop _ _ y g)) (f ∙ ap Err v, k.1, k.2))

  pub merge_stop : (r r' : Outcome ℕ) (x : Refusal) → Stored (index_faces (search_by Only t) c) p₀ i₀ p i r → r ≡ Err x → r' ≡ Err x → Stored (merge t c) p₀ i₀ p i r'
  merge_stop r r' x h e f = stopped (index_faces (search_by Only t) c) r r' x refl e f h

  tested : (s : Solid) (b : Bool) (r : Outcome ℕ) → p ≡ sets p₀ 0 (floats_of s.points) → i ≡ sets i₀ 0 (flat s.faces) →
      r ≡ unless b 14 (Ok (length s.points)) → Stored (then (unless b 14 (Ok (length s.points))) (λ _. Ok s)) p₀ i₀ p i r
  unfolding Stored
  tested s true r a d e = (e, ap length a ∙ length-sets p₀ 0 (floats_of s.points), ap length d ∙ length-sets i₀ 0 (flat s.faces))
  tested s false r a d e = (e, a, d)

  gone : (o : Outcome Solid) (r r' : Outcome ℕ) (m : ℕ) → index_faces (search_by Only t) c ≡ o → r ≡ Ok m → r' ≡ capped m → Stored o p₀ i₀ p i r → Stored (merge t c) p₀ i₀ p i r'
  unfolding merge Stored
  gone (Ok s) r r' m g e f k =
      let n : m ≡ length s.points = (let a = k.0 in cc) in
      subst (λ o. Stored o p₀ i₀ p i r') (sym (go _ _ s g)) (tested s (ltb 4096 (length s.points)) r' k.1 k.2 (f ∙ ap capped n))
  gone (Err y) r r' m g e f k = absurd (let a = k.0 in let z : ◌≡◌ {A = ℕ} 0 1 = cc in omega arith)

  pub merge_go : (r r' : Outcome ℕ) (m : ℕ) → Stored (index_faces (search_by Only t) c) p₀ i₀ p i r → r ≡ Ok m → r' ≡ capped m → Stored (merge t c) p₀ i₀ p i r'
  merge_go r r' m h e f = gone (index_faces (search_by Only t) c) r r' m refl e f h

-- ---- owners

-- of n entries from a place on, i are filled with x
pub record Filling (o₀ : List ℕ) (at n x : ℕ) (o : List ℕ) (i : ℕ) : Type 0 where
  pub upto : i ≤ n
  pub same : length o ≡ length o₀
  pub is : o ≡ sets o₀ at (replicate i x)

module _ {o₀ : List ℕ} {at n x : ℕ} {o : List ℕ} {i : ℕ} (I : Filling o₀ at n x o i) where
  pub filling_step : i < n → Filling o₀ at n x (set o (at + i) x) (i + 1)
  filling_step h = record {
    upto = omega arith;
    same = length-set o (at + i) x ∙ I.same;
    is = ap (λ z. set z (at + i) x) I.is ∙ place_more o₀ at (replicate i x) i x (length-replicate i x) ∙ ap (sets o₀ at) (replicate-append-replicate i 1 x);
  }

  pub filling_end : n ≤ i → o ≡ sets o₀ at (replicate n x)
  filling_end h = (let e : i ≡ n = omega (arith, I.upto) in I.is ∙ ap (λ k. sets o₀ at (replicate k x)) e)

-- n cells' faces have room in o
pub record Owned (sizes : List ℕ) (n : ℕ) (o : List ℕ) : Type 0 where
  pub cells : n ≤ length sizes
  pub faces : length (owners_from 0 (take n sizes)) ≤ length o

-- of n cells, i are done, with `at` faces
pub record Owning (sizes : List ℕ) (n : ℕ) (o₀ o : List ℕ) (at i : ℕ) : Type 0 where
  pub upto : i ≤ n
  pub same : length o ≡ length o₀
  pub left : at + length (owners_from i (drop i (take n sizes))) ≡ length (owners_from 0 (take n sizes))
  pub rest : sets o at (owners_from i (drop i (take n sizes))) ≡ sets o₀ 0 (owners_from 0 (take n sizes))

pub owning_start : (sizes : List ℕ) (n : ℕ) (o : List ℕ) → Owning sizes n o o 0 0
owning_start sizes n o = record { upto = omega arith; same = refl; left = omega arith; rest = refl }

module _ {sizes : List ℕ} {n : ℕ} {o₀ o : List ℕ} {at i : ℕ} (I : Owning sizes n o₀ o at i) (fits : Owned sizes n o₀) where
  opens : i < n → owners_from i (drop i (take n sizes)) ≡ replicate (get_or sizes i 0) i ++ owners_from (i + 1) (drop (i + 1) (take n sizes))
  unfolding owners_from
  opens h = ap (owners_from i) (next sizes n i 0 h fits.cells) ∙ ap (λ j. replicate (get_or sizes i 0) i ++ owners_from j (drop (i + 1) (take n sizes))) (sym (add-one i))

  lefts : i < n → at + (get_or sizes i 0 + length (owners_from (i + 1) (drop (i + 1) (take n sizes)))) ≡ length (owners_from 0 (take n sizes))
  lefts h =
      let a : length (owners_from i (drop i (take n sizes))) ≡ length (replicate (get_or sizes i 0) i) + length (owners_from (i + 1) (drop (i + 1) (take n sizes)))
      = ap length (opens h) ∙ length-append (replicate (get_or sizes i 0) i) (owners_from (i + 1) (drop (i + 1) (take n sizes))) in
      omega (arith, I.left, length-replicate (get_or sizes i 0) i)

  pub owning_room : i < n → at + get_or sizes i 0 ≤ length o
  owning_room h = omega (arith, lefts h, fits.faces, I.same)

  pub owning_step : (o' : List ℕ) → i < n → o' ≡ sets o at (replicate (get_or sizes i 0) i) → Owning sizes n o₀ o' (at + get_or sizes i 0) (i + 1)
  owning_step o' h e =
      let c = get_or sizes i 0 in
      let w = owners_from (i + 1) (drop (i + 1) (take n sizes)) in
      let k : at + get_or sizes i 0 ≡ at + length (replicate (get_or sizes i 0) i) = omega (arith, length-replicate (get_or sizes i 0) i) in
      record {
        upto = omega arith;
        same = ap length e ∙ length-sets o at (replicate (get_or sizes i 0) i) ∙ I.same;
        left = omega (arith, lefts h);
        rest = ap (λ z. sets z (at + c) w) e ∙ ap (λ z. sets (sets o at (replicate c i)) z w) k ∙ sets_append o at (replicate c i) w ∙ ap (sets o at) (sym (opens h)) ∙ I.rest;
      }

  pub owning_end : n ≤ i → o ≡ sets o₀ 0 (owners_from 0 (take n sizes))
  unfolding owners_from
  owning_end h = ap (λ l. sets o at (owners_from i l)) (sym (done sizes n i h)) ∙ I.rest
