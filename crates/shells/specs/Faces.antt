-- The facets of a body: those of the listed ones whose cell is one of its cells.
use Rattle.std.proofs.Math.Path.{◌≡◌, sym, ap, ap₂}
use Rattle.std.specs.Prelude.{refl, ◌≢◌, Bool, true, false, List, [], ◌∷◌, ◌++◌, ℕ, zero, suc, ◌+◌, ◌≤◌, ◌<◌, get_or, set, drop, eqb, ◌||◌, T}
use Rattle.std.specs.List.{list_any}
use Rattle.std.proofs.Math.Dec.{eqb_refl}
use Rattle.std.proofs.Common.{eqb→eq}
use Rattle.std.proofs.Common.{◌∙◌, subst, ⊎_elim, append_assoc, append-nil, arith, add-one, length-set, drop_of_length-le, drop-cons, take-suc-set}
use Rattle.std.proofs.Math.ListN.{length, take}
use Rattle.sums.specs.Sum.{sum, hit, hit_cases, occ}
use Rattle.sums.specs.Keys.{put, keep}

-- ---- whether a number stands in a list

-- x does not stand before place p.
pub record Seeking (l : List ℕ) (x p : ℕ) : Type 0 where
  pub upto : p ≤ length l
  pub left : occ x (drop p l) ≡ occ x l

false_true : ◌≡◌ {A = Bool} false true → ⊥
false_true e = let z : ◌≡◌ {A = ℕ} 0 1 = cc in omega arith

eqb_yes : (x : ℕ) → eqb x x ≡ true
eqb_yes x = go (eqb x x) (eqb_refl x)
  where
    go : (b : Bool) → T b → b ≡ true
    go true t = refl
    go false t = absurd t

-- The answer says whether x stands in the list.
pub record Told (l : List ℕ) (x : ℕ) (r : Bool) : Type 0 where
  pub yes : r ≡ true → 1 ≤ occ x l
  pub no : r ≡ false → occ x l ≡ 0

module _ (l : List ℕ) (x : ℕ) where
  pub seeking_start : Seeking l x 0
  seeking_start = record { upto = omega arith; left = refl }

  at_p : (p : ℕ) → p < length l → occ x (drop p l) ≡ hit x (get_or l p 0) + occ x (drop (p + 1) l)
  unfolding sum
  at_p p h = ap (occ x) (drop-cons l p 0 h) ∙ ap (λ k. hit x (get_or l p 0) + occ x (drop k l)) (sym (add-one p))

  pub seeking_step : (p : ℕ) → p < length l → get_or l p 0 ≢ x → Seeking l x p → Seeking l x (p + 1)
  seeking_step p h n w = record { upto = omega arith; left = omega (arith, at_p p h, w.left, ⊎_elim {C = hit x (get_or l p 0) ≡ 0} (λ c. absurd (n (sym c.0))) (λ c. c.1) (hit_cases x (get_or l p 0))) }

  pub seeking_found : (p : ℕ) → p < length l → get_or l p 0 ≡ x → Seeking l x p → Told l x true
  seeking_found p h e w = record { yes = λ _. omega (arith, at_p p h, w.left, ⊎_elim {C = hit x (get_or l p 0) ≡ 1} (λ c. c.1) (λ c. absurd (c.0 (sym e))) (hit_cases x (get_or l p 0))); no = λ q. let z : ◌≡◌ {A = ℕ} 0 1 = cc in absurd (omega arith) }

  pub seeking_end : (p : ℕ) → length l ≤ p → Seeking l x p → Told l x false
  unfolding sum
  seeking_end p h w = record { yes = λ q. let z : ◌≡◌ {A = ℕ} 0 1 = cc in absurd (omega arith); no = λ _. sym w.left ∙ ap (occ x) (drop_of_length-le l h) }

-- the library's answer is told
pub told_any : (l : List ℕ) (x : ℕ) → Told l x (list_any (λ y. eqb y x) l)
unfolding sum
told_any [] x = record { yes = λ q. let z : ◌≡◌ {A = ℕ} 0 1 = cc in absurd (omega arith); no = λ _. refl }
told_any (y ∷ l) x = go (eqb y x) refl (told_any l x)
  where
    go : (b : Bool) → eqb y x ≡ b → Told l x (list_any (λ y. eqb y x) l) → Told (y ∷ l) x (b || list_any (λ y. eqb y x) l)
    go true e s = record { yes = λ _. omega (arith, ⊎_elim {C = hit x y ≡ 1} (λ c. c.1) (λ c. absurd (c.0 (sym (eqb→eq y x (subst T (sym e) tt))))) (hit_cases x y)); no = λ q. let z : ◌≡◌ {A = ℕ} 0 1 = cc in absurd (omega arith) }
    go false e s =
        let n : hit x y ≡ 0 = ⊎_elim {C = hit x y ≡ 0} (λ c. absurd (false_true (sym e ∙ ap (λ k. eqb k x) (sym c.0) ∙ eqb_yes x))) (λ c. c.1) (hit_cases x y) in
        record { yes = λ q. omega (arith, n, s.yes q); no = λ q. omega (arith, n, s.no q) }

-- ---- one facet

abbrev pub more : Bool → ℕ → ℕ
more true m = m + 1
more false m = m

abbrev pub stored : Bool → List ℕ → ℕ → ℕ → List ℕ
stored true l m i = set l m i
stored false l m i = l

-- ---- all of them

-- Each listed facet has a cell.
pub record Owned (owners : List ℕ) (f : ℕ) (x : List ℕ) : Type 0 where
  pub room : f ≤ length owners
  pub inn : (q : ℕ) → q < length x → get_or x q 0 < f

pub owned_at : (owners : List ℕ) (f : ℕ) (x : List ℕ) (q : ℕ) → Owned owners f x → q < length x → get_or x q 0 < length owners
owned_at owners f x q w h = omega (arith, w.inn q h, w.room)

pub record Keeping (owners x g f₀ f : List ℕ) (m q : ℕ) : Type 0 where
  pub upto : q ≤ length x
  pub few : m ≤ q
  pub left : take m f ++ keep (λ i. occ (get_or owners i 0) g) (drop q x) ≡ keep (λ i. occ (get_or owners i 0) g) x
  pub size : length f ≡ length f₀

put_some : (t i : ℕ) (l : List ℕ) → 1 ≤ t → put t i l ≡ i ∷ l
unfolding put
put_some zero i l h = absurd (omega arith)
put_some (suc t) i l h = refl

module _ (owners x g f₀ : List ℕ) where
  pub keeping_start : Keeping owners x g f₀ f₀ 0 0
  keeping_start = record { upto = omega arith; few = omega arith; left = refl; size = refl }

  next : (q : ℕ) → q < length x → keep (λ i. occ (get_or owners i 0) g) (drop q x) ≡ put (occ (get_or owners (get_or x q 0) 0) g) (get_or x q 0) (keep (λ i. occ (get_or owners i 0) g) (drop (q + 1) x))
  unfolding keep
  next q h = ap (keep (λ i. occ (get_or owners i 0) g)) (drop-cons x q 0 h) ∙ ap (λ k. put (occ (get_or owners (get_or x q 0) 0) g) (get_or x q 0) (keep (λ i. occ (get_or owners i 0) g) (drop k x))) (sym (add-one q))

  keeping_turn : (f f' : List ℕ) (m m' q : ℕ) (b : Bool) → length x ≤ length f₀ → q < length x → Keeping owners x g f₀ f m q → Told g (get_or owners (get_or x q 0) 0) b → f' ≡ stored b f m (get_or x q 0) → m' ≡ more b m → Keeping owners x g f₀ f' m' (q + 1)
  keeping_turn f f' m m' q true room h w s e n = record {
    upto = omega arith;
    few = omega (arith, w.few);
    left =
        let i = get_or x q 0 in
        let l = keep (λ i. occ (get_or owners i 0) g) (drop (q + 1) x) in
        ap₂ (λ a b. take a b ++ l) n e ∙ ap (λ a. a ++ l) (ap (λ a. take a (set f m i)) (add-one m) ∙ take-suc-set f m i (omega (arith, w.few, w.size))) ∙ append_assoc (take m f) (i ∷ []) l
        ∙ ap (λ a. take m f ++ a) (sym (next q h ∙ put_some (occ (get_or owners i 0) g) i l (s.yes refl))) ∙ w.left;
    size = ap length e ∙ length-set f m (get_or x q 0) ∙ w.size;
  }
  keeping_turn f f' m m' q false room h w s e n = record {
    upto = omega arith;
    few = omega (arith, w.few);
    left =
        let i = get_or x q 0 in
        let l = keep (λ i. occ (get_or owners i 0) g) (drop (q + 1) x) in
        let z : keep (λ i. occ (get_or owners i 0) g) (drop q x) ≡ l = next q h ∙ ap (λ t. put t i l) (s.no refl) ∙ (unfold put in refl) in
        ap₂ (λ a b. take a b ++ l) n e ∙ ap (λ a. take m f ++ a) (sym z) ∙ w.left;
    size = ap length e ∙ w.size;
  }

  pub keeping_step : (f f' : List ℕ) (m m' q y : ℕ) (b : Bool) → length x ≤ length f₀ → q < length x → Keeping owners x g f₀ f m q → y ≡ get_or owners (get_or x q 0) 0 → Told g y b →
      f' ≡ stored b f m (get_or x q 0) → m' ≡ more b m → Keeping owners x g f₀ f' m' (q + 1)
  keeping_step f f' m m' q y b room h w o s e n = keeping_turn f f' m m' q b room h w (subst (λ y. Told g y b) o s) e n

  pub keeping_few : (f : List ℕ) (m q : ℕ) → Keeping owners x g f₀ f m q → m ≤ length x
  keeping_few f m q w = omega (arith, w.few, w.upto)

  pub keeping_end : (f : List ℕ) (m q : ℕ) → length x ≤ q → Keeping owners x g f₀ f m q → take m f ≡ keep (λ i. occ (get_or owners i 0) g) x
  unfolding keep
  keeping_end f m q h w = sym (append-nil (take m f)) ∙ ap (λ l. take m f ++ l) (sym (ap (keep (λ i. occ (get_or owners i 0) g)) (drop_of_length-le x h))) ∙ w.left

  -- what a turn asks
  pub keeping_room : (f : List ℕ) (m q : ℕ) → length x ≤ length f₀ → q < length x → Keeping owners x g f₀ f m q → m < length f
  keeping_room f m q r h w = omega (arith, w.few, w.size)
