-- Laws of the call from outside, in the words of the code.
use Rattle.std.specs.Prelude.{◌≡◌, Bool, true, false, ◌&&◌, List, [], ◌∷◌, ℕ, ◌+◌, ◌*◌, ◌/◌, ◌≤◌, ◌<◌, length, leb, ltb, Float, Ok, Err}
use Rattle.std.proofs.Math.Path.{refl, ap, subst}
use Rattle.std.proofs.Common.{sym, ◌∙◌, arith, leb-true, ltb-true, le-leb}
use Rattle.std.proofs.lemmas.List.Edits.{sets}
use Rattle.std.proofs.lemmas.Bool.{lt-leb}
use Rattle.refusal.specs.Outcome.{Outcome, then, number_of}
use Rattle.refusal.specs.Laws.{never_ok}
use Rattle.refusal.specs.Tests.{and_true}
use Rattle.lent.specs.Lent.{number_by, where_fine}
use Rattle.space.specs.Shapes.{Cell}
use Rattle.stack.specs.declared.Stack.{Stack}
use Rattle.stack.specs.Stacks.{stack_of, list_at, Listed, Places}
use Rattle.stack.specs.Laws.{listed_is}
use Rattle.split_leaf.specs.Splitting.{split_fits, cells_told, Alone, Split}

pub fits_large : (room d n z told : ℕ) → 6400 < room → false ≡ split_fits room d n z told
unfolding split_fits
fits_large room d n z told h = sym (ap (λ b. b && ((leb (11 * room + 1664) d && leb (room + 128) n) && (ltb room z && leb 3 told))) (lt-leb room 6400 h))

pub fits_all : (room d n z told : ℕ) → room ≤ 6400 → ((leb (11 * room + 1664) d && leb (room + 128) n) && (ltb room z && leb 3 told)) ≡ split_fits room d n z told
unfolding split_fits
fits_all room d n z told h = sym (ap (λ b. b && ((leb (11 * room + 1664) d && leb (room + 128) n) && (ltb room z && leb 3 told))) (le-leb room 6400 h))

pub record Enough (room : ℕ) (d : List Float) (n z told : List ℕ) : Type 0 where
  pub low : room ≤ 6400
  pub places : Places room d n z
  pub tells : 3 ≤ length told

pub enough : (room : ℕ) (d : List Float) (n z told : List ℕ) → split_fits room (length d) (length n) (length z) (length told) ≡ true → Enough room d n z told
unfolding split_fits
enough room d n z told e =
    let a = leb (11 * room + 1664) (length d) in
    let b = leb (room + 128) (length n) in
    let f = ltb room (length z) in
    let g = leb 3 (length told) in
    let h = (and_true (leb room 6400) ((a && b) && (f && g)) e).1 in
    let p = (and_true (a && b) (f && g) h).0 in
    let q = (and_true (a && b) (f && g) h).1 in
    record {
      low = leb-true room 6400 (and_true (leb room 6400) ((a && b) && (f && g)) e).0;
      places = record { place = leb-true (11 * room + 1664) (length d) (and_true a b p).0; slots = leb-true (room + 128) (length n) (and_true a b p).1; seats = ltb-true room (length z) (and_true f g q).0 };
      tells = leb-true 3 (length told) (and_true f g q).1;
    }

module _ (room : ℕ) (fits : Bool) (o : Outcome (List Cell)) (d : List Float) (n z l : List ℕ) where
  pub split_none : fits ≡ false → Split room fits o 64 d n z l d n z l
  unfolding number_of cells_told Alone
  split_none e = subst (λ b. Split room b o 64 d n z l d n z l) (sym e) (record { number = refl; tells = refl; lies = λ cs g. never_ok g; alone = (refl, refl, refl) })

  told_by : (o : Outcome (List Cell)) (s : Stack) (r : ℕ) (l' : List ℕ) (d' : List Float) (n' z' : List ℕ) → Listed room o s d' n' z' → r ≡ number_by s.verdict → l' ≡ where_fine s.verdict (sets l 0 (s.cells ∷ s.faces ∷ s.corners ∷ [])) l →
      Split room true o r d n z l d' n' z' l'
  unfolding number_of cells_told Alone number_by where_fine stack_of
  told_by (Ok cs) s r l' d' n' z' L h k =
      record { number = h ∙ ap (λ x. number_by x.verdict) L.is; tells = k ∙ ap (λ x. where_fine x.verdict (sets l 0 (x.cells ∷ x.faces ∷ x.corners ∷ [])) l) L.is; lies = L.lies; alone = tt }
  told_by (Err x) s r l' d' n' z' L h k =
      record { number = h ∙ ap (λ x. number_by x.verdict) L.is; tells = k ∙ ap (λ x. where_fine x.verdict (sets l 0 (x.cells ∷ x.faces ∷ x.corners ∷ [])) l) L.is; lies = L.lies; alone = tt }

  pub split_all : fits ≡ true → (p : List Cell → Outcome (List Cell)) (i : Outcome (List Cell)) (s' s : Stack) (r : ℕ) (l' : List ℕ) (d' : List Float) (n' z' : List ℕ) → Listed room i s' d n z → o ≡ then i p →
      Listed room (then (list_at s' d n z) p) s d' n' z' → r ≡ number_by s.verdict → l' ≡ where_fine s.verdict (sets l 0 (s.cells ∷ s.faces ∷ s.corners ∷ [])) l →
      Split room fits o r d n z l d' n' z' l'
  split_all e p i s' s r l' d' n' z' L q M h k =
      subst (λ b. Split room b o r d n z l d' n' z' l') (sym e) (told_by o s r l' d' n' z' (subst (λ x. Listed room x s d' n' z') (ap (λ x. then x p) (listed_is room i s' d n z L) ∙ sym q) M) h k)

pub whole_planes : (n : ℕ) → 13 * (n / 13) ≤ n
whole_planes n = omega arith

-- the call's own memory is enough
pub memory : (room : ℕ) → room ≤ 6400 → (spare : List Float) (slots seats : List ℕ) → length spare ≡ 72064 → length slots ≡ 6528 → length seats ≡ 6401 → Places room spare slots seats
memory room h spare slots seats hs hl ht = record { place = omega arith; slots = omega arith; seats = omega arith }
