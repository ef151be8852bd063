-- Laws of the calls from outside, in the words of the code.
use Rattle.std.specs.Prelude.{◌≡◌, refl, Bool, true, false, not, ◌&&◌, List, ℕ, ◌+◌, ◌*◌, ◌/◌, ◌≤◌, length, leb, Float, Ok, Err}
use Rattle.std.proofs.Math.Path.{sym, ap}
use Rattle.std.proofs.Common.{◌∙◌, subst, arith, leb-true}
use Rattle.std.proofs.lemmas.List.Edits.{sets}
use Rattle.refusal.specs.declared.Refusal.{Refusal}
use Rattle.refusal.specs.Outcome.{Outcome, refusal_of, then, unless}
use Rattle.refusal.specs.Laws.{stop, go}
use Rattle.refusal.specs.Tests.{and_true}
use Rattle.space.specs.declared.Precision.{Precision}
use Rattle.space.specs.Shapes.{Cell, corners}
use Rattle.room.specs.Rooms.{cell_at, counts_at}
use Rattle.room.specs.Laws.{length_cell_counts, cell_counts_lem}
use Rattle.job.specs.declared.CellLayout.{CellLayout}
use Rattle.job.specs.Read.{solid_at}
use Rattle.solids.specs.Faces.{length_face}
use Rattle.hollow.specs.Hollows.{thick}
use Rattle.solid_check.specs.Check.{check}
use Rattle.built.specs.Built.{Bench}
use Rattle.intake.specs.Intake.{Stands, Took}
use Rattle.intake.specs.Layouts.{Stood}
use Rattle.jobs.specs.Jobs.{open_cell}
use Rattle.jobs.specs.Laws.{cell_opened, taken_fine, taken_not}
use Rattle.ended.specs.declared.Ended.{Ended}
use Rattle.ended.specs.Ends.{fitted, stopped, Handed, written, told_by, told_of}
use Rattle.ended.specs.Laws.{handed_not}
use Rattle.offset_answer.specs.Calls.{offset_call, Shop}
use Rattle.hollow_answer.specs.Calls.{hollow_call, Yard}
use Rattle.hollow_answer.specs.Laws.{within_ends}
use Rattle.solid_offset.specs.Entries.{lent, offset_laid, offset_entry, hollow_laid, hollow_entry, Given, Rooms, Ample}
use Rattle.solid_offset.specs.Short.{Brief, handed_brief, offset_short, hollow_short}

-- ---- a checked cell and the call's own work memory

module _ {s : List Float} {counts : List ℕ} {n : ℕ} (g : Given s counts n) where
  many : length (cell_at s 0 (counts_at counts 0 n)) ≡ n
  many = sym (length_cell_counts (cell_at s 0 (counts_at counts 0 n))) ∙ ap length (cell_counts_lem s 0 (counts_at counts 0 n)) ∙ length_face counts 0 n g.lies.listed

  pub given_shop : {by points : List Float} {places : List ℕ} {moved dst : List Float} {sizes ends head next seen work nodes cuts : List ℕ} → 64 ≤ length by → 1152 ≤ length points → 384 ≤ length places → 1152 ≤ length moved →
      1984 ≤ length dst → 64 ≤ length sizes → Bench (length places) n ends head next seen work nodes cuts → Shop s counts n by points places moved dst sizes ends head next seen work nodes cuts
  given_shop {dst = dst} b p i m d z w =
      let l : length (counts_at counts 0 n) ≡ n = length_face counts 0 n g.lies.listed in
      record {
        ready = record {
          fits = record { faces = g.lies.listed; floats = g.lies.within; points = omega (arith, g.held, p); places = omega (arith, g.held, i) };
          distances = omega (arith, g.few, b);
          moves = omega (arith, g.held, m);
          place = record { floats = within_ends s 0 (counts_at counts 0 n) (length s) (length dst) g.lies.within (omega (arith, l, g.few, g.held, d)); slots = omega (arith, g.few, z) };
        };
        bench = w;
      }

  pub given_yard : {by points : List Float} {places : List ℕ} {moved dst : List Float} {sizes ends head next seen work nodes cuts : List ℕ} → 64 ≤ length by → 1152 ≤ length points → length places ≡ 384 → 1984 ≤ length moved →
      Rooms (length s) (length counts) (length dst) (length sizes) → Bench (length places) n ends head next seen work nodes cuts → Yard s counts n by points places moved dst sizes ends head next seen work nodes cuts
  given_yard b p i m r w = record {
    shop = given_shop b p (omega (arith, i)) (omega (arith, m)) r.place r.slots w;
    twice = omega (arith, g.few, g.held, r.floats);
    slots = omega (arith, g.few, r.counted);
    floats = omega (arith, g.few, i, m);
  }

  pub offset_brief : (t : Precision) (room : ℕ) (d : Float) (a₀ a : List ℕ) (r : Ended) → Handed (fitted (length a₀) (offset_call t room d (cell_at s 0 (counts_at counts 0 n)))) a₀ a r → Brief (fitted (length a₀) (offset_call t room d (cell_at s 0 (counts_at counts 0 n)))) a₀ a r
  offset_brief t room d a₀ a r h = let c = cell_at s 0 (counts_at counts 0 n) in handed_brief (length a₀) (offset_call t room d c) a₀ a r h (offset_short t room d c (omega (arith, many, g.few)) g.held)

  pub hollow_brief : (t : Precision) (room : ℕ) (w : Float) (a₀ a : List ℕ) (r : Ended) → Handed (fitted (length a₀) (hollow_call t room w (cell_at s 0 (counts_at counts 0 n)))) a₀ a r → Brief (fitted (length a₀) (hollow_call t room w (cell_at s 0 (counts_at counts 0 n)))) a₀ a r
  hollow_brief t room w a₀ a r h = let c = cell_at s 0 (counts_at counts 0 n) in handed_brief (length a₀) (hollow_call t room w c) a₀ a r h (hollow_short t room w c (omega (arith, many, g.few)) g.held)

-- ---- the end of a call that was refused

brief_not : (o : Outcome (List ℕ)) (a : List ℕ) (r : Ended) (x : Refusal) → o ≡ Err x → r ≡ stopped x → Brief (fitted (length a) o) a a r
brief_not o a r x e g = record { handed = handed_not o a a r x e g refl; few = omega (arith, ap (λ z. z.bytes) g) }

brief_as : (o p : Outcome (List ℕ)) (a a' : List ℕ) (r : Ended) → o ≡ p → Brief (fitted (length a) p) a a' r → Brief (fitted (length a) o) a a' r
brief_as o p a a' r e h = subst (λ z. Brief (fitted (length a) z) a a' r) (sym e) h

-- ---- the solid

module _ (f : Cell → Outcome (List ℕ)) (o : Outcome Cell) (r : Outcome ℕ) (s : List Float) (counts : List ℕ) (T : Took o r s counts) where
  solid_stops : (a : List ℕ) (x : Refusal) (e : Ended) → r ≡ Err x → e ≡ stopped x → Brief (fitted (length a) (then o f)) a a e
  solid_stops a x e v g = brief_not (then o f) a e x (stop o f x (taken_not o r x T.is v)) g

  module _ (n : ℕ) (v : r ≡ Ok n) where
    stands : Stands (taken_fine o r n T.is v).0 n s counts
    stands = let c = taken_fine o r n T.is v in subst (λ k. Stands c.0 k s counts) (sym c.2) (T.holds c.0 c.1)

    solid_given : Given s counts n
    solid_given = record {
      lies = record { listed = stands.listed; within = stands.within };
      few = stands.few;
      held = omega (arith, ap (corners 0) stands.is, stands.fit);
    }

    solid_ends : (a a' : List ℕ) (e : Ended) → Brief (fitted (length a) (f (cell_at s 0 (counts_at counts 0 n)))) a a' e → Brief (fitted (length a) (then o f)) a a' e
    solid_ends a a' e h = brief_as (then o f) (f (cell_at s 0 (counts_at counts 0 n))) a a' e (go o f (taken_fine o r n T.is v).0 (taken_fine o r n T.is v).1 ∙ ap f (sym stands.is)) h

pub taken_given : {o : Outcome Cell} {r : Outcome ℕ} {s : List Float} {counts : List ℕ} {n : ℕ} → Took o r s counts → r ≡ Ok n → Given s counts n
taken_given {o} {r} {s} {counts} {n} T v = solid_given (λ _. Err (refusal_of 0)) o r s counts T n v

module _ (l : List ℕ) (y : CellLayout) (room : ℕ) (d : Float) {r : Outcome ℕ} {s : List Float} {counts : List ℕ} (T : Took (check true y.precision (solid_at l y.solid)) r s counts) where
  abbrev checked : Outcome Cell
  checked = check true y.precision (solid_at l y.solid)

  pub offset_not : (a : List ℕ) (x : Refusal) (e : Ended) → r ≡ Err x → e ≡ stopped x → Brief (fitted (length a) (offset_laid l room d y)) a a e
  unfolding offset_laid
  offset_not a x e v g = solid_stops (offset_call y.precision room d) checked r s counts T a x e v g

  pub offset_done : (a a' : List ℕ) (e : Ended) {n : ℕ} → r ≡ Ok n → Brief (fitted (length a) (offset_call y.precision room d (cell_at s 0 (counts_at counts 0 n)))) a a' e → Brief (fitted (length a) (offset_laid l room d y)) a a' e
  unfolding offset_laid
  offset_done a a' e {n} v h = solid_ends (offset_call y.precision room d) checked r s counts T n v a a' e h

  module _ (b : Bool) (h : b ≡ thick y.precision d) (t : b ≡ true) where
    thick_on : hollow_laid l room d y ≡ then (check true y.precision (solid_at l y.solid)) (hollow_call y.precision room d)
    unfolding hollow_laid
    thick_on = ap (λ z. unless (not z) 28 (then checked (hollow_call y.precision room d))) (sym h ∙ t)

    pub hollow_not : (a : List ℕ) (x : Refusal) (e : Ended) → r ≡ Err x → e ≡ stopped x → Brief (fitted (length a) (hollow_laid l room d y)) a a e
    hollow_not a x e v g = brief_as (hollow_laid l room d y) (then checked (hollow_call y.precision room d)) a a e thick_on (solid_stops (hollow_call y.precision room d) checked r s counts T a x e v g)

    pub hollow_done : (a a' : List ℕ) (e : Ended) {n : ℕ} → r ≡ Ok n → Brief (fitted (length a) (hollow_call y.precision room d (cell_at s 0 (counts_at counts 0 n)))) a a' e → Brief (fitted (length a) (hollow_laid l room d y)) a a' e
    hollow_done a a' e {n} v k = brief_as (hollow_laid l room d y) (then checked (hollow_call y.precision room d)) a a' e thick_on (solid_ends (hollow_call y.precision room d) checked r s counts T n v a a' e k)

-- 28
pub hollow_thin : (l : List ℕ) (y : CellLayout) (room : ℕ) (w : Float) (b : Bool) (a : List ℕ) (x : Refusal) (e : Ended) → b ≡ thick y.precision w → b ≡ false → x ≡ refusal_of 28 → e ≡ stopped x → Brief (fitted (length a) (hollow_laid l room w y)) a a e
unfolding hollow_laid
hollow_thin l y room w b a x e h t k g =
    brief_not (hollow_laid l room w y) a e x (ap (λ z. unless (not z) 28 (then (check true y.precision (solid_at l y.solid)) (hollow_call y.precision room w))) (sym h ∙ t) ∙ ap Err (sym k)) g

-- ---- the bytes

lent_rooms : (room answer s counts dst sizes : ℕ) (b : Bool) → b ≡ lent room answer s counts dst sizes → b ≡ true → Rooms s counts dst sizes
unfolding lent
lent_rooms room answer s counts dst sizes b e t =
    let x = and_true (leb room (answer / 64)) ((leb 3968 s && leb 128 counts) && (leb 1984 dst && leb 64 sizes)) (sym e ∙ t) in
    let y = and_true (leb 3968 s && leb 128 counts) (leb 1984 dst && leb 64 sizes) x.1 in
    let z = and_true (leb 3968 s) (leb 128 counts) y.0 in
    let w = and_true (leb 1984 dst) (leb 64 sizes) y.1 in
    record { floats = leb-true 3968 s z.0; counted = leb-true 128 counts z.1; place = leb-true 1984 dst w.0; slots = leb-true 64 sizes w.1 }

pub lent_ample : (room answer s counts dst sizes : ℕ) (b : Bool) → b ≡ lent room answer s counts dst sizes → Ample b s counts dst sizes
lent_ample room answer s counts dst sizes b e = record { rooms = lent_rooms room answer s counts dst sizes b e }

pub same_rooms : {s counts dst sizes s' counts' : ℕ} → Rooms s counts dst sizes → s' ≡ s → counts' ≡ counts → Rooms s' counts' dst sizes
same_rooms r e f = record { floats = omega (arith, r.floats, e); counted = omega (arith, r.counted, f); place = r.place; slots = r.slots }

module _ (lends : Bool) (l : List ℕ) (c : Outcome CellLayout) (o : c ≡ open_cell lends l) where
  opened : (y : CellLayout) → c ≡ Ok y → open_cell lends l ≡ Ok y
  opened y e = sym o ∙ e

  shut : (x : Refusal) → c ≡ Err x → open_cell lends l ≡ Err x
  shut x e = sym o ∙ e

  pub open_lends : (y : CellLayout) → c ≡ Ok y → lends ≡ true
  open_lends y e = (cell_opened lends l y (opened y e)).0

  pub open_stood : (y : CellLayout) → c ≡ Ok y → Stood l y.solid
  open_stood y e = (cell_opened lends l y (opened y e)).1

  pub offset_shut : (room : ℕ) (d : Float) (a : List ℕ) (x : Refusal) (e : Ended) → c ≡ Err x → e ≡ stopped x → Brief (fitted (length a) (offset_entry lends room d l)) a a e
  unfolding offset_entry
  offset_shut room d a x e h g = brief_not (offset_entry lends room d l) a e x (stop (open_cell lends l) (offset_laid l room d) x (shut x h)) g

  pub offset_open : (room : ℕ) (d : Float) (y : CellLayout) (a a' : List ℕ) (e : Ended) → c ≡ Ok y → Brief (fitted (length a) (offset_laid l room d y)) a a' e → Brief (fitted (length a) (offset_entry lends room d l)) a a' e
  unfolding offset_entry
  offset_open room d y a a' e h k = brief_as (offset_entry lends room d l) (offset_laid l room d y) a a' e (go (open_cell lends l) (offset_laid l room d) y (opened y h)) k

  pub hollow_shut : (room : ℕ) (w : Float) (a : List ℕ) (x : Refusal) (e : Ended) → c ≡ Err x → e ≡ stopped x → Brief (fitted (length a) (hollow_entry lends room w l)) a a e
  unfolding hollow_entry
  hollow_shut room w a x e h g = brief_not (hollow_entry lends room w l) a e x (stop (open_cell lends l) (hollow_laid l room w) x (shut x h)) g

  pub hollow_open : (room : ℕ) (w : Float) (y : CellLayout) (a a' : List ℕ) (e : Ended) → c ≡ Ok y → Brief (fitted (length a) (hollow_laid l room w y)) a a' e → Brief (fitted (length a) (hollow_entry lends room w l)) a a' e
  unfolding hollow_entry
  hollow_open room w y a a' e h k = brief_as (hollow_entry lends room w l) (hollow_laid l room w y) a a' e (go (open_cell lends l) (hollow_laid l room w) y (opened y h)) k

-- ---- what is handed back

told_is : (o : Outcome (List ℕ)) (a₀ a : List ℕ) (e : Ended) (r : ℕ) → Brief o a₀ a e → r ≡ told_by e.verdict e.bytes → (r ≡ told_of o) × (a ≡ written o a₀)
unfolding Handed told_by told_of written
told_is (Ok l) a₀ a e r b h = (h ∙ ap (λ z. told_by z.verdict z.bytes) b.handed.0, b.handed.1)
told_is (Err x) a₀ a e r b h = (h ∙ ap (λ z. told_by z.verdict z.bytes) b.handed.0, b.handed.1)

-- the same, where what is lent was worked out before
pub told_with : (f : Bool → Outcome (List ℕ)) (a₀ a : List ℕ) (e : Ended) (r : ℕ) {b c : Bool} → Brief (fitted (length a₀) (f b)) a₀ a e → r ≡ told_by e.verdict e.bytes → b ≡ c →
    (r ≡ told_of (fitted (length a₀) (f c))) × (a ≡ written (fitted (length a₀) (f c)) a₀)
told_with f a₀ a e r {b} {c} h g k = subst (λ z. (r ≡ told_of (fitted (length a₀) (f z))) × (a ≡ written (fitted (length a₀) (f z)) a₀)) k (told_is (fitted (length a₀) (f b)) a₀ a e r h g)
