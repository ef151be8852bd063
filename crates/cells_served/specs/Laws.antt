-- Laws of the call, in the words of the code.
use Rattle.std.specs.Prelude.{◌≡◌, refl, Bool, true, ◌&&◌, List, ℕ, ◌+◌, ◌*◌, ◌/◌, ◌≤◌, length, Float, Ok, Err}
use Rattle.std.proofs.Math.Path.{sym, ap, subst}
use Rattle.std.proofs.Common.{◌∙◌, arith}
use Rattle.std.proofs.Math.Dec.{leb, ltb}
use borrow.Author.Tests.{leb-true, ltb-true}
use Rattle.refusal.specs.declared.Refusal.{Refusal}
use Rattle.refusal.specs.Outcome.{Outcome, then}
use Rattle.refusal.specs.Laws.{stop, go}
use Rattle.refusal.specs.Tests.{and_true}
use Rattle.room.specs.Rooms.{cell_at, counts_at}
use Rattle.room.specs.Steps.{then_then}
use Rattle.clip.specs.Clips.{Given, Wide}
use Rattle.stack.specs.declared.Stack.{Stack}
use Rattle.stack.specs.Stacks.{stack_of, list_at, Listed, Holds, Places}
use Rattle.stack.specs.Laws.{listed_is, listed_refused, holds}
use Rattle.cells.specs.Rests.{Sits, Place}
use Rattle.cells.specs.Cells.{cells}
use Rattle.built.specs.Built.{Bench}
use Rattle.finish.specs.Finish.{finish, solids_told, Finished, Holding, Shelf}
use Rattle.finish.specs.Laws.{told_is}
use Rattle.cell_answer.specs.Solids.{solids_answer}
use Rattle.ended.specs.declared.Ended.{Ended}
use Rattle.ended.specs.Ends.{stopped, ended_of, written}
use Rattle.job.specs.declared.Layout.{Layout}
use Rattle.intake.specs.Layouts.{Stood}
use Rattle.jobs.specs.declared.Pair.{Pair}
use Rattle.jobs.specs.Jobs.{open_job, both_of, TookBoth}
use Rattle.jobs.specs.Laws.{job_opened, pair_stop, pair_cells, pair_go}
use Rattle.cells_served.specs.Call.{cells_call}
use Rattle.cells_served.specs.Entry.{cut_both, cells_laid, cells_entry, lengthy, lends, Lent}

-- ---- what is lent

module _ (room answer rest spare dst held slots counts sizes order chain head seen work nodes cuts : ℕ) where
  abbrev floats : Bool
  floats = (leb (3 * room + 1984) rest && leb (3 * room + 1664) spare) && leb (11 * room + 1664) dst

  abbrev list : Bool
  list = (leb (room + 128) held && leb (room + 128) slots) && (leb (room + 128) counts && ltb room sizes)

  abbrev cut : Bool
  cut = leb (2 * room + 1024) order && leb (2 * room + 2048) chain

  abbrev faces : Bool
  faces = (leb room head && leb room seen) && ((leb room work && leb room nodes) && ltb room cuts)

  pub lends_low : lends room answer rest spare dst held slots counts sizes order chain head seen work nodes cuts ≡ true → room ≤ 4294967296
  unfolding lends
  lends_low q = leb-true room 4294967296 (and_true (leb room 4294967296) (lengthy room answer rest spare dst held slots counts sizes order chain head seen work nodes cuts) q).0

  pub lent_is : lends room answer rest spare dst held slots counts sizes order chain head seen work nodes cuts ≡ true → Lent room answer rest spare dst held slots counts sizes order chain head seen work nodes cuts
  unfolding lends
  lent_is q =
      let a = and_true (leb room 4294967296) (lengthy room answer rest spare dst held slots counts sizes order chain head seen work nodes cuts) q in
      let b = and_true (leb room (answer / 64)) ((floats && list) && (cut && faces)) a.1 in
      let c = and_true (floats && list) (cut && faces) b.1 in
      let d = and_true floats list c.0 in
      let e = and_true cut faces c.1 in
      let f = and_true (leb (3 * room + 1984) rest && leb (3 * room + 1664) spare) (leb (11 * room + 1664) dst) d.0 in
      let g = and_true (leb (3 * room + 1984) rest) (leb (3 * room + 1664) spare) f.0 in
      let h = and_true (leb (room + 128) held && leb (room + 128) slots) (leb (room + 128) counts && ltb room sizes) d.1 in
      let i = and_true (leb (room + 128) held) (leb (room + 128) slots) h.0 in
      let j = and_true (leb (room + 128) counts) (ltb room sizes) h.1 in
      let k = and_true (leb (2 * room + 1024) order) (leb (2 * room + 2048) chain) e.0 in
      let m = and_true (leb room head && leb room seen) ((leb room work && leb room nodes) && ltb room cuts) e.1 in
      let n = and_true (leb room head) (leb room seen) m.0 in
      let o = and_true (leb room work && leb room nodes) (ltb room cuts) m.1 in
      let p = and_true (leb room work) (leb room nodes) o.0 in
      record {
        answer_fits = omega (arith, leb-true room (answer / 64) b.0);
        rest_fits = leb-true (3 * room + 1984) rest g.0;
        spare_fits = leb-true (3 * room + 1664) spare g.1;
        dst_fits = leb-true (11 * room + 1664) dst f.1;
        held_fits = leb-true (room + 128) held i.0;
        slots_fit = leb-true (room + 128) slots i.1;
        counts_fit = leb-true (room + 128) counts j.0;
        sizes_fit = ltb-true room sizes j.1;
        order_fits = leb-true (2 * room + 1024) order k.0;
        chain_fits = leb-true (2 * room + 2048) chain k.1;
        head_fits = leb-true room head n.0;
        seen_fits = leb-true room seen n.1;
        work_fits = leb-true room work p.0;
        nodes_fit = leb-true room nodes p.1;
        cuts_fit = ltb-true room cuts o.1;
      }

module _ (room : ℕ) (answer : List ℕ) (rest spare dst : List Float) (held slots counts sizes order chain head seen work nodes cuts : List ℕ)
    (L : Lent room (length answer) (length rest) (length spare) (length dst) (length held) (length slots) (length counts) (length sizes) (length order) (length chain) (length head) (length seen) (length work) (length nodes) (length cuts)) where
  pub lent_cut : (1984 ≤ length rest) × (Place room rest held × Place room spare slots × Places room dst counts sizes)
  lent_cut = (
    omega (arith, L.rest_fits),
    (
      record { place = omega (arith, L.rest_fits); slots = omega (arith, L.held_fits) },
      record { place = omega (arith, L.spare_fits); slots = omega (arith, L.slots_fit) },
      record { place = L.dst_fits; slots = L.counts_fit; seats = L.sizes_fit },
    ),
  )

  -- after the cut
  pub lent_check : (rest' : List Float) (held' slots' : List ℕ) → length rest' ≡ length rest → length held' ≡ length held → length slots' ≡ length slots → Shelf room rest' held' slots' × Bench room room order head chain seen work nodes cuts
  lent_check rest' held' slots' er eh es = (
    record { points = omega (arith, er, L.rest_fits); places = omega (arith, eh, L.held_fits); marks = omega (arith, es, L.slots_fit) },
    record { ends_fit = omega (arith, L.order_fits); next_fits = omega (arith, L.chain_fits); corners_fit = L.nodes_fit; head_fits = L.head_fits; seen_fits = L.seen_fits; work_fits = L.work_fits; nodes_fit = L.nodes_fit; cuts_fit = L.cuts_fit },
  )

-- ---- the two solids, and their cells

module _ (l : List ℕ) (y : Layout) (r : Outcome Pair) (a : List Float) (held : List ℕ) (b : List Float) (corners : List ℕ) (T : TookBoth (both_of l y) r a held b corners) where
  pub cut_stop : (room : ℕ) (q : Refusal) (d : List Float) (n z : List ℕ) → r ≡ Err q → Listed room (then (both_of l y) (cut_both room y)) (record { verdict = Err q; cells = 0; faces = 0; corners = 0 }) d n z
  unfolding stack_of
  cut_stop room q d n z v =
      let s : Stack = record { verdict = Err q; cells = 0; faces = 0; corners = 0 } in
      subst (λ o. Listed room o s d n z) (sym (pair_stop l y r a held b corners T (cut_both room y) q v)) (listed_refused room q s d n z refl)

  -- the cells in their rooms
  pub cut_given : (p : Pair) → r ≡ Ok p → Sits p.first a held × Given b 0 corners 0 p.second × Wide (cell_at b 0 (counts_at corners 0 p.second)) × (1 ≤ p.second) × (p.second ≤ 128)
  cut_given p v =
      let q = pair_cells l y r a held b corners T p v in
      let f = q.2 in
      let s = q.3 in (
        record { given = record { listed = f.listed; within = f.within }; wide = f.wide; some = omega (arith, f.some); few = omega (arith, f.few) },
        record { listed = s.listed; within = s.within },
        s.wide,
        omega (arith, s.some),
        omega (arith, s.few),
      )

  pub cut_go : (room : ℕ) (s : Stack) (d : List Float) (n z : List ℕ) (p : Pair) → r ≡ Ok p →
      Listed room (cells y.operation y.precision room (cell_at a 0 (counts_at held 0 p.first)) (cell_at b 0 (counts_at corners 0 p.second))) s d n z → Listed room (then (both_of l y) (cut_both room y)) s d n z
  cut_go room s d n z p v L = subst (λ o. Listed room o s d n z) (pair_go l y r a held b corners T (cells y.operation y.precision room) p v) L

-- ---- the list, its solids, and their bytes

module _ (l : List ℕ) (room : ℕ) (y : Layout) (s : Stack) (d : List Float) (n z : List ℕ) (L : Listed room (then (both_of l y) (cut_both room y)) s d n z) where
  pub cut_holds : Holds room s d n z
  cut_holds = holds room (then (both_of l y) (cut_both room y)) s d n z L

  pub laid_is : (v : Outcome Unit) (p : List Float) (i m : List ℕ) → Finished room s.cells (then (list_at s d n z) (finish y.precision)) v p i n z m → then (solids_told v s.cells p i n z m) solids_answer ≡ cells_laid l room y
  unfolding cells_laid cells_call
  laid_is v p i m F =
      ap (λ o. then o solids_answer) (told_is room s.cells (then (list_at s d n z) (finish y.precision)) v p i n z m F ∙ ap (λ o. then o (finish y.precision)) (listed_is room (then (both_of l y) (cut_both room y)) s d n z L))
      ∙ then_then (then (both_of l y) (cut_both room y)) (finish y.precision) solids_answer
      ∙ then_then (both_of l y) (cut_both room y) (λ cs. then (finish y.precision cs) solids_answer)

-- ---- the job

pub entry_opened : (enough : Bool) (l : List ℕ) (c : Outcome Layout) (y : Layout) → c ≡ open_job enough l → c ≡ Ok y → (enough ≡ true) × Stood l y.first × Stood l y.second
entry_opened enough l c y e g = job_opened enough l y (sym e ∙ g)

module _ (enough : Bool) (room : ℕ) (l : List ℕ) where
  pub entry_made : (c : Outcome Layout) (y : Layout) (k : ℕ) (v : Outcome Unit) (p : List Float) (i n z m : List ℕ) (r : Ended) (answer answer' : List ℕ) → c ≡ open_job enough l → c ≡ Ok y → room ≤ 4294967296 →
      then (solids_told v k p i n z m) solids_answer ≡ cells_laid l room y →
      ((r ≡ ended_of (then (solids_told v k p i n z m) solids_answer)) × (r.bytes ≤ 32 * room)) × (answer' ≡ written (then (solids_told v k p i n z m) solids_answer) answer) →
      ((r ≡ ended_of (cells_entry enough room l)) × (r.bytes ≤ 137438953472)) × (answer' ≡ written (cells_entry enough room l) answer)
  unfolding cells_entry
  entry_made c y k v p i n z m r answer answer' e g low w h =
      let q : then (solids_told v k p i n z m) solids_answer ≡ cells_entry enough room l = w ∙ sym (go (open_job enough l) (cells_laid l room) y (sym e ∙ g)) in
      ((h.0.0 ∙ ap ended_of q, omega (arith, low, h.0.1)), h.1 ∙ ap (λ o. written o answer) q)

  pub entry_refused : (c : Outcome Layout) (q : Refusal) (r : Ended) (answer : List ℕ) → c ≡ open_job enough l → c ≡ Err q → r ≡ stopped q →
      ((r ≡ ended_of (cells_entry enough room l)) × (r.bytes ≤ 137438953472)) × (answer ≡ written (cells_entry enough room l) answer)
  unfolding cells_entry ended_of written
  entry_refused c q r answer e g h =
      let w : Err q ≡ cells_entry enough room l = sym (stop (open_job enough l) (cells_laid l room) q (sym e ∙ g)) in
      let z : r.bytes ≡ 0 = ap (λ k. k.bytes) h in
      ((h ∙ ap ended_of w, omega (arith, z)), ap (λ o. written o answer) w)
