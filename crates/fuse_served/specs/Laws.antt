-- Laws of the call, in the words of the code: what is lent suffices for the pieces and for their bodies, and both make the call.
use Rattle.std.specs.Prelude.{◌≡◌, refl, Bool, List, ℕ, ◌*◌, ◌≤◌, length, Float, Ok, Err}
use Rattle.std.proofs.Math.Path.{sym, ap, subst}
use Rattle.std.proofs.Common.{◌∙◌, arith}
use Rattle.refusal.specs.declared.Refusal.{Refusal}
use Rattle.refusal.specs.Outcome.{Outcome, then}
use Rattle.refusal.specs.Laws.{stop, go}
use Rattle.room.specs.Rooms.{cell_at, counts_at}
use Rattle.clip.specs.Clips.{Given, Wide}
use Rattle.stack.specs.declared.Stack.{Stack}
use Rattle.stack.specs.Stacks.{stack_of, list_at, Listed, Places, Holds}
use Rattle.stack.specs.Laws.{listed_is, listed_refused, holds}
use Rattle.cells.specs.Rests.{Sits, Place}
use Rattle.pieces.specs.Pieces.{pieces_of}
use Rattle.job.specs.declared.Layout.{Layout}
use Rattle.intake.specs.Layouts.{Stood}
use Rattle.jobs.specs.declared.Pair.{Pair}
use Rattle.jobs.specs.Jobs.{open_job, Both, both_of, TookBoth}
use Rattle.jobs.specs.Laws.{job_opened, pair_stop, pair_cells, pair_go}
use Rattle.arrangement.specs.Arrangements as R
use Rattle.fused.specs.Bodies.{fuse_cells}
use Rattle.fuse_list.specs.Lists.{Tools}
use Rattle.fused_bytes.specs.Bytes.{answer_of}
use Rattle.ended.specs.declared.Ended.{Ended}
use Rattle.ended.specs.Ends.{stopped, ended_of, written}
use Rattle.fuse_lent.specs.Lent.{Lent, lends}
use Rattle.fuse_lent.specs.Laws.{lent_is}
use Rattle.fuse_served.specs.Call.{fused_of, fuse_call}
use Rattle.fuse_served.specs.Entry.{pieces_both, fuse_both, fuse_laid, fuse_entry, FuseEnded}

-- ---- the solids of the job, and their pieces

module _ (l : List ℕ) (y : Layout) (r : Outcome Pair) (a : List Float) (held : List ℕ) (b : List Float) (counts : List ℕ) (T : TookBoth (both_of l y) r a held b counts) where
  -- a solid is refused
  pub cut_stop : (room : ℕ) (q : Refusal) (d : List Float) (n z : List ℕ) → r ≡ Err q →
      Listed room (then (both_of l y) (pieces_both room y)) (record { verdict = Err q; cells = 0; faces = 0; corners = 0 }) d n z
  unfolding stack_of
  cut_stop room q d n z v =
      let e : then (both_of l y) (pieces_both room y) ≡ Err q = pair_stop l y r a held b counts T (pieces_both room y) q v in
      let s : Stack = record { verdict = Err q; cells = 0; faces = 0; corners = 0 } in
      subst (λ o. Listed room o s d n z) (sym e) (listed_refused room q s d n z refl)

  -- both stand in their rooms
  pub cut_cells : (p : Pair) → r ≡ Ok p → Sits p.first a held × Given b 0 counts 0 p.second × Wide (cell_at b 0 (counts_at counts 0 p.second)) × (1 ≤ p.second) × (p.second ≤ 128)
  cut_cells p v =
      let q = pair_cells l y r a held b counts T p v in
      let s = q.2 in
      let w = q.3 in (
        record { given = record { listed = s.listed; within = s.within }; wide = s.wide; some = omega (arith, s.some); few = omega (arith, s.few) },
        record { listed = w.listed; within = w.within },
        w.wide,
        omega (arith, w.some),
        omega (arith, w.few),
      )

  pub cut_go : (room : ℕ) (s : Stack) (d : List Float) (n z : List ℕ) (p : Pair) → r ≡ Ok p →
      Listed room (pieces_of y.operation y.precision room (cell_at a 0 (counts_at held 0 p.first)) (cell_at b 0 (counts_at counts 0 p.second))) s d n z → Listed room (then (both_of l y) (pieces_both room y)) s d n z
  cut_go room s d n z p v h = subst (λ o. Listed room o s d n z) (pair_go l y r a held b counts T (pieces_of y.operation y.precision room) p v) h

-- ---- the pieces, their bodies, and the bytes

fused_is : (room : ℕ) (y : Layout) (o : Outcome Both) → answer_of (then (then o (pieces_both room y)) (fuse_cells y.precision room)) ≡ then o (fuse_both room y)
unfolding answer_of fuse_call fused_of
fused_is room y (Ok p) = refl
fused_is room y (Err q) = refl

laid_is : (l : List ℕ) (room : ℕ) (y : Layout) (s : Stack) (d : List Float) (n z : List ℕ) → Listed room (then (both_of l y) (pieces_both room y)) s d n z →
    answer_of (then (list_at s d n z) (fuse_cells y.precision room)) ≡ fuse_laid l room y
unfolding fuse_laid
laid_is l room y s d n z H = ap (λ o. answer_of (then o (fuse_cells y.precision room))) (listed_is room (then (both_of l y) (pieces_both room y)) s d n z H) ∙ fused_is room y (both_of l y)

-- ---- the job is refused

pub entry_refused : (enough lent : Bool) (room : ℕ) (l : List ℕ) (c : Outcome Layout) (x : Refusal) (r : Ended) (answer : List ℕ) → enough ≡ lent → c ≡ open_job enough l → c ≡ Err x → r ≡ stopped x →
    ((r ≡ ended_of (fuse_entry lent room l)) × (r.bytes ≤ 274877906944) × (r.bytes ≤ 64 * room)) × (answer ≡ written (fuse_entry lent room l) answer)
unfolding fuse_entry ended_of written
entry_refused enough lent room l c x r answer q e g h =
    let w : Err x ≡ fuse_entry lent room l = sym (stop (open_job enough l) (fuse_laid l room) x (sym e ∙ g)) ∙ ap (λ b. fuse_entry b room l) q in
    let z : r.bytes ≡ 0 = ap (λ k. k.bytes) h in
    ((h ∙ ap ended_of w, omega (arith, z), omega (arith, z)), ap (λ o. written o answer) w)

-- ---- the job is read: what the test said, and what it means

module _ (room : ℕ) (answer : List ℕ) (rest spare dst : List Float) (held slots counts sizes seats lengths owners cells cuts runs keys begins ord ends marks out many shells : List ℕ) (enough : Bool) (l : List ℕ) (c : Outcome Layout) (y : Layout)
    (q : enough ≡ lends room (length answer) (length rest) (length spare) (length dst) (length held) (length slots) (length counts) (length sizes) (length seats) (length lengths) (length owners) (length cells) (length cuts) (length runs) (length keys) (length begins) (length ord) (length ends) (length marks) (length out) (length many) (length shells))
    (e : c ≡ open_job enough l) (g : c ≡ Ok y) where
  opened : open_job enough l ≡ Ok y
  opened = sym e ∙ g

  lent : Lent room (length answer) (length rest) (length spare) (length dst) (length held) (length slots) (length counts) (length sizes) (length seats) (length lengths) (length owners) (length cells) (length cuts) (length runs) (length keys) (length begins) (length ord) (length ends) (length marks) (length out) (length many) (length shells)
  lent = lent_is room (length answer) (length rest) (length spare) (length dst) (length held) (length slots) (length counts) (length sizes) (length seats) (length lengths) (length owners) (length cells) (length cuts) (length runs) (length keys) (length begins) (length ord) (length ends) (length marks) (length out) (length many) (length shells) (sym q ∙ (job_opened enough l y opened).0)

  pub cut_asks : (Stood l y.first × Stood l y.second) × ((1984 ≤ length rest) × Place room rest held × Places room dst counts sizes × Places room spare slots seats)
  cut_asks =
      let o = job_opened enough l y opened in
      let L = lent in (
        (o.1, o.2),
        (
          omega (arith, L.rest_fits),
          record { place = omega (arith, L.rest_fits); slots = omega (arith, L.held_fits) },
          record { place = L.dst_fits; slots = L.counts_fit; seats = L.sizes_fit },
          record { place = L.spare_fits; slots = L.slots_fit; seats = L.seats_fit },
        ),
      )

  pub ends_long : room ≤ length ends
  ends_long = lent.ends_fit

  -- after the pieces, with the front of `ends`
  module _ (s : Stack) (d : List Float) (n sizes' : List ℕ) (H : Listed room (then (both_of l y) (pieces_both room y)) s d n sizes') where
    pub fuse_asks : (rest' : List Float) (held' slots' seats' ends' : List ℕ) → length rest' ≡ length rest → length held' ≡ length held → length slots' ≡ length slots → length sizes' ≡ length sizes → length seats' ≡ length seats → length ends' ≡ room →
        Holds room s d n sizes' × R.Lent room rest' held' slots' lengths seats' owners × Tools room held' cells cuts lengths runs keys begins ord ends' sizes' marks out many shells × (64 * room ≤ length answer)
    fuse_asks rest' held' slots' seats' ends' er eh es ez et ee =
        let L = lent in (
          holds room (then (both_of l y) (pieces_both room y)) s d n sizes' H,
          record {
            low = omega (arith, L.low);
            points = omega (arith, er, L.rest_fits);
            corners = omega (arith, eh, L.held_fits);
            cycles = omega (arith, es, L.slots_fit);
            lengths = L.lengths_fit;
            starts = omega (arith, et, L.seats_fit);
            owners = L.owners_fit;
          },
          record {
            low = omega (arith, L.low);
            ext = omega (arith, eh, L.held_fits);
            cells = L.cells_fit;
            cuts = L.cuts_fit;
            faces = L.lengths_fit;
            runs = L.runs_fit;
            keys = L.keys_fit;
            begins = L.begins_fit;
            order = L.ord_fits;
            ends = omega (arith, ee);
            links = omega (arith, ee, L.keys_fit);
            nodes = omega (arith, ez, L.sizes_fit);
            marks = L.marks_fit;
            out = L.out_fits;
            sizes = L.many_fit;
            shells = L.shells_fit;
          },
          L.answer_fits,
        )

    pub entry_made : (r : Ended) (answer' : List ℕ) →
        ((r ≡ ended_of (answer_of (then (list_at s d n sizes') (fuse_cells y.precision room)))) × (r.bytes ≤ 64 * room)) × (answer' ≡ written (answer_of (then (list_at s d n sizes') (fuse_cells y.precision room))) answer) →
        FuseEnded l room rest spare dst held slots counts sizes seats lengths owners cells cuts runs keys begins ord ends marks out many shells answer r answer'
    unfolding fuse_entry
    entry_made r answer' h =
        let w = laid_is l room y s d n sizes' H ∙ sym (go (open_job enough l) (fuse_laid l room) y opened) ∙ ap (λ b. fuse_entry b room l) q in
        ((h.0.0 ∙ ap ended_of w, omega (arith, lent.low, h.0.1), h.0.1), h.1 ∙ ap (λ o. written o answer) w)
