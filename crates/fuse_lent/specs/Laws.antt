-- The test tells what is lent.
use Rattle.std.specs.Prelude.{◌≡◌, Bool, false, ◌&&◌, ℕ, ◌+◌, ◌*◌, ◌/◌, ◌≤◌, ◌<◌}
use Rattle.std.proofs.Math.Path.{sym, ap}
use Rattle.std.proofs.Common.{◌∙◌, arith}
use Rattle.std.proofs.Math.Bool.{true}
use Rattle.std.proofs.Math.Dec.{leb, ltb}
use borrow.Author.Tests.{leb-true, ltb-true, lt-leb, le-leb, lt-ltb}
use Rattle.refusal.specs.Tests.{and_true}
use Rattle.fuse_lent.specs.Lent.{Lent, lengthy, lends}

module _ (room answer rest spare dst held slots counts sizes seats lengths owners cells cuts runs keys begins ord ends marks out many shells : ℕ) where
  abbrev floats : Bool
  floats = (leb (3 * room + 1984) rest && leb (11 * room + 1664) spare) && leb (11 * room + 1664) dst

  abbrev list : Bool
  list = ((leb (room + 128) held && leb (room + 128) slots) && leb (room + 128) counts) && (ltb room sizes && ltb room seats)

  abbrev layout : Bool
  layout = (leb room lengths && leb room owners) && (leb room cells && ltb room cuts)

  abbrev sorting : Bool
  sorting = (leb (3 * room) runs && leb (2 * room) keys) && (ltb room begins && leb room ord)

  abbrev bodies : Bool
  bodies = (leb room ends && ltb room marks) && ((leb room out && leb room many) && leb room shells)

  pub lends_not : 4294967296 < room → false ≡ lends room answer rest spare dst held slots counts sizes seats lengths owners cells cuts runs keys begins ord ends marks out many shells
  unfolding lends
  lends_not h = sym (ap (λ b. b && lengthy room answer rest spare dst held slots counts sizes seats lengths owners cells cuts runs keys begins ord ends marks out many shells) (lt-leb room 4294967296 h))

  pub lends_rest : room ≤ 4294967296 → lengthy room answer rest spare dst held slots counts sizes seats lengths owners cells cuts runs keys begins ord ends marks out many shells ≡ lends room answer rest spare dst held slots counts sizes seats lengths owners cells cuts runs keys begins ord ends marks out many shells
  unfolding lends
  lends_rest h = sym (ap (λ b. b && lengthy room answer rest spare dst held slots counts sizes seats lengths owners cells cuts runs keys begins ord ends marks out many shells) (le-leb room 4294967296 h))

  pub lent_is : lends room answer rest spare dst held slots counts sizes seats lengths owners cells cuts runs keys begins ord ends marks out many shells ≡ true → Lent room answer rest spare dst held slots counts sizes seats lengths owners cells cuts runs keys begins ord ends marks out many shells
  unfolding lends
  lent_is q =
      let a = and_true (leb room 4294967296) (lengthy room answer rest spare dst held slots counts sizes seats lengths owners cells cuts runs keys begins ord ends marks out many shells) q in
      let b = and_true (leb room (answer / 64)) ((floats && list) && (layout && (sorting && bodies))) a.1 in
      let c = and_true (floats && list) (layout && (sorting && bodies)) b.1 in
      let d = and_true floats list c.0 in
      let e = and_true layout (sorting && bodies) c.1 in
      let f = and_true sorting bodies e.1 in
      let fa = and_true (leb (3 * room + 1984) rest && leb (11 * room + 1664) spare) (leb (11 * room + 1664) dst) d.0 in
      let fb = and_true (leb (3 * room + 1984) rest) (leb (11 * room + 1664) spare) fa.0 in
      let la = and_true ((leb (room + 128) held && leb (room + 128) slots) && leb (room + 128) counts) (ltb room sizes && ltb room seats) d.1 in
      let lb = and_true (leb (room + 128) held && leb (room + 128) slots) (leb (room + 128) counts) la.0 in
      let lc = and_true (leb (room + 128) held) (leb (room + 128) slots) lb.0 in
      let ld = and_true (ltb room sizes) (ltb room seats) la.1 in
      let ya = and_true (leb room lengths && leb room owners) (leb room cells && ltb room cuts) e.0 in
      let yb = and_true (leb room lengths) (leb room owners) ya.0 in
      let yc = and_true (leb room cells) (ltb room cuts) ya.1 in
      let sa = and_true (leb (3 * room) runs && leb (2 * room) keys) (ltb room begins && leb room ord) f.0 in
      let sb = and_true (leb (3 * room) runs) (leb (2 * room) keys) sa.0 in
      let sc = and_true (ltb room begins) (leb room ord) sa.1 in
      let ba = and_true (leb room ends && ltb room marks) ((leb room out && leb room many) && leb room shells) f.1 in
      let bb = and_true (leb room ends) (ltb room marks) ba.0 in
      let bc = and_true (leb room out && leb room many) (leb room shells) ba.1 in
      let bd = and_true (leb room out) (leb room many) bc.0 in
      record {
        low = leb-true room 4294967296 a.0;
        answer_fits = omega (arith, leb-true room (answer / 64) b.0);
        rest_fits = leb-true (3 * room + 1984) rest fb.0;
        spare_fits = leb-true (11 * room + 1664) spare fb.1;
        dst_fits = leb-true (11 * room + 1664) dst fa.1;
        held_fits = leb-true (room + 128) held lc.0;
        slots_fit = leb-true (room + 128) slots lc.1;
        counts_fit = leb-true (room + 128) counts lb.1;
        sizes_fit = ltb-true room sizes ld.0;
        seats_fit = ltb-true room seats ld.1;
        lengths_fit = leb-true room lengths yb.0;
        owners_fit = leb-true room owners yb.1;
        cells_fit = leb-true room cells yc.0;
        cuts_fit = ltb-true room cuts yc.1;
        runs_fit = leb-true (3 * room) runs sb.0;
        keys_fit = leb-true (2 * room) keys sb.1;
        begins_fit = ltb-true room begins sc.0;
        ord_fits = leb-true room ord sc.1;
        ends_fit = leb-true room ends bb.0;
        marks_fit = ltb-true room marks bb.1;
        out_fits = leb-true room out bd.0;
        many_fit = leb-true room many bd.1;
        shells_fit = leb-true room shells bc.1;
      }

  -- and nothing else: what suffices is taken
  pub lends_all : Lent room answer rest spare dst held slots counts sizes seats lengths owners cells cuts runs keys begins ord ends marks out many shells → lends room answer rest spare dst held slots counts sizes seats lengths owners cells cuts runs keys begins ord ends marks out many shells ≡ true
  unfolding lends
  lends_all L =
      let both : (a b : Bool) → a ≡ true → b ≡ true → a && b ≡ true = λ a b e g. ap (λ x. x && b) e ∙ g in
      let le : (i j : ℕ) → i ≤ j → leb i j ≡ true = λ i j h. le-leb i j h in
      let lt : (i j : ℕ) → i < j → ltb i j ≡ true = λ i j h. lt-ltb i j h in
      both _ _ (le _ _ L.low) (both _ _ (le room (answer / 64) (omega (arith, L.answer_fits))) (
      both _ _ (
      both _ _ (both _ _ (both _ _ (le _ _ L.rest_fits) (le _ _ L.spare_fits)) (le _ _ L.dst_fits))
      (both _ _ (both _ _ (both _ _ (le _ _ L.held_fits) (le _ _ L.slots_fit)) (le _ _ L.counts_fit)) (both _ _ (lt _ _ L.sizes_fit) (lt _ _ L.seats_fit)))
      ) (
      both _ _ (both _ _ (both _ _ (le _ _ L.lengths_fit) (le _ _ L.owners_fit)) (both _ _ (le _ _ L.cells_fit) (lt _ _ L.cuts_fit)))
      (both _ _ (both _ _ (both _ _ (le _ _ L.runs_fit) (le _ _ L.keys_fit)) (both _ _ (lt _ _ L.begins_fit) (le _ _ L.ord_fits)))
      (both _ _ (both _ _ (le _ _ L.ends_fit) (lt _ _ L.marks_fit)) (both _ _ (both _ _ (le _ _ L.out_fits) (le _ _ L.many_fit)) (le _ _ L.shells_fit))))
      )
      ))
