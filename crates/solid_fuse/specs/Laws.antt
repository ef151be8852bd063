-- The work slices after the call, in the words of the code.
use Rattle.std.specs.Prelude.{◌≡◌, List, ℕ, Float}
use Rattle.clear.specs.Clear.{zeros}
use Rattle.solid_fuse.specs.Cleared.{Half, Cleared}

-- the second half of the work slices is zeroed behind the first
pub all_zero : {rest rest' spare spare' dst dst' : List Float} {held held' slots slots' counts counts' sizes sizes' seats seats' lengths lengths' owners owners' cells cells' cuts cuts' runs runs' keys keys' begins begins' ord ord' ends ends' marks marks' out out' many many' shells shells' : List ℕ} →
    Half rest rest' spare spare' dst dst' held held' slots slots' counts counts' sizes sizes' seats seats' lengths lengths' owners owners' cells cells' → cuts' ≡ zeros cuts → runs' ≡ zeros runs → keys' ≡ zeros keys → begins' ≡ zeros begins → ord' ≡ zeros ord → ends' ≡ zeros ends → marks' ≡ zeros marks → out' ≡ zeros out → many' ≡ zeros many → shells' ≡ zeros shells →
    Cleared rest rest' spare spare' dst dst' held held' slots slots' counts counts' sizes sizes' seats seats' lengths lengths' owners owners' cells cells' cuts cuts' runs runs' keys keys' begins begins' ord ord' ends ends' marks marks' out out' many many' shells shells'
all_zero h e0 e1 e2 e3 e4 e5 e6 e7 e8 e9 =
    record {
      z_rest = h.z_rest;
      z_spare = h.z_spare;
      z_dst = h.z_dst;
      z_held = h.z_held;
      z_slots = h.z_slots;
      z_counts = h.z_counts;
      z_sizes = h.z_sizes;
      z_seats = h.z_seats;
      z_lengths = h.z_lengths;
      z_owners = h.z_owners;
      z_cells = h.z_cells;
      z_cuts = e0;
      z_runs = e1;
      z_keys = e2;
      z_begins = e3;
      z_ord = e4;
      z_ends = e5;
      z_marks = e6;
      z_out = e7;
      z_many = e8;
      z_shells = e9;
    }
