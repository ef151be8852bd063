-- What each call of the library may hand back. Definitions only.
use Rattle.std.specs.Prelude.{◌≡◌, List, ℕ, length, Float}
use Rattle.ended.specs.Ends as E
use Rattle.cells_served.specs.Entry as C
use Rattle.solid_cells.specs.Cleared as Z
use Rattle.fuse_lent.specs.Lent.{lends}
use Rattle.fuse_served.specs.Entry as F
use Rattle.solid_fuse.specs.Cleared.{Cleared}
use Rattle.solid_offset.specs.Entries as O
use Rattle.solid_mesh.specs.Mesh.{Drawn, mesh_call}

-- everything that a call hands back: its number, the answer memory and its work slices
pub record Handed : Type 0 where
  pub number : ℕ
  pub answer : List ℕ
  pub floats : List (List Float)
  pub counts : List (List ℕ)

-- the fused Boolean
abbrev pub FuseDone : (job : List ℕ) (corners : ℕ) (rest spare dst : List Float) (held slots counts sizes seats lengths owners cells cuts runs keys begins ord ends marks out many shells answer : List ℕ) (r : ℕ) (rest' spare' dst' : List Float) (held' slots' counts' sizes' seats' lengths' owners' cells' cuts' runs' keys' begins' ord' ends' marks' out' many' shells' answer' : List ℕ) → Type 0
FuseDone job corners rest spare dst held slots counts sizes seats lengths owners cells cuts runs keys begins ord ends marks out many shells answer r rest' spare' dst' held' slots' counts' sizes' seats' lengths' owners' cells' cuts' runs' keys' begins' ord' ends' marks' out' many' shells' answer' =
    let o = F.fuse_entry (lends corners (length answer) (length rest) (length spare) (length dst) (length held) (length slots) (length counts) (length sizes) (length seats) (length lengths) (length owners) (length cells) (length cuts) (length runs) (length keys) (length begins) (length ord) (length ends) (length marks) (length out) (length many) (length shells)) corners job in
    (r ≡ E.told_of o) × ((answer' ≡ E.written o answer) × Cleared rest rest' spare spare' dst dst' held held' slots slots' counts counts' sizes sizes' seats seats' lengths lengths' owners owners' cells cells' cuts cuts' runs runs' keys keys' begins begins' ord ord' ends ends' marks marks' out out' many many' shells shells')

-- the cell Boolean
abbrev pub CellsDone : (job : List ℕ) (corners : ℕ) (rest spare dst : List Float) (held slots counts sizes order chain head seen work nodes cuts answer : List ℕ) (r : ℕ) (rest' spare' dst' : List Float) (held' slots' counts' sizes' order' chain' head' seen' work' nodes' cuts' answer' : List ℕ) → Type 0
CellsDone job corners rest spare dst held slots counts sizes order chain head seen work nodes cuts answer r rest' spare' dst' held' slots' counts' sizes' order' chain' head' seen' work' nodes' cuts' answer' =
    let o = C.cells_entry (C.lends corners (length answer) (length rest) (length spare) (length dst) (length held) (length slots) (length counts) (length sizes) (length order) (length chain) (length head) (length seen) (length work) (length nodes) (length cuts)) corners job in
    (r ≡ E.told_of o)
    × ((answer' ≡ E.written o answer) × Z.Cleared rest rest' spare spare' dst dst' held held' slots slots' counts counts' sizes sizes' order order' chain chain' head head' seen seen' work work' nodes nodes' cuts cuts')

-- the offset of a cell by a distance
abbrev pub OffsetDone : (cell : List ℕ) (distance : Float) (corners : ℕ) (s : List Float) (counts : List ℕ) (dst : List Float) (sizes answer : List ℕ) (r : ℕ) (s' : List Float) (counts' : List ℕ) (dst' : List Float) (sizes' answer' : List ℕ) → Type 0
OffsetDone cell distance corners s counts dst sizes answer r s' counts' dst' sizes' answer' =
    let o = E.fitted (length answer) (O.offset_entry (O.lent corners (length answer) (length s) (length counts) (length dst) (length sizes)) corners distance cell) in
    (r ≡ E.told_of o) × ((answer' ≡ E.written o answer) × O.Cleared s counts dst sizes s' counts' dst' sizes')

-- the cell with a wall of a thickness
abbrev pub HollowDone : (cell : List ℕ) (thickness : Float) (corners : ℕ) (s : List Float) (counts : List ℕ) (dst : List Float) (sizes answer : List ℕ) (r : ℕ) (s' : List Float) (counts' : List ℕ) (dst' : List Float) (sizes' answer' : List ℕ) → Type 0
HollowDone cell thickness corners s counts dst sizes answer r s' counts' dst' sizes' answer' =
    let o = E.fitted (length answer) (O.hollow_entry (O.lent corners (length answer) (length s) (length counts) (length dst) (length sizes)) corners thickness cell) in
    (r ≡ E.told_of o) × ((answer' ≡ E.written o answer) × O.Cleared s counts dst sizes s' counts' dst' sizes')

-- the triangles of a facet
abbrev pub MeshDone : (facet answer : List ℕ) (r : ℕ) (answer' : List ℕ) → Type 0
MeshDone facet answer r answer' = Drawn (mesh_call (length answer) facet) r answer answer'
