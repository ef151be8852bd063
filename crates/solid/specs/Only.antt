-- Any two results that a call's contract allows are equal: the number, the answer memory and every work slice.
use Rattle.std.specs.Prelude.{◌≡◌, List, [], ◌∷◌, ℕ, Float}
use Rattle.std.proofs.Common.{sym, ◌∙◌}
use Rattle.solid.specs.Calls.{Handed, FuseDone, CellsDone, OffsetDone, HollowDone, MeshDone}

-- ---- the fused Boolean

module _ (job : List ℕ) (corners : ℕ) (rest spare dst : List Float) (held slots counts sizes seats lengths owners cells cuts runs keys begins ord ends marks out many shells answer : List ℕ) where
  pub fuse_only : (r₁ r₂ : ℕ) (rest₁ spare₁ dst₁ rest₂ spare₂ dst₂ : List Float) (held₁ slots₁ counts₁ sizes₁ seats₁ lengths₁ owners₁ cells₁ cuts₁ runs₁ keys₁ begins₁ ord₁ ends₁ marks₁ out₁ many₁ shells₁ answer₁ held₂ slots₂ counts₂ sizes₂ seats₂ lengths₂ owners₂ cells₂ cuts₂ runs₂ keys₂ begins₂ ord₂ ends₂ marks₂ out₂ many₂ shells₂ answer₂ : List ℕ)
      → FuseDone job corners rest spare dst held slots counts sizes seats lengths owners cells cuts runs keys begins ord ends marks out many shells answer r₁ rest₁ spare₁ dst₁ held₁ slots₁ counts₁ sizes₁ seats₁ lengths₁ owners₁ cells₁ cuts₁ runs₁ keys₁ begins₁ ord₁ ends₁ marks₁ out₁ many₁ shells₁ answer₁
      → FuseDone job corners rest spare dst held slots counts sizes seats lengths owners cells cuts runs keys begins ord ends marks out many shells answer r₂ rest₂ spare₂ dst₂ held₂ slots₂ counts₂ sizes₂ seats₂ lengths₂ owners₂ cells₂ cuts₂ runs₂ keys₂ begins₂ ord₂ ends₂ marks₂ out₂ many₂ shells₂ answer₂
      → ◌≡◌ {A = Handed} (record { number = r₁; answer = answer₁; floats = rest₁ ∷ spare₁ ∷ dst₁ ∷ []; counts = held₁ ∷ slots₁ ∷ counts₁ ∷ sizes₁ ∷ seats₁ ∷ lengths₁ ∷ owners₁ ∷ cells₁ ∷ cuts₁ ∷ runs₁ ∷ keys₁ ∷ begins₁ ∷ ord₁ ∷ ends₁ ∷ marks₁ ∷ out₁ ∷ many₁ ∷ shells₁ ∷ [] }) (record { number = r₂; answer = answer₂; floats = rest₂ ∷ spare₂ ∷ dst₂ ∷ []; counts = held₂ ∷ slots₂ ∷ counts₂ ∷ sizes₂ ∷ seats₂ ∷ lengths₂ ∷ owners₂ ∷ cells₂ ∷ cuts₂ ∷ runs₂ ∷ keys₂ ∷ begins₂ ∷ ord₂ ∷ ends₂ ∷ marks₂ ∷ out₂ ∷ many₂ ∷ shells₂ ∷ [] })
  fuse_only r₁ r₂ rest₁ spare₁ dst₁ rest₂ spare₂ dst₂ held₁ slots₁ counts₁ sizes₁ seats₁ lengths₁ owners₁ cells₁ cuts₁ runs₁ keys₁ begins₁ ord₁ ends₁ marks₁ out₁ many₁ shells₁ answer₁ held₂ slots₂ counts₂ sizes₂ seats₂ lengths₂ owners₂ cells₂ cuts₂ runs₂ keys₂ begins₂ ord₂ ends₂ marks₂ out₂ many₂ shells₂ answer₂ d e =
      let c = d.1.1 in
      let g = e.1.1 in
      let number' = d.0 ∙ sym e.0 in
      let answer' = d.1.0 ∙ sym e.1.0 in
      let rest' = c.z_rest ∙ sym g.z_rest in
      let spare' = c.z_spare ∙ sym g.z_spare in
      let dst' = c.z_dst ∙ sym g.z_dst in
      let held' = c.z_held ∙ sym g.z_held in
      let slots' = c.z_slots ∙ sym g.z_slots in
      let counts' = c.z_counts ∙ sym g.z_counts in
      let sizes' = c.z_sizes ∙ sym g.z_sizes in
      let seats' = c.z_seats ∙ sym g.z_seats in
      let lengths' = c.z_lengths ∙ sym g.z_lengths in
      let owners' = c.z_owners ∙ sym g.z_owners in
      let cells' = c.z_cells ∙ sym g.z_cells in
      let cuts' = c.z_cuts ∙ sym g.z_cuts in
      let runs' = c.z_runs ∙ sym g.z_runs in
      let keys' = c.z_keys ∙ sym g.z_keys in
      let begins' = c.z_begins ∙ sym g.z_begins in
      let ord' = c.z_ord ∙ sym g.z_ord in
      let ends' = c.z_ends ∙ sym g.z_ends in
      let marks' = c.z_marks ∙ sym g.z_marks in
      let out' = c.z_out ∙ sym g.z_out in
      let many' = c.z_many ∙ sym g.z_many in
      let shells' = c.z_shells ∙ sym g.z_shells in
      λ i. record { number = number' i; answer = answer' i; floats = rest' i ∷ spare' i ∷ dst' i ∷ []; counts = held' i ∷ slots' i ∷ counts' i ∷ sizes' i ∷ seats' i ∷ lengths' i ∷ owners' i ∷ cells' i ∷ cuts' i ∷ runs' i ∷ keys' i ∷ begins' i ∷ ord' i ∷ ends' i ∷ marks' i ∷ out' i ∷ many' i ∷ shells' i ∷ [] }

-- ---- the cell Boolean

module _ (job : List ℕ) (corners : ℕ) (rest spare dst : List Float) (held slots counts sizes order chain head seen work nodes cuts answer : List ℕ) where
  pub cells_only : (r₁ r₂ : ℕ) (rest₁ spare₁ dst₁ rest₂ spare₂ dst₂ : List Float) (held₁ slots₁ counts₁ sizes₁ order₁ chain₁ head₁ seen₁ work₁ nodes₁ cuts₁ answer₁ held₂ slots₂ counts₂ sizes₂ order₂ chain₂ head₂ seen₂ work₂ nodes₂ cuts₂ answer₂ : List ℕ)
      → CellsDone job corners rest spare dst held slots counts sizes order chain head seen work nodes cuts answer r₁ rest₁ spare₁ dst₁ held₁ slots₁ counts₁ sizes₁ order₁ chain₁ head₁ seen₁ work₁ nodes₁ cuts₁ answer₁
      → CellsDone job corners rest spare dst held slots counts sizes order chain head seen work nodes cuts answer r₂ rest₂ spare₂ dst₂ held₂ slots₂ counts₂ sizes₂ order₂ chain₂ head₂ seen₂ work₂ nodes₂ cuts₂ answer₂
      → ◌≡◌ {A = Handed} (record { number = r₁; answer = answer₁; floats = rest₁ ∷ spare₁ ∷ dst₁ ∷ []; counts = held₁ ∷ slots₁ ∷ counts₁ ∷ sizes₁ ∷ order₁ ∷ chain₁ ∷ head₁ ∷ seen₁ ∷ work₁ ∷ nodes₁ ∷ cuts₁ ∷ [] }) (record { number = r₂; answer = answer₂; floats = rest₂ ∷ spare₂ ∷ dst₂ ∷ []; counts = held₂ ∷ slots₂ ∷ counts₂ ∷ sizes₂ ∷ order₂ ∷ chain₂ ∷ head₂ ∷ seen₂ ∷ work₂ ∷ nodes₂ ∷ cuts₂ ∷ [] })
  cells_only r₁ r₂ rest₁ spare₁ dst₁ rest₂ spare₂ dst₂ held₁ slots₁ counts₁ sizes₁ order₁ chain₁ head₁ seen₁ work₁ nodes₁ cuts₁ answer₁ held₂ slots₂ counts₂ sizes₂ order₂ chain₂ head₂ seen₂ work₂ nodes₂ cuts₂ answer₂ d e =
      let c = d.1.1 in
      let g = e.1.1 in
      let n = d.0 ∙ sym e.0 in
      let a = d.1.0 ∙ sym e.1.0 in
      let rest' = c.z_rest ∙ sym g.z_rest in
      let spare' = c.z_spare ∙ sym g.z_spare in
      let dst' = c.z_dst ∙ sym g.z_dst in
      let held' = c.z_held ∙ sym g.z_held in
      let slots' = c.z_slots ∙ sym g.z_slots in
      let counts' = c.z_counts ∙ sym g.z_counts in
      let sizes' = c.z_sizes ∙ sym g.z_sizes in
      let order' = c.z_order ∙ sym g.z_order in
      let chain' = c.z_chain ∙ sym g.z_chain in
      let head' = c.z_head ∙ sym g.z_head in
      let seen' = c.z_seen ∙ sym g.z_seen in
      let work' = c.z_work ∙ sym g.z_work in
      let nodes' = c.z_nodes ∙ sym g.z_nodes in
      let cuts' = c.z_cuts ∙ sym g.z_cuts in
      λ i. record { number = n i; answer = a i; floats = rest' i ∷ spare' i ∷ dst' i ∷ []; counts = held' i ∷ slots' i ∷ counts' i ∷ sizes' i ∷ order' i ∷ chain' i ∷ head' i ∷ seen' i ∷ work' i ∷ nodes' i ∷ cuts' i ∷ [] }

-- ---- offset and hollow

module _ (cell : List ℕ) (distance : Float) (corners : ℕ) (s : List Float) (counts : List ℕ) (dst : List Float) (sizes answer : List ℕ) where
  pub offset_only : (r₁ r₂ : ℕ) (s₁ s₂ : List Float) (counts₁ counts₂ : List ℕ) (dst₁ dst₂ : List Float) (sizes₁ sizes₂ answer₁ answer₂ : List ℕ)
      → OffsetDone cell distance corners s counts dst sizes answer r₁ s₁ counts₁ dst₁ sizes₁ answer₁
      → OffsetDone cell distance corners s counts dst sizes answer r₂ s₂ counts₂ dst₂ sizes₂ answer₂
      → ◌≡◌ {A = Handed} (record { number = r₁; answer = answer₁; floats = s₁ ∷ dst₁ ∷ []; counts = counts₁ ∷ sizes₁ ∷ [] }) (record { number = r₂; answer = answer₂; floats = s₂ ∷ dst₂ ∷ []; counts = counts₂ ∷ sizes₂ ∷ [] })
  offset_only r₁ r₂ s₁ s₂ counts₁ counts₂ dst₁ dst₂ sizes₁ sizes₂ answer₁ answer₂ d e =
      let n = d.0 ∙ sym e.0 in
      let a = d.1.0 ∙ sym e.1.0 in
      let first = d.1.1.first ∙ sym e.1.1.first in
      let held = d.1.1.held ∙ sym e.1.1.held in
      let second = d.1.1.second ∙ sym e.1.1.second in
      let sized = d.1.1.sized ∙ sym e.1.1.sized in
      λ i. record { number = n i; answer = a i; floats = first i ∷ second i ∷ []; counts = held i ∷ sized i ∷ [] }

module _ (cell : List ℕ) (thickness : Float) (corners : ℕ) (s : List Float) (counts : List ℕ) (dst : List Float) (sizes answer : List ℕ) where
  pub hollow_only : (r₁ r₂ : ℕ) (s₁ s₂ : List Float) (counts₁ counts₂ : List ℕ) (dst₁ dst₂ : List Float) (sizes₁ sizes₂ answer₁ answer₂ : List ℕ)
      → HollowDone cell thickness corners s counts dst sizes answer r₁ s₁ counts₁ dst₁ sizes₁ answer₁
      → HollowDone cell thickness corners s counts dst sizes answer r₂ s₂ counts₂ dst₂ sizes₂ answer₂
      → ◌≡◌ {A = Handed} (record { number = r₁; answer = answer₁; floats = s₁ ∷ dst₁ ∷ []; counts = counts₁ ∷ sizes₁ ∷ [] }) (record { number = r₂; answer = answer₂; floats = s₂ ∷ dst₂ ∷ []; counts = counts₂ ∷ sizes₂ ∷ [] })
  hollow_only r₁ r₂ s₁ s₂ counts₁ counts₂ dst₁ dst₂ sizes₁ sizes₂ answer₁ answer₂ d e =
      let n = d.0 ∙ sym e.0 in
      let a = d.1.0 ∙ sym e.1.0 in
      let first = d.1.1.first ∙ sym e.1.1.first in
      let held = d.1.1.held ∙ sym e.1.1.held in
      let second = d.1.1.second ∙ sym e.1.1.second in
      let sized = d.1.1.sized ∙ sym e.1.1.sized in
      λ i. record { number = n i; answer = a i; floats = first i ∷ second i ∷ []; counts = held i ∷ sized i ∷ [] }

-- ---- the mesh

pub mesh_only : (facet answer : List ℕ) (r₁ r₂ : ℕ) (answer₁ answer₂ : List ℕ) → MeshDone facet answer r₁ answer₁ → MeshDone facet answer r₂ answer₂ →
    ◌≡◌ {A = Handed} (record { number = r₁; answer = answer₁; floats = []; counts = [] }) (record { number = r₂; answer = answer₂; floats = []; counts = [] })
mesh_only facet answer r₁ r₂ answer₁ answer₂ d e =
    let n = d.number ∙ sym e.number in
    let a = d.bytes ∙ sym e.bytes in
    λ i. record { number = n i; answer = a i; floats = []; counts = [] }
