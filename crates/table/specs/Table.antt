-- 01: "P1 to P7, P13 and P14 are proved of the definitions through a single table and statement". The values stand in the crates
-- worked, worked_cells and worked_offset, where the checker computes them.
use Rattle.std.specs.Prelude.{List, [], ◌∷◌, ◌++◌, map}
use Rattle.worked.specs.Worked as W
use Rattle.worked_cells.specs.Worked as C
use Rattle.worked_offset.specs.Worked as F

-- a side, a cut or a mesh; cells of a Boolean operation; an offset or a wall
pub data Case : Type 0 where
  plain : W.Case → Case
  cells : C.Case → Case
  moved : F.Case → Case

abbrev pub Holds : Case → Type 0
Holds (plain c) = W.Holds c
Holds (cells c) = C.Holds c
Holds (moved c) = F.Holds c

-- P1 to P6 and P14; P7; P13 and the thin wall
abbrev pub table : List Case
table = map plain W.cases ++ (map cells C.cases ++ map moved F.cases)

abbrev pub All : List Case → Type 0
All [] = Unit {0}
All (c ∷ cs) = Holds c × All cs

with_plain : (l : List W.Case) (r : List Case) → W.All l → All r → All (map plain l ++ r)
with_plain [] r h a = a
with_plain (c ∷ l) r h a = (h.0, with_plain l r h.1 a)

with_cells : (l : List C.Case) (r : List Case) → C.All l → All r → All (map cells l ++ r)
with_cells [] r h a = a
with_cells (c ∷ l) r h a = (h.0, with_cells l r h.1 a)

with_moved : (l : List F.Case) → F.All l → All (map moved l)
with_moved [] h = tt
with_moved (c ∷ l) h = (h.0, with_moved l h.1)

pub all_hold : All table
all_hold = with_plain W.cases (map cells C.cases ++ map moved F.cases) W.all_hold (with_cells C.cases (map moved F.cases) C.all_hold (with_moved F.cases F.all_hold))
