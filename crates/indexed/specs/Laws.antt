-- Laws of `indexed`: one turn of each of its loops, in the words of the code.
use Rattle.std.specs.Prelude.{◌≡◌, ℕ, ◌+◌, ◌*◌, ◌≤◌, drop, Float}
use mathlib.Core.List.{List}
use Rattle.std.proofs.Math.ListN.{length}
use Rattle.std.proofs.Math.Seq.{sets}
use Rattle.refusal.specs.Outcome.{Outcome, walk}
use Rattle.space.specs.declared.Point3.{Point3}
use Rattle.space.specs.declared.Precision.{Precision}
use Rattle.space.specs.Near.{near_of}
use Rattle.space.specs.Shapes.{Solid, corners}
use Rattle.polygon.specs.Memory.{floats_of, points_at}
use Rattle.room.specs.Rooms.{Within, cell_at, counts_at}
use Rattle.lists.specs.Walks.{Numbered, numbered}
use Rattle.indexed.specs.Indexed.{Search, place_in, met, only_in, Places, index_point, index_points, index_face, index_faces}
use Rattle.indexed.specs.Stored.{flat}

-- of m points in a slice, i were apart from q
pub record Searched (t : Precision) (q : Point3) (s : List Float) (m i : ℕ) : Type 0 where
  pub upto : i ≤ m
  pub rest : place_in t q i (drop i (points_at s 0 m)) ≡ place_in t q 0 (points_at s 0 m)

-- ---- the one point near another
abbrev pub meet : Precision → Point3 → ℕ → ℕ → Numbered Point3 → Outcome ℕ
meet t q n h r = met (near_of t q r.it) n h r.place

-- of m points in a slice, i are met, and h is found
pub record Meeting (t : Precision) (q : Point3) (s : List Float) (m h i : ℕ) : Type 0 where
  pub upto : i ≤ m
  pub rest : walk (meet t q m) h (drop i (numbered 0 (points_at s 0 m))) ≡ only_in t q (points_at s 0 m)

-- of n corners at a place, j are taken
pub record Taking (find : Search) (s : List Float) (at n m₀ k : ℕ) (p₀ : List Float) (i₀ : List ℕ) (p : List Float) (i : List ℕ) (m j : ℕ) : Type 0 where
  pub state : Places
  pub upto : j ≤ n
  pub count : m ≡ length state.points
  pub grown : m₀ ≤ m
  pub few : m ≤ m₀ + j
  pub points : p ≡ sets p₀ 0 (floats_of state.points)
  pub places : i ≡ sets i₀ k state.places
  pub long : length state.places ≡ j
  pub rest : walk (index_point find) state (drop j (points_at s at n)) ≡ index_points find (points_at p₀ 0 m₀) (points_at s at n)

-- of the n faces of a cell, j are done, with k corners and m points
pub record Walking (find : Search) (s : List Float) (at : ℕ) (counts : List ℕ) (first n : ℕ) (p₀ : List Float) (i₀ : List ℕ) (p : List Float) (i : List ℕ) (m k o j : ℕ) : Type 0 where
  pub state : Solid
  pub upto : j ≤ n
  pub count : m ≡ length state.points
  pub few : m ≤ k
  pub low : 3 * k ≤ o
  pub left : k + corners 0 (cell_at s o (drop j (counts_at counts first n))) ≡ corners 0 (cell_at s at (counts_at counts first n))
  pub within : Within (drop j (counts_at counts first n)) o (length s)
  pub points : p ≡ sets p₀ 0 (floats_of state.points)
  pub places : i ≡ sets i₀ 0 (flat state.faces)
  pub long : length (flat state.faces) ≡ k
  pub rest : walk (index_face find) state (cell_at s o (drop j (counts_at counts first n))) ≡ index_faces find (cell_at s at (counts_at counts first n))

-- what the next face asks
pub record Asked (s : List Float) (p : List Float) (i : List ℕ) (m k o c : ℕ) : Type 0 where
  pub floats : o + 13 + 3 * c ≤ length s
  pub points : 3 * m + 3 * c ≤ length p
  pub places : k + c ≤ length i
  pub all : 3 * (k + c) ≤ length s
